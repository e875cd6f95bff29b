pub mod Bounds
pub mod Constraints
pub mod Fitting
pub mod Pairs
pub mod Violations
