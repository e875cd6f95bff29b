pub mod Fits
pub mod Fitting
pub mod Generators
pub mod Links
