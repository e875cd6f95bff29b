pub mod Iteration
pub mod Schedule
pub mod Runs
