pub mod Few
pub mod JunctionRules
pub mod Truths
