pub mod Declared
pub mod Ran
