pub mod Numerals
pub mod Cutting
pub mod Gathering
pub mod Forming
pub mod Ranges
