pub mod Kept
pub mod Makes
