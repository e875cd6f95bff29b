pub mod Levels
pub mod Raised
pub mod Standing
pub mod Texts
pub mod Undoing
pub mod Values
