pub mod Choices
pub mod Depths
pub mod Running
pub mod Turns
pub mod Undoing
