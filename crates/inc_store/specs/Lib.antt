pub mod Course
pub mod Faults
pub mod Moves
pub mod Stores
pub mod Views
