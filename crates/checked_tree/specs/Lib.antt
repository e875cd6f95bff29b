pub mod Shape
pub mod Actions
pub mod Tasks
