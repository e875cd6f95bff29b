pub mod KeptRule
pub mod Moves
pub mod UserRule
