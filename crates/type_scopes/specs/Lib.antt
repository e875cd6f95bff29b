pub mod Latest
pub mod Effects
pub mod State
pub mod Did
pub mod Names
pub mod Index
pub mod Functions
pub mod Uses
