pub mod Adding
pub mod Graphs
pub mod Heads
pub mod Ids
