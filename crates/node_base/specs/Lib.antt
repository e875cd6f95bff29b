pub mod Counting
pub mod KeptCounts
pub mod NumberChanges
