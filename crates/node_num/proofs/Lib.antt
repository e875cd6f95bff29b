pub mod Operands
pub mod SmallTotals
pub mod TruthCounts
