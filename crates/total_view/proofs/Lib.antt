pub mod PlainTotals
pub mod PlainShares
pub mod GainedTotals
