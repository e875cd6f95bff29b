pub mod CardinalityTotals
pub mod Differences
pub mod NumberRules
pub mod Repeats
