pub mod CardinalityLaws
pub mod RepeatLemmas
pub mod TotalsShift
