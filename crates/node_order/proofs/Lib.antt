pub mod ExtremeLemmas
pub mod IndexLemmas
pub mod LowestLemmas
pub mod MirrorLemmas
