pub mod ChangeLemmas
pub mod ListChanges
pub mod OverlayLemmas
pub mod TallyLemmas
pub mod ValueSums
