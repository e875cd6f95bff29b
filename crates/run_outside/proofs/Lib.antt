pub mod HandedLaws
pub mod TakingLaws
