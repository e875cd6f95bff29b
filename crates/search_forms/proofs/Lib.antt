pub mod CandidateLaws
pub mod LastLaws
pub mod ListingLaws
pub mod ScanLaws
pub mod TieLaws
pub mod ChoiceLaws
pub mod LaterLaws
