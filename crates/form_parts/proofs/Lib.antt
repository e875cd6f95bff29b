pub mod BodyLaws
pub mod PartLaws
