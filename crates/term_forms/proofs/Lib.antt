pub mod ChainLaws
pub mod IndexLaws
pub mod BodyLaws
pub mod CallLaws
