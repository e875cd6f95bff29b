pub mod MethodLaws
pub mod PostLaws
pub mod UserPostLaws
