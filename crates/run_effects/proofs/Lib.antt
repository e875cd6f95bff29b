pub mod ListLaws
pub mod Filling
pub mod VariableLaws
