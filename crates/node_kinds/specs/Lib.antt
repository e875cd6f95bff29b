pub mod ConstantRule
pub mod OpNodes
