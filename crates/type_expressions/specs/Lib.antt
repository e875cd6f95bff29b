pub mod Expressions
pub mod View
