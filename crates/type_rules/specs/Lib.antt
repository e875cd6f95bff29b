pub mod Kinds
pub mod Rules
pub mod Rows
pub mod Classes
