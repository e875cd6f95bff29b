pub mod Parts
pub mod Objects
pub mod Declarations
pub mod View
