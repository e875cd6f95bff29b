pub mod Building
pub mod Keeping
pub mod Made
pub mod Refusals
