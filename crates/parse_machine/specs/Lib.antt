pub mod Choosing
pub mod Forms
pub mod Items
pub mod Listing
pub mod Parts
pub mod Rows
pub mod Undoing
