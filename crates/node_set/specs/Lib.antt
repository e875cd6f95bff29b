pub mod Bags
pub mod Combining
pub mod Edits
pub mod Placing
