pub mod Cones
pub mod Entries
pub mod Listed
pub mod Meaning
pub mod Telling
pub mod Touch
pub mod Turns
pub mod Waits
