pub mod Differences
pub mod Overlays
pub mod ChangeLists
pub mod Course
pub mod Parts
