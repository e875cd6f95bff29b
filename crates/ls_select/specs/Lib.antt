pub mod Best
pub mod Candidates
pub mod Joining
pub mod Merging
pub mod Parts
pub mod Picking
pub mod Words
