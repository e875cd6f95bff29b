pub mod Board
pub mod Replies
pub mod History
pub mod Least
pub mod BoardLaws
pub mod Port
