pub mod Replies
pub mod Pool
pub mod Desk
pub mod History
pub mod KLeast
pub mod DeskLaws
