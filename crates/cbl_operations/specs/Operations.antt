-- The rule of each other operation of a term, one file each.
pub mod And
pub mod ArgMax
pub mod ArgMin
pub mod Card
pub mod Count
pub mod Element
pub mod Element2
pub mod Greatest
pub mod Least
pub mod Member
pub mod Or
pub mod SetOf
pub mod Sum
