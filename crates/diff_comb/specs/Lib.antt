pub mod Combined
pub mod NewNumbers
pub mod OneMember
pub mod Products
pub mod Related
