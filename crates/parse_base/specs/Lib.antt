pub mod Promise
pub mod Reading
