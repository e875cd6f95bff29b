pub mod Versions
pub mod Texts
pub mod Grammar
pub mod Printed
pub mod Refusal
pub mod Headers
pub mod Reading
pub mod Steps
