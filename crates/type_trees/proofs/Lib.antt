pub mod Declarations
pub mod Expressions
pub mod Parts
pub mod Programs
pub mod Senses
pub mod Statements
pub mod Works
