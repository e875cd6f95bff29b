pub mod Declarations
pub mod Expressions
pub mod Programs
pub mod Shown
pub mod Statements
