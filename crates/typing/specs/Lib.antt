pub mod Calls
pub mod Rules
pub mod Declarations
pub mod Simples
pub mod Statements
pub mod Programs
