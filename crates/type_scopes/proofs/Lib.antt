pub mod Spellings
pub mod Indexes
pub mod Loops
pub mod Declarations
