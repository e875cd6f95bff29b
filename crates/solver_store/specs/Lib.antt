pub mod Asking
pub mod Closed
pub mod FreeMoves
pub mod KeptRules
pub mod NodeRules
pub mod Reads
pub mod ToldChanges
pub mod UserTerms
