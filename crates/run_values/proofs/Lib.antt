pub mod CommaTexts
pub mod MappedLists
pub mod PlainTexts
