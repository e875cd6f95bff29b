pub mod AddLaws
pub mod GraphLaws
pub mod IdLaws
pub mod Lists
pub mod PostedLaws
pub mod SharedLaws
