pub mod Lists
pub mod Returned
