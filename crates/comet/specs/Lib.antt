pub mod Asking
pub mod Headline
pub mod Line
pub mod Loading
pub mod Output
pub mod Status
