pub mod HandedIn
pub mod Shares
pub mod Told
pub mod OfRunSolvers
