pub mod SetChanges
pub mod WithBlocks
pub mod OfRunOutside
pub mod OfRunSearch
pub mod OfRunSolvers
pub mod OfRunState
