pub mod OfCblOperations
pub mod OfCblViolations
pub mod OfTermModel
