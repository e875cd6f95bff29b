pub mod NumberValues
pub mod OfCblOperations
