-- What callers cite of cbl_operations.
pub use Rattle.operation_values.specs.OfCblOperations.declared
