-- What callers cite of cbl_violations.
pub use Rattle.operation_values.specs.OfCblViolations.Violations
