-- What callers cite of violation_shares.
pub use Rattle.violation_shares.specs.VariableViolations
