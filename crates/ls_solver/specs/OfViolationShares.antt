-- What callers cite of violation_shares.
pub use Rattle.solver_models.specs.OfViolationShares.VariableViolations
