-- What callers cite of cbl_violations.
pub use Rattle.cbl_violations.specs.Violations
