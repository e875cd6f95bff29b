-- What callers cite of cbl_operations.
pub use Rattle.cbl_operations.specs.RuleOf
pub use Rattle.cbl_operations.specs.declared
