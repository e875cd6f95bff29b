-- What callers cite of solver_store.
pub use Rattle.solver_store.specs.Asking
pub use Rattle.solver_store.specs.Closed
