-- What callers cite of run_solvers.
pub use Rattle.run_state.specs.OfRunSolvers.Opening
pub use Rattle.run_state.specs.OfRunSolvers.Views
pub use Rattle.run_state.specs.OfRunSolvers.declared
