-- What callers cite of run_solvers.
pub use Rattle.run_outside.specs.OfRunSolvers.Opening
pub use Rattle.run_outside.specs.OfRunSolvers.Solutions
pub use Rattle.run_outside.specs.OfRunSolvers.Stopping
pub use Rattle.run_outside.specs.OfRunSolvers.Views
pub use Rattle.run_outside.specs.OfRunSolvers.declared
