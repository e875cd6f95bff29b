-- What callers cite of run_solvers.
pub use Rattle.run_objects.specs.OfRunSolvers.Views
