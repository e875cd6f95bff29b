-- What callers cite of run_solvers.
pub use Rattle.run_solvers.specs.Opening
pub use Rattle.run_solvers.specs.Solutions
pub use Rattle.run_solvers.specs.Stopping
pub use Rattle.run_solvers.specs.Told
pub use Rattle.run_solvers.specs.Views
pub use Rattle.run_solvers.specs.declared
