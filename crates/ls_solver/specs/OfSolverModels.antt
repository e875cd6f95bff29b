-- What callers cite of solver_models.
pub use Rattle.solver_models.specs.Changes
pub use Rattle.solver_models.specs.FreeVariables
pub use Rattle.solver_models.specs.Ids
pub use Rattle.solver_models.specs.UserPosting
pub use Rattle.solver_models.specs.declared
