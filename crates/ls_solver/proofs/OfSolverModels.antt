-- What callers cite of solver_models.
pub use Rattle.solver_models.proofs.FreeLaws
pub use Rattle.solver_models.proofs.MemberLaws
pub use Rattle.solver_models.proofs.TotalLaws
