-- What callers cite of run_objects.
pub use Rattle.run_objects.proofs.WithLaws
