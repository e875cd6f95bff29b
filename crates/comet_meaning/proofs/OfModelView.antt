-- What callers cite of model_view.
pub use Rattle.model_view.proofs.Dependencies
pub use Rattle.model_view.proofs.PlainModels
pub use Rattle.model_view.proofs.PlainParts
pub use Rattle.model_view.proofs.PlainSubterms
pub use Rattle.model_view.proofs.PlainTerms
