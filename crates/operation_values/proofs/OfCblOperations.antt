-- What callers cite of cbl_operations.
pub use Rattle.cbl_operations.proofs.KindLaws
