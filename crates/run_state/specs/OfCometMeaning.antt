-- What callers cite of comet_meaning.
pub use Rattle.comet_meaning.specs.State
