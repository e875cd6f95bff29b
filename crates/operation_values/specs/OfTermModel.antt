-- What callers cite of term_model.
pub use Rattle.term_model.specs.Users
