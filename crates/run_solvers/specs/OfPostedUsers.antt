-- What callers cite of posted_users.
pub use Rattle.posted_users.specs.KeptCode
pub use Rattle.posted_users.specs.KeptOf
pub use Rattle.posted_users.specs.KeptRule
