-- What callers cite of comet_meaning.
pub use Rattle.comet_meaning.specs.Blocks
pub use Rattle.comet_meaning.specs.Models
pub use Rattle.comet_meaning.specs.Onward
pub use Rattle.comet_meaning.specs.Outcome
pub use Rattle.comet_meaning.specs.Parts
pub use Rattle.comet_meaning.specs.Posting
pub use Rattle.comet_meaning.specs.Solutions
pub use Rattle.comet_meaning.specs.Solvers
pub use Rattle.comet_meaning.specs.State
pub use Rattle.comet_meaning.specs.Systems
pub use Rattle.comet_meaning.specs.TakingUsers
pub use Rattle.comet_meaning.specs.Users
pub use Rattle.comet_meaning.specs.Values
pub use Rattle.comet_meaning.specs.Variables
