-- What follows the beginning of a `with`: its body, and at the end of the outermost one on its solver what waits is
-- committed, and handlers run. From the language.
use Rattle.std.specs.Prelude.{ℕ, Bool, true, false}
use Rattle.cbl_base.specs.declared.place.Place.{Place}
use Rattle.checked_tree.specs.Tasks.{Work}
use Rattle.comet_meaning.specs.Blocks.{commit_waiting}
use Rattle.comet_meaning.specs.Changes.{noticed}
use Rattle.comet_meaning.specs.Events.{run_queue}
use Rattle.comet_meaning.specs.Levels.{Level, Flow}
use Rattle.comet_meaning.specs.Outcome.{Act, ◌>>=◌, give}

abbrev pub block : Level → Place → ℕ → Work → Bool → Act Flow
block l at k body true = (l.stmt body >>= λ flow. noticed k (commit_waiting k) >>= λ _. give flow) >>= λ flow. run_queue l at >>= λ _. give flow
block l at k body false = l.stmt body
