use Rattle.std.proofs.Common.{◌≡◌, take}
use Rattle.model_values.specs.Support.{roots_in}
use Rattle.model_values.proofs.reach.roots_of.Given as goal

abbrev pub invariant-loop-turn : goal.invariant-loop-turn
invariant-loop-turn g l = l.roots.items ≡ roots_in l.tables.model.now l.whole (take l.turn l.tables.model.now.posted.items)
