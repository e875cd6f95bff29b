use Rattle.std.proofs.Common.{◌≡◌, take}
use Rattle.term_model.specs.Naming.{users_posted}
use Rattle.term_model.proofs.naming.user_numbers.Given as goal

abbrev pub invariant-loop-turn : goal.invariant-loop-turn
invariant-loop-turn l = l.numbers.items ≡ users_posted l.model (take l.turn l.model.posted.items)
