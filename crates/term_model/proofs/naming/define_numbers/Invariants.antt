use Rattle.std.proofs.Common.{◌≡◌, take}
use Rattle.std.specs.Prelude.{filter_map}
use Rattle.term_model.specs.Posting.{define_number}
use Rattle.term_model.proofs.naming.define_numbers.Given as goal

abbrev pub invariant-loop-turn : goal.invariant-loop-turn
invariant-loop-turn l = l.numbers.items ≡ filter_map define_number (take l.turn l.model.posted.items)
