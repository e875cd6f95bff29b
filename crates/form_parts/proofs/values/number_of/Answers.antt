use Rattle.std.proofs.Common.{rules, FitsSigned, w64}
use Rattle.std.proofs.lemmas.Int.{to_z-of_z}
use Rattle.comet_meaning.specs.Parts.{number}
use Rattle.form_parts.proofs.values.number_of.Goals as goal

pub returns-in-None : goal.returns-in-None
unfolding number
returns-in-None g c = record { did = c.as_number.ensures.did _ _ c.value_of.ensures.did }

pub returns-in-Some : goal.returns-in-Some
returns-in-Some g c = let f : FitsSigned w64 c.in-Some.number = search rules in record { did = rw (to_z-of_z w64 c.in-Some.number f) (rw c.room.ensures at (c.in-Some.ensures.given (g.W.Within.code c.args.inside.now) (g.O.Outside.told c.args.out.now))) }
