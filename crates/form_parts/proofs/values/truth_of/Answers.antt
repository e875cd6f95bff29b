use Rattle.comet_meaning.specs.Parts.{truth}
use Rattle.form_parts.proofs.values.truth_of.Goals as goal

pub returns-in-None : goal.returns-in-None
unfolding truth
returns-in-None g c = record { did = c.as_truth.ensures.did _ _ c.value_of.ensures.did }

pub returns-in-Some : goal.returns-in-Some
returns-in-Some g c = record { did = rw c.room.ensures at (c.in-Some.ensures.given (g.W.Within.code c.args.inside.now) (g.O.Outside.told c.args.out.now)) }
