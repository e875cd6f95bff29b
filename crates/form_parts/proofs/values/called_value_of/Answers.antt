use Rattle.std.proofs.Common.{rules, FitsSigned, w64, subst}
use Rattle.std.proofs.lemmas.Int.{to_z-of_z}
use Rattle.comet_meaning.specs.Parts.{value}
use Rattle.comet_meaning.specs.Program.{level}
use Rattle.run_steps.specs.OfRunState.Views.{state_seen}
use Rattle.run_steps.specs.Does.{Does}
use Rattle.run_steps.specs.Views.{part}
use Rattle.run_values.specs.Views.{value_seen}
use Rattle.form_parts.proofs.values.called_value_of.Goals as goal

pub returns-in-Some : goal.returns-in-Some
returns-in-Some g c = let f : FitsSigned w64 c.in-Some.number = search rules in record { did = rw (to_z-of_z w64 c.in-Some.number f) (c.in-Some.ensures.given (g.O.Outside.told c.args.out.now)) }

pub returns-in-None : goal.returns-in-None
returns-in-None g c = record { did = subst (λ s. Does value_seen c.evaluated_value_of.result (state_seen c.evaluated_value_of.new.s (g.O.Outside.told c.evaluated_value_of.new.out)) (value (level (g.W.Within.code c.args.inside.now) (g.W.Within.depth c.args.inside.now)) (part c.args.e.now) s)) (c.in-None.ensures.given (g.O.Outside.told c.args.out.now)) c.evaluated_value_of.ensures.did }
