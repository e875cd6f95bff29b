use Rattle.std.proofs.Common.{rules, FitsSigned, w64, subst}
use Rattle.std.proofs.lemmas.Int.{to_z-of_z}
use Rattle.checked_tree.specs.declared.kind.Kind.TheVariants as kinds
use Rattle.comet_meaning.specs.Cells.{put}
use Rattle.comet_meaning.specs.Levels as levels
use Rattle.comet_meaning.specs.Outcome.{then_do}
use Rattle.comet_meaning.specs.Parts.{value}
use Rattle.comet_meaning.specs.Program.{level}
use Rattle.comet_meaning.specs.Values.{Number, as_kind}
use Rattle.comet_meaning.specs.Writes.{write}
use Rattle.run_steps.specs.OfRunState.Views.{state_seen}
use Rattle.comet_meaning.proofs.GoingOn.{goes_put}
use Rattle.run_steps.specs.Does.{Does}
use Rattle.run_steps.specs.Views.{part}
use Rattle.run_steps.proofs.Exits.{act_does}
use Rattle.write_forms.proofs.writes.assign_called.Goals as goal

pub returns-in-Some : goal.returns-in-Some
unfolding write
returns-in-Some g c = let f : FitsSigned w64 c.in-Some.number = search rules in record { did = rw (c.in-Some.ensures.given (g.O.Outside.told c.args.out.now)) (act_does (λ _. tt) c.put.result _ (put c.args.slot (Number c.in-Some.number) (state_seen c.called_number.new.s (g.O.Outside.told c.args.out.now))) (rw (to_z-of_z w64 c.in-Some.number f) at (c.put.ensures.did (g.O.Outside.told c.args.out.now))) ((goes_put c.args.slot (Number c.in-Some.number)).from (state_seen c.called_number.new.s (g.O.Outside.told c.args.out.now))).printed) }

pub returns-in-None : goal.returns-in-None
returns-in-None g c = record { did = subst (λ s. Does (λ _. tt) c.assign_part.result (state_seen c.assign_part.new.s (g.O.Outside.told c.assign_part.new.out)) (then_do (value (level (g.W.Within.code c.args.inside.now) (g.W.Within.depth c.args.inside.now)) (part c.args.value.now) s) (λ v. write c.args.at (levels.Name c.args.slot) (as_kind kinds.Int v)))) (c.in-None.ensures.given (g.O.Outside.told c.args.out.now)) (c.assign_part.ensures.did _ c.other_value_of-value.ensures.did) }
