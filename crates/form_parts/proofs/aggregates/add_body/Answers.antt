use Rattle.std.proofs.Common.{sym, subst, map, w64}
use Rattle.std.proofs.lemmas.Int.{to_z-of_z}
use Rattle.form_parts.proofs.BodyLaws.{body_adds}
use Rattle.comet_meaning.specs.TermForms.{keyed_form}
use Rattle.comet_meaning.proofs.GoingTerms.{goes_with_keyed}
use Rattle.form_parts.specs.Bodies.{body_seen}
use Rattle.run_steps.specs.Does.{Does}
use Rattle.comet_meaning.proofs.GoingOn.{goes_then, goes_give, goes_if}
use Rattle.comet_meaning.proofs.GoingParts.{goes_one_term}
use Rattle.comet_meaning.proofs.GoingStatements.{goes_level}
use Rattle.run_steps.proofs.Exits.{act_does, call_exit}
use Rattle.run_steps.specs.OfRunState.Views.{state_seen}
use Rattle.form_parts.proofs.aggregates.add_body.Goals as goal

pub returns-in_err-passes : goal.returns-in_err-passes
unfolding keyed_form
returns-in_err-passes g c = record { did = call_exit _ _ _ _ _ _ c.from_residual.ensures.1 c.in_err-passes.ensures.did (λ t. goes_if t (goes_then (goes_one_term _ (goes_level _ _) _) (λ v. goes_with_keyed c.args.at c.args.aggregate c.args.key (map body_seen c.args.bodies.now.items) v)) goes_give) }

pub returns : goal.returns
returns g c = record { did = subst (Does _ _ _) (sym (body_adds _ _ _ _ _ _ _ _ c.in_ok-passes.ensures.did c.if-not-branch.false c.in_ok-term.ensures.did)) (act_does _ _ _ _ (rw (to_z-of_z w64 c.args.key c.ranges.key) at (c.push_body.ensures.did (state_seen c.single_term.new.s (g.O.Outside.told c.single_term.new.out)))) ((goes_with_keyed c.args.at c.args.aggregate c.args.key (map body_seen c.args.bodies.now.items) c.in_ok-term.term).from _).printed) }
