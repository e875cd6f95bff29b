use Rattle.comet_meaning.proofs.GoingEvents.{goes_behind_commit}
use Rattle.comet_meaning.proofs.GoingOn.{goes_then}
use Rattle.write_forms.proofs.WriteLaws.{follows_both}
use Rattle.comet_meaning.proofs.GoingParts.{goes_value}
use Rattle.comet_meaning.proofs.GoingStatements.{goes_level, goes_write}
use Rattle.comet_meaning.specs.Events.{behind_commit}
use Rattle.comet_meaning.specs.Levels.{Level, Target}
use Rattle.comet_meaning.specs.Program.{level}
use Rattle.comet_meaning.specs.Values.{as_kind}
use Rattle.comet_meaning.specs.Writes.{assign_form, write}
use Rattle.run_steps.specs.OfRunState.Targets.{target_seen}
use Rattle.std.proofs.lemmas.Result.{err_from_is_err_and}
use Rattle.run_steps.proofs.Stops.{ended_then}
use Rattle.write_forms.proofs.writes.assign_any.Goals as goal

pub returns-in_err-target : goal.returns-in_err-target
unfolding assign_form
returns-in_err-target g c = let p = err_from_is_err_and c.from_residual.result c.from_residual.ensures.1 in record { did = rw (p.1, p.2) (ended_then _ _ _ _ (λ x. goes_then (goes_value _ (goes_level _ _) _) (λ v. goes_then (goes_write _ x _) (λ _. goes_behind_commit _ (goes_level _ _) _ x))) c.in_err-target.ensures.did) }

pub returns : goal.returns
unfolding assign_form
returns g c =
    let l : Level = level (g.W.Within.code c.args.inside.now) (g.W.Within.depth c.args.inside.now) in
    let target : Target = target_seen c.in_ok-target.target in
    record { did = rw c.in_ok-target.ensures.did (follows_both _ _ _ _ _ _ _ _ _ _ _ _ _ _ _ _ (λ v. write c.args.at target (as_kind c.args.target.now.kind v)) (λ (u : Unit {0}). behind_commit l c.args.at target) c.value_of-value.ensures.did c.assign_part-done.ensures.did c.behind_commit.ensures.did) }
