use Rattle.comet_meaning.proofs.GoingEvents.{goes_behind_commit}
use Rattle.comet_meaning.proofs.GoingOn.{goes_then}
use Rattle.write_forms.proofs.WriteLaws.{follows_both}
use Rattle.comet_meaning.proofs.GoingStatements.{goes_level, goes_swapped_at}
use Rattle.comet_meaning.specs.Events.{behind_commit}
use Rattle.comet_meaning.specs.Levels.{Level, Target}
use Rattle.comet_meaning.specs.Program.{level}
use Rattle.comet_meaning.specs.Writes.{swap_form, swapped_at}
use Rattle.run_steps.specs.OfRunState.Targets.{target_seen}
use Rattle.std.proofs.lemmas.Result.{err_from_is_err_and}
use Rattle.run_steps.proofs.Stops.{ended_then}
use Rattle.write_forms.proofs.writes.swap_values.Goals as goal

pub returns-in_err-left : goal.returns-in_err-left
unfolding swap_form
returns-in_err-left g c = let p = err_from_is_err_and c.from_residual.result c.from_residual.ensures.1 in record { did = rw (p.1, p.2) (ended_then _ _ _ _ (λ x. goes_then ((goes_level _ _).target _) (λ y. goes_then (goes_swapped_at _ x y) (λ _. goes_behind_commit _ (goes_level _ _) _ x))) c.in_err-left.ensures.did) }

pub returns : goal.returns
unfolding swap_form
returns g c =
    let l : Level = level (g.W.Within.code c.args.inside.now) (g.W.Within.depth c.args.inside.now) in
    let target : Target = target_seen c.in_ok-left.left in
    record { did = rw c.in_ok-left.ensures.did (follows_both _ _ _ _ _ _ _ _ _ _ _ _ _ _ _ _ (λ other. swapped_at c.args.at target other) (λ (u : Unit {0}). behind_commit l c.args.at target) c.target_of-right.ensures.did c.swap_part-done.ensures.did c.behind_commit.ensures.did) }
