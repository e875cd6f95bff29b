use Rattle.std.proofs.Common.{rules, ℤ, Ok, sym, ap, ◌∙◌, subst, w64, FitsSigned}
use Rattle.std.proofs.lemmas.Int.{to_z-of_z}
use Rattle.inc_store.specs.Moves.{moved_to}
use Rattle.inc_store.specs.Views.{graph_in, value_at}
use Rattle.trial.specs.Differences.{IsRefusal}
use Rattle.trial.specs.declared.fault.TrialFault.{TrialFault}
use Rattle.trial.proofs.Probing.{refused}
use Rattle.trial.proofs.trial_calls.Trial.probe.Goals as goal

pub returns-in-Ok : goal.returns-in-Ok
returns-in-Ok g c =
    let told = c.difference.ensures in
    let d = c.in-Ok.ensures.difference in
    let fits : FitsSigned w64 c.in-Ok.number = search rules in
    record { difference = (d.0, d.1, d.2, d.3 ∙ ap (λ (z : ℤ). Ok z) (sym (to_z-of_z w64 c.in-Ok.number fits))); fault = tt; steps_in_all = told.steps_in_all; steps_below = told.steps_below }

pub returns-in-Err : goal.returns-in-Err
returns-in-Err g c =
    let told = c.difference.ensures in
    let s = c.args.store.now in
    record {
      difference = tt;
      fault = subst (λ (stop : TrialFault). IsRefusal (graph_in g.N.NodeRule.rule s) (value_at s) (moved_to c.args.moves.now (value_at s)) c.args.target.0 stop) (sym c.fault_at.ensures)
          (refused (graph_in g.N.NodeRule.rule s) (value_at s) (moved_to c.args.moves.now (value_at s)) c.args.target c.in-Err.fault c.in-Err.ensures.fault);
      steps_in_all = told.steps_in_all;
      steps_below = told.steps_below;
    }
