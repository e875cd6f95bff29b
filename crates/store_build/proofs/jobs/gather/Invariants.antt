use Rattle.std.proofs.Common.{◌≡◌, ◌⊎◌, ℕ, length}
use Rattle.std.specs.List.{Contains}
use Rattle.store_build.specs.Groups.{ids_in}
use Rattle.store_build.specs.Building.{HasCome, AreTasks, IsSettled, job_rules, job_values}
use Rattle.store_build.proofs.jobs.gather.Given as goal

abbrev pub invariant-loop-item : goal.invariant-loop-item
invariant-loop-item g l = record {
  places : length l.outcomes.items ≡ length l.frame.inputs.items;
  kept : (k : ℕ) → HasCome g.aim.outcome l.fn.outcomes.items k → HasCome g.aim.outcome l.outcomes.items k;
  tasks : AreTasks g.aim l.frame l.jobs.ids.items (job_rules g.N.NodeRule.rule l.jobs) (job_values l.jobs);
  all : (k : ℕ) → Contains (ids_in l.yielded) k → IsSettled g.aim l.frame l.outcomes.items k ⊎ Contains l.jobs.ids.items k;
}
