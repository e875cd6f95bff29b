-- The numbers wait, where numbers wait.
use Rattle.std.proofs.Common.{ℤ, List, subst}
use Rattle.run_solvers.specs.Makes.{TriesToMove}
use Rattle.run_solvers.specs.Solutions.{restored_one}
use Rattle.run_solvers.specs.Views.{held_seen}
use Rattle.run_solvers.proofs.held.Held.try_restore.Goals as goal

pub returns-then-is_some : goal.returns-then-is_some
returns-then-is_some g c =
    subst (λ (values : List ℤ). TriesToMove c.args.self.now c.restore_later.new.self c.restore_later.result (restored_one c.args.at values (held_seen c.args.self.now))) c.as_slice.ensures c.restore_later.ensures
