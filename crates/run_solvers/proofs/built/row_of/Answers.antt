-- No term, and one more.
use Rattle.std.proofs.Common.{◌≡◌, [], rules}
use Rattle.run_solvers.proofs.BuiltLaws.{none_built}
use Rattle.run_solvers.proofs.built.row_of.Goals as goal

pub loop-built-init : goal.loop-built-init
loop-built-init c =
    let none : c.new.result.items ≡ [] = search rules in
    rw none none_built

pub loop-built-preserved : goal.loop-built-preserved
loop-built-preserved c = c.in_ok-push_built.ensures c.loop-built.yielded c.loop-built.invariant
