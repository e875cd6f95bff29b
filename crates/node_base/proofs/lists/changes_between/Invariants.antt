use Rattle.std.proofs.Common.{◌≡◌, ◌++◌, drop}
use Rattle.node_base.proofs.ListChanges.{changes_from}
use Rattle.node_base.proofs.lists.changes_between.Given as goal

abbrev pub invariant-loop-place : goal.invariant-loop-place
invariant-loop-place l = (l.changes.items ++ changes_from l.place (drop l.place l.from) (drop l.place l.to)) ≡ changes_from 0 l.from l.to
