use Rattle.std.proofs.Common.{◌≡◌, true, take}
use Rattle.std.specs.List.{list_all}
use Rattle.solver_models.specs.Ids.{is_given, names_only}
use Rattle.solver_models.proofs.ids.+names_given.Given as goal

abbrev pub invariant-loop-arg : goal.invariant-loop-arg
invariant-loop-arg l = list_all (names_only (is_given l.number l.count)) (take l.arg-index l.arg-items) ≡ true
