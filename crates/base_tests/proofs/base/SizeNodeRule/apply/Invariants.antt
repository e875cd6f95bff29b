use Rattle.std.proofs.Common.{◌≡◌, take, [], ◌∷◌}
use Rattle.cbl_base.specs.declared.input.Input.TheVariants.{Set}
use Rattle.cbl_base.specs.Changes.{after_changes}
use Rattle.base_tests.proofs.base.SizeNodeRule.apply.Given as goal

abbrev pub invariant-loop-change : goal.invariant-loop-change
invariant-loop-change l = (Set l.self.set ∷ []) ≡ after_changes (Set l.fn.self.set ∷ []) (take l.change-index l.changes)
