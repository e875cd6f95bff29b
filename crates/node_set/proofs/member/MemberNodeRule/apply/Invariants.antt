use Rattle.std.proofs.Common.{◌≡◌, take, [], ◌∷◌}
use Rattle.cbl_base.specs.declared.input.Input.TheVariants.{Int, Set}
use Rattle.cbl_base.specs.Changes.{after_changes}
use Rattle.node_set.proofs.member.MemberNodeRule.apply.Given as goal

abbrev pub invariant-loop-change : goal.invariant-loop-change
invariant-loop-change l =
    (Int l.self.number ∷ Set l.self.set ∷ []) ≡ after_changes (Int l.fn.self.number ∷ Set l.fn.self.set ∷ []) (take l.change-index l.changes)
