use Rattle.std.proofs.Common.{◌≡◌, take}
use Rattle.cbl_base.specs.Sets.{with_members, without_members}
use Rattle.base_tests.proofs.base.edit.Given as goal

abbrev pub invariant-loop-v : goal.invariant-loop-v
invariant-loop-v l = l.set ≡ with_members (take l.v-index l.v-items) l.fn.set

abbrev pub invariant-loop-v-2 : goal.invariant-loop-v-2
invariant-loop-v-2 l = l.set ≡ without_members (take l.v-index l.v-items) (with_members l.added l.fn.set)
