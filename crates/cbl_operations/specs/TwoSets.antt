-- The operations on two sets: the set that each gives, and its number, in order of declaration. A rule of this project.
use Rattle.std.specs.Prelude.{ℕ, ℤ, List, ◌++◌, filter, not}
use Rattle.cbl_base.specs.NodeLaw.{Rule}
use Rattle.cbl_base.specs.Sets.{is_member, set_of}
use Rattle.cbl_operations.specs.SetForms.{rule_of_two_sets}
use Rattle.cbl_operations.specs.declared.two_sets.TwoSetsOp.{TwoSetsOp}
use Rattle.cbl_operations.specs.declared.two_sets.TwoSetsOp.TheVariants.{Union, Inter, Minus}

-- the members of either
abbrev pub union_of : List ℤ → List ℤ → List ℤ
union_of s t = set_of (s ++ t)

-- the members of both
abbrev pub inter_of : List ℤ → List ℤ → List ℤ
inter_of s t = set_of (filter (λ v. is_member v t) s)

-- the members of `s` that are none of `t`
abbrev pub minus_of : List ℤ → List ℤ → List ℤ
minus_of s t = set_of (filter (λ v. not (is_member v t)) s)

abbrev pub two_sets_value : TwoSetsOp → List ℤ → List ℤ → List ℤ
two_sets_value Union = union_of
two_sets_value Inter = inter_of
two_sets_value Minus = minus_of

abbrev pub rule_of_sets : TwoSetsOp → Rule
rule_of_sets op = rule_of_two_sets (two_sets_value op)

abbrev pub two_sets_number : TwoSetsOp → ℕ
two_sets_number Union = 0
two_sets_number Inter = 1
two_sets_number Minus = 2
