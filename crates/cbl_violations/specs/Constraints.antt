-- The constraints, one line each: the rule of each; whether what it keeps beside its inputs is as it must be; and
-- all that it is as four numbers, of which the first tells which it is, in order of declaration, and as two lists. A
-- rule of this project.
use Rattle.std.specs.Prelude.{ℤ, pos, Bool, true, ◌&&◌, List, [], ◌∷◌, int_le}
use Rattle.cbl_base.specs.NumberRule.{NumberRule}
use Rattle.cbl_violations.specs.Violations.AllDifferent.{all_different}
use Rattle.cbl_violations.specs.Violations.AllOf.{all_of}
use Rattle.cbl_violations.specs.Violations.AnyOf.{any_of}
use Rattle.cbl_violations.specs.Violations.AtLeast.{at_least}
use Rattle.cbl_violations.specs.Violations.AtMost.{at_most}
use Rattle.cbl_violations.specs.Violations.Exactly.{exactly}
use Rattle.cbl_violations.specs.Violations.Knapsack.{knapsack}
use Rattle.cbl_violations.specs.Violations.MultiKnapsack.{multi_knapsack}
use Rattle.cbl_violations.specs.Violations.NotHeld.{not_held}
use Rattle.cbl_violations.specs.Violations.Relations.{viol_eq, viol_ne, viol_le, viol_lt}
use Rattle.cbl_violations.specs.Violations.Sequence.{sequence}
use Rattle.cbl_violations.specs.declared.constraint.Constraint.{Constraint}
use Rattle.cbl_violations.specs.declared.constraint.Constraint.TheVariants.{Eq, Ne, Le, Lt, AllDifferent, AtMost, AtLeast, Exactly, Knapsack, MultiKnapsack, Sequence, AllOf, AnyOf, NotHeld}

abbrev pub rule_of_constraint : Constraint → NumberRule
rule_of_constraint Eq = viol_eq
rule_of_constraint Ne = viol_ne
rule_of_constraint Le = viol_le
rule_of_constraint Lt = viol_lt
rule_of_constraint AllDifferent = all_different
rule_of_constraint (AtMost low bounds) = at_most low bounds
rule_of_constraint (AtLeast low bounds) = at_least low bounds
rule_of_constraint (Exactly low bounds) = exactly low bounds
rule_of_constraint (Knapsack weights capacity) = knapsack weights capacity
rule_of_constraint (MultiKnapsack sizes low capacities) = multi_knapsack sizes low capacities
rule_of_constraint (Sequence values most window) = sequence values most window
rule_of_constraint AllOf = all_of
rule_of_constraint AnyOf = any_of
rule_of_constraint NotHeld = not_held

-- the bound of `sequence` is 0 or more, and its windows have one place or more
abbrev pub is_proper : Constraint → Bool
is_proper (Sequence values most window) = int_le (pos 0) most && int_le (pos 1) window
is_proper constraint = true

abbrev pub constraint_numbers : Constraint → List ℤ
constraint_numbers Eq = pos 0 ∷ pos 0 ∷ pos 0 ∷ pos 0 ∷ []
constraint_numbers Ne = pos 1 ∷ pos 0 ∷ pos 0 ∷ pos 0 ∷ []
constraint_numbers Le = pos 2 ∷ pos 0 ∷ pos 0 ∷ pos 0 ∷ []
constraint_numbers Lt = pos 3 ∷ pos 0 ∷ pos 0 ∷ pos 0 ∷ []
constraint_numbers AllDifferent = pos 4 ∷ pos 0 ∷ pos 0 ∷ pos 0 ∷ []
constraint_numbers (AtMost low bounds) = pos 5 ∷ low ∷ pos 0 ∷ pos 0 ∷ []
constraint_numbers (AtLeast low bounds) = pos 6 ∷ low ∷ pos 0 ∷ pos 0 ∷ []
constraint_numbers (Exactly low bounds) = pos 7 ∷ low ∷ pos 0 ∷ pos 0 ∷ []
constraint_numbers (Knapsack weights capacity) = pos 8 ∷ capacity ∷ pos 0 ∷ pos 0 ∷ []
constraint_numbers (MultiKnapsack sizes low capacities) = pos 9 ∷ low ∷ pos 0 ∷ pos 0 ∷ []
constraint_numbers (Sequence values most window) = pos 10 ∷ most ∷ window ∷ pos 0 ∷ []
constraint_numbers AllOf = pos 11 ∷ pos 0 ∷ pos 0 ∷ pos 0 ∷ []
constraint_numbers AnyOf = pos 12 ∷ pos 0 ∷ pos 0 ∷ pos 0 ∷ []
constraint_numbers NotHeld = pos 13 ∷ pos 0 ∷ pos 0 ∷ pos 0 ∷ []

abbrev pub first_kept : Constraint → List ℤ
first_kept (AtMost low bounds) = bounds
first_kept (AtLeast low bounds) = bounds
first_kept (Exactly low bounds) = bounds
first_kept (Knapsack weights capacity) = weights
first_kept (MultiKnapsack sizes low capacities) = sizes
first_kept (Sequence values most window) = values
first_kept constraint = []

abbrev pub second_kept : Constraint → List ℤ
second_kept (MultiKnapsack sizes low capacities) = capacities
second_kept constraint = []
