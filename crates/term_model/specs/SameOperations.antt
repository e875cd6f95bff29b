-- Whether two operations are the same: they have one name, and keep the same numbers and lists beside their
-- inputs. A rule of this project.
use Rattle.std.specs.Prelude.{ℕ, ℤ, pos, Bool, ◌&&◌, List, [], ◌∷◌, nat_eq}
use Rattle.std.specs.Ordering.{int_eq}
use lib.Pointwise.{pointwise}
use Rattle.cbl_violations.specs.Constraints.{constraint_numbers, first_kept, second_kept}
use Rattle.cbl_operations.specs.Binary.{binary_number}
use Rattle.cbl_operations.specs.Keyed.{keyed_number}
use Rattle.cbl_operations.specs.Nary.{nary_number}
use Rattle.cbl_operations.specs.TwoSets.{two_sets_number}
use Rattle.cbl_operations.specs.Unary.{unary_number}
use Rattle.cbl_operations.specs.declared.op.Op.{Op}
use Rattle.cbl_operations.specs.declared.op.Op.TheVariants.{Unary, Binary, Nary, Keyed, Element, Element2, TwoSets, Card, Member, Constraint, User}

-- the names as numbers, in order of declaration; those of a type of its own have one name
abbrev pub name_of : Op → ℕ
name_of (Unary op) = 0
name_of (Binary op) = 1
name_of (Nary op) = 2
name_of (Keyed op keys) = 3
name_of (Element low len) = 4
name_of (Element2 low1 len1 low2 len2) = 5
name_of (TwoSets op) = 6
name_of Card = 7
name_of Member = 8
name_of (Constraint constraint) = 9
name_of (User number) = 10

-- the number of an operation among those of its type, and no more
abbrev numbered : ℕ → List ℤ
numbered n = pos n ∷ pos 0 ∷ pos 0 ∷ pos 0 ∷ []

-- what is kept: numbers, of which an operation has four at most, and two lists
abbrev pub numbers_of : Op → List ℤ
numbers_of (Unary op) = numbered (unary_number op)
numbers_of (Binary op) = numbered (binary_number op)
numbers_of (Nary op) = numbered (nary_number op)
numbers_of (Keyed op keys) = numbered (keyed_number op)
numbers_of (Element low len) = low ∷ pos len ∷ pos 0 ∷ pos 0 ∷ []
numbers_of (Element2 low1 len1 low2 len2) = low1 ∷ pos len1 ∷ low2 ∷ pos len2 ∷ []
numbers_of (TwoSets op) = numbered (two_sets_number op)
numbers_of Card = numbered 0
numbers_of Member = numbered 0
numbers_of (Constraint constraint) = constraint_numbers constraint
numbers_of (User number) = numbered number

abbrev pub first_of : Op → List ℤ
first_of (Keyed op keys) = keys
first_of (Constraint constraint) = first_kept constraint
first_of op = []

abbrev pub second_of : Op → List ℤ
second_of (Constraint constraint) = second_kept constraint
second_of op = []

unfoldable pub same_operation : Op → Op → Bool
same_operation a b =
    nat_eq (name_of a) (name_of b) && pointwise int_eq (numbers_of a) (numbers_of b)
    && pointwise int_eq (first_of a) (first_of b) && pointwise int_eq (second_of a) (second_of b)
