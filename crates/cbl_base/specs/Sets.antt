-- A set of numbers is the list of its members, which rises: each is below all later ones. What is
-- added or taken away is said by the members that are below and above it. A rule of this project.
use Rattle.std.specs.Prelude.{ℤ, Bool, List, [], ◌∷◌, ◌++◌, filter, fold, int_lt, ◌<ℤ◌}
use Rattle.std.specs.Ordering.{int_eq}
use Rattle.std.specs.List.{list_any}

-- the number is below each of these
abbrev pub IsBelowAll : ℤ → List ℤ → Type 0
IsBelowAll v [] = Unit {0}
IsBelowAll v (x ∷ xs) = (v <ℤ x) × IsBelowAll v xs

-- each number is below all later ones
abbrev pub IsRising : List ℤ → Type 0
IsRising [] = Unit {0}
IsRising (x ∷ xs) = IsBelowAll x xs × IsRising xs

-- whether the number is one of these
abbrev pub is_member : ℤ → List ℤ → Bool
is_member v xs = list_any (λ x. int_eq x v) xs

-- those below the number, and those above it
abbrev pub below : ℤ → List ℤ → List ℤ
below v xs = filter (λ x. int_lt x v) xs

abbrev pub above : ℤ → List ℤ → List ℤ
above v xs = filter (λ x. int_lt v x) xs

-- the set with the number, and without it
abbrev pub with_member : ℤ → List ℤ → List ℤ
with_member v s = below v s ++ v ∷ above v s

abbrev pub without_member : ℤ → List ℤ → List ℤ
without_member v s = below v s ++ above v s

-- the set with each of these, and without each of them
abbrev pub with_members : List ℤ → List ℤ → List ℤ
with_members vs s = fold (λ t v. with_member v t) s vs

abbrev pub without_members : List ℤ → List ℤ → List ℤ
without_members vs s = fold (λ t v. without_member v t) s vs

-- the set of these numbers, whatever their order and however often each stands there
abbrev pub set_of : List ℤ → List ℤ
set_of xs = with_members xs []
