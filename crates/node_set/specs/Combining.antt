-- Two sets are combined to the set of the members of either, of both, of the first alone or of the
-- second alone. A rule of this project.
use Rattle.std.specs.Prelude.{ℤ, Bool, not, ◌&&◌, ◌||◌, List, [], ◌∷◌, ◌++◌, filter}
use Rattle.cbl_base.specs.Sets.{is_member, set_of}
use Rattle.cbl_base.specs.declared.input.Input.{Input}
use Rattle.cbl_base.specs.declared.input.Input.TheVariants.{Set}
use Rattle.node_set.specs.declared.two_sets.Combining.{Combining}
use Rattle.node_set.specs.declared.two_sets.Combining.TheVariants.{Either, Both, FirstAlone, SecondAlone}

-- the two sets as inputs
abbrev pub both : List ℤ → List ℤ → List Input
both s t = Set s ∷ Set t ∷ []

-- the combined set
abbrev pub combined : Combining → List ℤ → List ℤ → List ℤ
combined Either s t = set_of (s ++ t)
combined Both s t = set_of (filter (λ v. is_member v t) s)
combined FirstAlone s t = set_of (filter (λ v. not (is_member v t)) s)
combined SecondAlone s t = set_of (filter (λ v. not (is_member v s)) t)

-- whether a number belongs to it, by whether it is in the first and in the second
abbrev pub belongs : Combining → Bool → Bool → Bool
belongs Either a b = a || b
belongs Both a b = a && b
belongs FirstAlone a b = a && not b
belongs SecondAlone a b = not a && b

-- the same of the two sets in the other order
abbrev pub exchanged : Combining → Combining
exchanged Either = Either
exchanged Both = Both
exchanged FirstAlone = SecondAlone
exchanged SecondAlone = FirstAlone
