-- The forms that the rules of operations on sets have: of two sets, and of keys that each have a number.
-- An operation is no constraint: its violation is 0 at each place. A rule of this project.
use Rattle.std.specs.Prelude.{ℕ, ℤ, pos, Bool, true, false, ◌&&◌, ◌==◌, List, [], ◌∷◌, Ok, length, map, filter, zip, slice_index_or}
use Rattle.cbl_base.specs.Inputs.{InputKind, set_kind, all_numbers, numbers_of}
use Rattle.cbl_base.specs.NodeLaw.{Rule, GivesOneKind, one_kind_from, kind_of-value}
use Rattle.cbl_base.specs.declared.input.Input.{Input}
use Rattle.cbl_base.specs.declared.input.Input.TheVariants.{Int, Set}

-- the members of an input, none for a number, and of that at a place
abbrev pub members_of : Input → List ℤ
members_of (Set s) = s
members_of (Int x) = []

abbrev pub members_at : List Input → ℕ → List ℤ
members_at inputs k = members_of (slice_index_or inputs k (Set []))

-- whether these are the kinds of two sets
abbrev pub are_two_sets : List InputKind → Bool
are_two_sets (set_kind ∷ set_kind ∷ []) = true
are_two_sets kinds = false

abbrev pub rule_of_two_sets : (List ℤ → List ℤ → List ℤ) → Rule
rule_of_two_sets f = record {
  takes = are_two_sets;
  value = λ inputs. Ok (Set (f (members_at inputs 0) (members_at inputs 1)));
  violation_at = λ _ _. pos 0;
}

pub one_kind_of_two_sets : (f : List ℤ → List ℤ → List ℤ) → GivesOneKind (rule_of_two_sets f)
one_kind_of_two_sets f =
    let rule = rule_of_two_sets f in one_kind_from rule set_kind (λ inputs x e. kind_of-value (rule.value inputs) x e)

-- the keys whose number passes, where each key has the number at its place
abbrev pub keys_where : (ℤ → Bool) → List ℤ → List ℤ → List ℤ
keys_where passes keys numbers = map (λ pair. pair.0) (filter (λ pair. passes pair.1) (zip keys numbers))

-- what the numbers give, one for each key
abbrev pub rule_of_keys : List ℤ → (List ℤ → List ℤ) → Rule
rule_of_keys keys f = record {
  takes = λ kinds. all_numbers kinds && (length kinds == length keys);
  value = λ inputs. Ok (Set (f (numbers_of inputs)));
  violation_at = λ _ _. pos 0;
}

pub one_kind_of_keys : (keys : List ℤ) (f : List ℤ → List ℤ) → GivesOneKind (rule_of_keys keys f)
one_kind_of_keys keys f =
    let rule = rule_of_keys keys f in one_kind_from rule set_kind (λ inputs x e. kind_of-value (rule.value inputs) x e)
