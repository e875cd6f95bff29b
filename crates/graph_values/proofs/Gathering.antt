-- Values that are gathered from the left are those that are gathered from the right; and where a term is found.
use Rattle.std.proofs.Common.{◌≡◌, ℕ, suc, ◌+◌, Bool, true, false, cond, ◌||◌, List, [], ◌∷◌, ◌++◌, map, fold, Option, Some, None, refl, sym, ap, ◌∙◌, slice_get, arith}
use Rattle.std.specs.Prelude.{not}
use Rattle.std.specs.List.{list_any, position_or_len}
use Rattle.std.proofs.lemmas.List.{append-nil, append_assoc}
use Rattle.cbl_base.specs.declared.input.Input.{Input}
use Rattle.model_values.specs.Outcomes.{gather, gathered}
use Rattle.store_turns.specs.Meaning.{values_of, with_value}
use Rattle.store_turns.specs.declared.outcome.Outcome.{Outcome}
use Rattle.store_turns.specs.declared.outcome.Outcome.TheVariants.{Value, Fails, Missing}

-- the value of an outcome, where it is one
abbrev pub value_part : Outcome → Option Input
value_part (Value x) = Some x
value_part (Fails f) = None
value_part Missing = None

behind : List Input → Option (List Input) → Option (List Input)
behind xs (Some ys) = Some (xs ++ ys)
behind xs None = None

behind_none : (v : Option (List Input)) → behind [] v ≡ v
unfolding behind
behind_none (Some ys) = refl
behind_none None = refl

behind_one : (xs : List Input) (x : Input) (v : Option (List Input)) → behind (xs ++ x ∷ []) v ≡ behind xs (with_value (Value x) v)
unfolding behind
behind_one xs x (Some ys) = ap (λ zs. Some zs) (append_assoc xs (x ∷ []) ys)
behind_one xs x None = refl

none_gathered : (os : List (Option Input)) → fold gather None os ≡ None
none_gathered [] = refl
none_gathered (o ∷ os) = none_gathered os

gathered_behind : (xs : List Input) (os : List Outcome) → fold gather (Some xs) (map value_part os) ≡ behind xs (values_of os)
unfolding behind
gathered_behind xs [] = ap (λ zs. Some zs) (sym (append-nil xs))
gathered_behind xs (Value x ∷ os) = gathered_behind (xs ++ x ∷ []) os ∙ behind_one xs x (values_of os)
gathered_behind xs (Fails f ∷ os) = none_gathered (map value_part os)
gathered_behind xs (Missing ∷ os) = none_gathered (map value_part os)

pub values_gathered : (os : List Outcome) → values_of os ≡ gathered (map value_part os)
values_gathered os = sym (gathered_behind [] os ∙ behind_none (values_of os))

-- what is found stands at its place
pub found_at : {X : Type 0} (p : X → Bool) (xs : List X) → list_any p xs ≡ true → (x : X) × (slice_get xs (position_or_len p xs) ≡ Some x) × (p x ≡ true)
found_at p [] h = let c : false ≡ true = h in cc
found_at {X = X} p (x ∷ xs) h = cases (p x) refl (found_at p xs)
  where
    next : (q : ℕ) → 1 + q ≡ suc q
    next q = omega arith

    cases : (b : Bool) → p x ≡ b → (list_any p xs ≡ true → (y : X) × (slice_get xs (position_or_len p xs) ≡ Some y) × (p y ≡ true)) → (y : X) × (slice_get (x ∷ xs) (position_or_len p (x ∷ xs)) ≡ Some y) × (p y ≡ true)
    cases true e later = (x, ap (λ b. slice_get (x ∷ xs) (cond (not b) (1 + position_or_len p xs) 0)) e, e)
    cases false e later =
        let rest = later (sym (ap (λ b. b || list_any p xs) e) ∙ h) in
        (rest.0, ap (λ b. slice_get (x ∷ xs) (cond (not b) (1 + position_or_len p xs) 0)) e ∙ ap (slice_get (x ∷ xs)) (next (position_or_len p xs)) ∙ rest.1, rest.2)
