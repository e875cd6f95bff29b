-- What lists of ids come to.
use Rattle.std.proofs.Common.{◌≡◌, ℕ, zero, suc, ℤ, ◌+◌, ◌<◌, List, [], ◌∷◌, ◌++◌, length, map, take, get_or, Option, Some, None, Result, IfOk, false, slice_get, refl, sym, ap, ◌∙◌, subst, arith}
use Rattle.std.specs.Option.{option_map}
use Rattle.std.proofs.lemmas.List.{take_more, map-append}
use Rattle.cbl_base.specs.declared.ids.NodeId.{NodeId}
use Rattle.cbl_base.specs.declared.input.Input.{Input}
use Rattle.store_turns.specs.declared.outcome.Outcome.{Outcome}
use Rattle.store_turns.specs.declared.outcome.Outcome.TheVariants.{Value, Fails, Missing}
use Rattle.cbl_base.specs.declared.input.Input.TheVariants.{Int}
use Rattle.store_turns.specs.Meaning.{ids_of, is_empty, values_of, with_value, come_to, the_one}
use Rattle.store_build.specs.Building.{or_missing, outcome_in, values_in, value_in, cell_outcome, copied}

-- one value more
with_pushed : (x y : Input) (v : Option (List Input)) → with_value (Value y) (option_map (λ (xs : List Input). xs ++ x ∷ []) v) ≡ option_map (λ (xs : List Input). xs ++ x ∷ []) (with_value (Value y) v)
with_pushed x y None = refl
with_pushed x y (Some xs) = refl

values_push : (os : List Outcome) (x : Input) → values_of (os ++ Value x ∷ []) ≡ option_map (λ (xs : List Input). xs ++ x ∷ []) (values_of os)
values_push [] x = refl
values_push (Value y ∷ os) x = ap (with_value (Value y)) (values_push os x) ∙ with_pushed x y (values_of os)
values_push (Fails f ∷ os) x = refl
values_push (Missing ∷ os) x = refl

is_value : (p : Option Outcome) (x : Input) → value_in p ≡ Some x → or_missing p ≡ Value x
is_value None x e = absurd (cc)
is_value (Some (Value y)) x e = ap Value (the_same e)
  where
    the_same : {x y : Input} → Some y ≡ Some x → y ≡ x
    the_same e = cc
is_value (Some (Fails f)) x e = absurd (cc)
is_value (Some Missing) x e = absurd (cc)

pub values_more : (os : List (Option Outcome)) (ids : List NodeId) (k : ℕ) (d : NodeId) (x : Input) (xs : List Input) → k < length ids → value_in (get_or os (get_or ids k d).0 None) ≡ Some x → values_in os (ids_of (take k ids)) ≡ Some xs
    → values_in os (ids_of (take (k + 1) ids)) ≡ Some (xs ++ x ∷ [])
values_more os ids k d x xs lt value before =
    ap (λ (l : List NodeId). values_in os (ids_of l)) (take_more ids k d lt)
    ∙ ap (values_in os) (map-append (λ (y : NodeId). y.0) (take k ids) (get_or ids k d ∷ []))
    ∙ ap values_of (map-append (outcome_in os) (ids_of (take k ids)) ((get_or ids k d).0 ∷ []))
    ∙ ap (λ (p : Outcome). values_of (map (outcome_in os) (ids_of (take k ids)) ++ p ∷ [])) (is_value (get_or os (get_or ids k d).0 None) x value)
    ∙ values_push (map (outcome_in os) (ids_of (take k ids))) x ∙ ap (option_map (λ (ys : List Input). ys ++ x ∷ [])) before

-- one id without a value
lost_front : (p : Option Outcome) (v : Option (List Input)) → value_in p ≡ None → with_value (or_missing p) v ≡ None
lost_front None v e = refl
lost_front (Some (Value x)) v e = absurd (cc)
lost_front (Some (Fails f)) v e = refl
lost_front (Some Missing) v e = refl

lost_behind : (o : Outcome) → with_value o None ≡ None
lost_behind (Value x) = refl
lost_behind (Fails f) = refl
lost_behind Missing = refl

pub values_lost : (os : List (Option Outcome)) (ids : List NodeId) (k : ℕ) (d : NodeId) → k < length ids → value_in (get_or os (get_or ids k d).0 None) ≡ None → values_in os (ids_of ids) ≡ None
values_lost os [] k d lt e = absurd (omega arith)
values_lost os (y ∷ ys) zero d lt e = lost_front (get_or os y.0 None) (values_in os (ids_of ys)) e
values_lost os (y ∷ ys) (suc k) d lt e = ap (with_value (outcome_in os y.0)) (values_lost os ys k d (omega arith) e) ∙ lost_behind (outcome_in os y.0)

-- a cell that takes the value of one id
copied_one : (p : Option Outcome) → come_to the_one (with_value (or_missing p) (Some [])) ≡ copied (value_in p)
copied_one None = refl
copied_one (Some (Value x)) = refl
copied_one (Some (Fails f)) = refl
copied_one (Some Missing) = refl

pub cell_copied : (os : List (Option Outcome)) (number : ℤ) (is : List ℕ) (i : ℕ) → is ≡ i ∷ [] → cell_outcome number is (values_in os is) ≡ copied (value_in (get_or os i None))
cell_copied os number is i e = ap (λ (l : List ℕ). cell_outcome number l (values_in os l)) e ∙ copied_one (get_or os i None)

-- the first of a list of ids, or none
pub cell_free : (os : List (Option Outcome)) (number : ℤ) (ids : List NodeId) → None ≡ slice_get ids 0 → Value (Int number) ≡ cell_outcome number (ids_of ids) (values_in os (ids_of ids))
cell_free os number [] e = refl
cell_free os number (i ∷ is) e = absurd (cc)

only : (ids : List NodeId) (id : NodeId) → Some id ≡ slice_get ids 0 → (is_empty (ids_of ids) ≡ false → (i : ℕ) × (ids_of ids ≡ i ∷ [])) → ids_of ids ≡ id.0 ∷ []
only [] id e one = absurd (cc)
only (i ∷ is) id e one =
    let o = one refl in
    ap (λ (l : List ℕ). i.0 ∷ l) (rest o.1) ∙ ap (λ (j : NodeId). j.0 ∷ []) (sym (the_same e))
  where
    rest : {i : ℕ} {is : List ℕ} {j : ℕ} → i ∷ is ≡ j ∷ [] → is ≡ []
    rest e = cc

    the_same : {x y : NodeId} → Some x ≡ Some y → x ≡ y
    the_same e = cc

pub cell_defined : {E : Type 0} (os : List (Option Outcome)) (number : ℤ) (ids : List NodeId) (id : NodeId) (r : Result Outcome E) → Some id ≡ slice_get ids 0 → (is_empty (ids_of ids) ≡ false → (i : ℕ) × (ids_of ids ≡ i ∷ []))
    → (v : Option Input) → v ≡ value_in (get_or os id.0 None) → IfOk r (λ o. o ≡ copied v) → IfOk r (λ o. o ≡ cell_outcome number (ids_of ids) (values_in os (ids_of ids)))
cell_defined os number ids id r e one v is h =
    subst (λ (q : Outcome). IfOk r (λ o. o ≡ q)) (ap copied is ∙ sym (cell_copied os number (ids_of ids) id.0 (only ids id e one))) h
