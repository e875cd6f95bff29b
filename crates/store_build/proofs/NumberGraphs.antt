-- Where free cells hold numbers and each operation of numbers gives numbers, all that comes to a value comes to a number.
use Rattle.std.proofs.Common.{◌≡◌, ℕ, zero, suc, ◌<◌, Bool, true, false, ◌&&◌, List, [], ◌∷◌, map, Option, Some, None, Result, Ok, Err, refl, sym, ap, ◌∙◌, subst, arith}
use Rattle.cbl_base.specs.Inputs.{InputKind, number_kind, kind_of, kinds_of, is_number_kind, all_numbers}
use Rattle.cbl_base.specs.declared.input.Input.{Input}
use Rattle.cbl_base.specs.declared.faults.RunFault.{RunFault}
use Rattle.store_turns.specs.declared.outcome.Outcome.{Outcome}
use Rattle.store_turns.specs.declared.outcome.Outcome.TheVariants.{Value, Fails, Missing}
use Rattle.store_turns.specs.Meaning.{Graph, IsMeaning, AreLayers, Each, values_of, with_value, come_to, outcome_of}
use Rattle.store_turns.proofs.Unique.{each_from}

-- what comes to a value comes to a number
abbrev pub IsNumber : (ℕ → Outcome) → ℕ → Type 0
IsNumber o id = (x : Input) → o id ≡ Value x → kind_of x ≡ number_kind

some_is : {A : Type 0} {x y : A} → Some x ≡ Some y → x ≡ y
some_is e = cc

front_value : (q : Outcome) (v : Option (List Input)) (xs : List Input) → with_value q v ≡ Some xs → (y : Input) × (ys : List Input) × (q ≡ Value y) × (v ≡ Some ys) × (xs ≡ y ∷ ys)
front_value (Value y) (Some ys) xs e = (y, ys, refl, refl, sym (some_is e))
front_value (Value y) None xs e = absurd (cc)
front_value (Fails f) v xs e = absurd (cc)
front_value Missing v xs e = absurd (cc)

pub all_are_numbers : (o : ℕ → Outcome) (is : List ℕ) (xs : List Input) → Each (IsNumber o) is → values_of (map o is) ≡ Some xs → all_numbers (kinds_of xs) ≡ true
all_are_numbers o [] xs h e = subst (λ (ys : List Input). all_numbers (kinds_of ys) ≡ true) (some_is e) refl
all_are_numbers o (i ∷ is) xs h e =
    let f = front_value (o i) (values_of (map o is)) xs e in
    subst (λ (ys : List Input). all_numbers (kinds_of ys) ≡ true) (sym f.4)
    (ap (λ (k : InputKind). is_number_kind k && all_numbers (kinds_of f.1)) (h.0 f.0 f.2) ∙ all_are_numbers o is f.1 h.1 f.3)

module _ (g : Graph) (layer : ℕ → ℕ) (layers : AreLayers g layer) (free : ℕ → Input) (o : ℕ → Outcome) (meaning : IsMeaning g free o) (numbers : (id : ℕ) → kind_of (free id) ≡ number_kind)
    (gives : (id : ℕ) (xs : List Input) (x : Input) → id < g.size → all_numbers (kinds_of xs) ≡ true → g.op id xs ≡ Ok x → kind_of x ≡ number_kind) where
  value_is : {x y : Input} → Value x ≡ Value y → x ≡ y
  value_is e = cc

  given : (id : ℕ) → id < g.size → (v : Option (List Input)) (x : Input) → ((xs : List Input) → v ≡ Some xs → all_numbers (kinds_of xs) ≡ true) → come_to (g.op id) v ≡ Value x → kind_of x ≡ number_kind
  given id lt None x h e = absurd (cc)
  given id lt (Some xs) x h e = by_result (g.op id xs) refl e
    where
      by_result : (r : Result Input RunFault) → g.op id xs ≡ r → outcome_of r ≡ Value x → kind_of x ≡ number_kind
      by_result (Ok y) is e = gives id xs x lt (h xs refl) (is ∙ ap (λ (z : Input). Ok z) (value_is e))
      by_result (Err f) is e = absurd (cc)

  one : (id : ℕ) → id < g.size → Each (IsNumber o) (g.inputs id) → (k : Bool) → g.is_free id ≡ k → IsNumber o id
  one id lt each true is x e = ap kind_of (sym (value_is (sym (meaning.cells id lt is) ∙ e))) ∙ numbers id
  one id lt each false is x e = given id lt (values_of (map o (g.inputs id))) x (λ xs v. all_are_numbers o (g.inputs id) xs each v) (sym (meaning.nodes id lt is) ∙ e)

  below : (d id : ℕ) → id < g.size → layer id < d → IsNumber o id
  below zero id lt low = absurd (omega (arith, low))
  below (suc d) id lt low = one id lt (each_from (λ i. (i < g.size) × (layer i < layer id)) (IsNumber o) (g.inputs id) (λ i h. below d i h.0 (omega (arith, h.1, low))) (layers id lt)) (g.is_free id) refl

  pub are_numbers : (id : ℕ) → id < g.size → IsNumber o id
  are_numbers id lt = below (suc (layer id)) id lt (omega arith)
