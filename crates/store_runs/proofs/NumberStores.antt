-- A store can be built of lists that were looked through, and of nodes of numbers.
use Rattle.std.proofs.Common.{◌≡◌, ℕ, ℤ, zero, suc, ◌-◌, ◌<◌, ◌≤◌, Bool, true, false, cond, nat_lt, ◌&&◌, List, [], ◌∷◌, length, map, take, get_or, slice_get, Option, Some, None, Result, Ok, Err, refl, sym, ap, ◌∙◌, subst, inl, inr, arith, All, Vec}
use Rattle.std.specs.List.{Contains}
use Rattle.std.specs.declared.alloc.Global.{Global}
use Rattle.std.proofs.lemmas.Bool.{cases_lt}
use Rattle.std.proofs.lemmas.Bool.Decides.{nat_tests}
use Rattle.std.proofs.lemmas.List.{length-map}
use Rattle.std.proofs.lemmas.List.Elements.{All-nil, All-head, All-tail, All-contains}
use Rattle.std.proofs.lemmas.Option.{slice_get_within}
use Rattle.cbl_base.specs.Inputs.{InputKind, number_kind, set_kind, kind_of, kinds_of, is_number_kind, all_numbers}
use Rattle.cbl_base.specs.NodeLaw.{Rule}
use Rattle.cbl_base.specs.NumberRule.{as_value}
use Rattle.cbl_base.specs.declared.ids.NodeId.{NodeId}
use Rattle.cbl_base.specs.declared.input.Input.{Input}
use Rattle.cbl_base.specs.declared.input.Input.TheVariants.{Int}
use Rattle.cbl_base.specs.declared.faults.RunFault.{RunFault}
use Rattle.layer_plan.specs.Dependencies.{list_of, DependsOn, AreItems}
use Rattle.layer_plan.specs.Paths.{IsLongest}
use Rattle.store_turns.specs.declared.outcome.Outcome.{Outcome}
use Rattle.store_turns.specs.Meaning.{IsMeaning, ids_of, lists_of, is_empty, the_one, rule_value}
use Rattle.store_turns.proofs.Unique.{each_from}
use Rattle.store_build.specs.Lists.{list_in}
use Rattle.store_build.specs.Aims.{AreLinked, Takes, graph_over, start_of, layer_at}
use Rattle.store_build.proofs.NumberGraphs.{IsNumber, all_are_numbers, are_numbers}
use Rattle.store_build.proofs.PlannedLayers.{rising, lowest}
use Rattle.store_runs.specs.Linked.{AreLists}
use Rattle.store_runs.specs.Numbers.{IsOfNumbers}

-- ---- lists
same_list : (lists : List (Vec ℕ Global)) (id : ℕ) → list_of lists id ≡ list_in lists id
unfolding list_of
same_list [] id = refl
same_list (x ∷ xs) zero = refl
same_list (x ∷ xs) (suc id) = same_list xs id

-- what holds of each list, and of none
all_in : (P : List ℕ → Type 0) → P [] → (lists : List (Vec ℕ Global)) → All (λ (v : Vec ℕ Global). P v.items) lists → (id : ℕ) → P (list_in lists id)
all_in P none [] all id = none
all_in P none (x ∷ xs) all zero = All-head (λ (v : Vec ℕ Global). P v.items) x xs all
all_in P none (x ∷ xs) all (suc id) = all_in P none xs (All-tail (λ (v : Vec ℕ Global). P v.items) x xs all) id

all_first : (P : List ℕ → Type 0) → P [] → (lists : List (Vec ℕ Global)) (cells id : ℕ) → All (λ (v : Vec ℕ Global). P v.items) (take cells lists) → id < cells → P (list_in lists id)
all_first P none [] cells id all lt = none
all_first P none (x ∷ xs) zero id all lt = absurd (omega (arith, lt))
all_first P none (x ∷ xs) (suc cells) zero all lt = All-head (λ (v : Vec ℕ Global). P v.items) x (take cells xs) all
all_first P none (x ∷ xs) (suc cells) (suc id) all lt = all_first P none xs cells id (All-tail (λ (v : Vec ℕ Global). P v.items) x (take cells xs) all) (omega (arith, lt))

-- the same ids in each list
list_same : (inputs : List (Vec NodeId Global)) (lists : List (Vec ℕ Global)) → map (λ (v : Vec NodeId Global). ids_of v.items) inputs ≡ lists_of lists → (j : ℕ) → ids_of (list_in inputs j) ≡ list_in lists j
list_same [] [] e j = refl
list_same [] (y ∷ ys) e j = absurd (cc)
list_same (x ∷ xs) [] e j = absurd (cc)
list_same (x ∷ xs) (y ∷ ys) e zero = heads e
  where
    heads : {a b : List ℕ} {us vs : List (List ℕ)} → a ∷ us ≡ b ∷ vs → a ≡ b
    heads f = cc
list_same (x ∷ xs) (y ∷ ys) e (suc j) = list_same xs ys (tails e) j
  where
    tails : {a b : List ℕ} {us vs : List (List ℕ)} → a ∷ us ≡ b ∷ vs → us ≡ vs
    tails f = cc

count_same : (inputs : List (Vec NodeId Global)) (lists : List (Vec ℕ Global)) → map (λ (v : Vec NodeId Global). ids_of v.items) inputs ≡ lists_of lists → length inputs ≡ length lists
count_same inputs lists e = sym (length-map inputs (λ (v : Vec NodeId Global). ids_of v.items)) ∙ ap length e ∙ length-map lists (λ (v : Vec ℕ Global). v.items)

-- a list of one at most that isn't empty
one_in : (is : List ℕ) → length is ≤ 1 → is_empty is ≡ false → (i : ℕ) × (is ≡ i ∷ [])
one_in [] le e = absurd (cc)
one_in (i ∷ []) le e = (i, refl)
one_in (i ∷ j ∷ is) le e = absurd (omega (arith, le))

past_last : (xs : List ℕ) (i : ℕ) → length xs ≤ i → get_or xs i 0 ≡ 0
past_last [] i le = refl
past_last (x ∷ xs) zero le = absurd (omega (arith, le))
past_last (x ∷ xs) (suc i) le = past_last xs i (omega (arith, le))

lt_of : (a b : ℕ) → nat_lt a b ≡ true → a < b
lt_of a b e = grind (arith, nat_tests)

module _ (lists : List (Vec ℕ Global)) (cells nodes : ℕ) (ok : AreLists lists cells nodes) where
  within : (id : ℕ) → (length (list_in lists id) ≤ 1000) × All (λ i. i < length lists) (list_in lists id)
  within id = all_in (λ is. (length is ≤ 1000) × All (λ i. i < length lists) is) (omega arith, All-nil (λ i. i < length lists)) lists ok.within id

  items_at : (id i : ℕ) → DependsOn lists id i → i < length lists
  unfolding DependsOn
  items_at id i d = All-contains (λ (k : ℕ). k < length lists) (list_in lists id) i (within id).1 (subst (λ (is : List ℕ). Contains is i) (same_list lists id) d)

  pub are_items : AreItems lists
  are_items id i d = items_at id i d

  module _ (rules : List Rule) (first : ℕ) (inputs : List (Vec NodeId Global)) (layers : List ℕ) (many : length rules ≡ nodes) (from : first ≡ cells)
      (same : map (λ (v : Vec NodeId Global). ids_of v.items) inputs ≡ lists_of lists)
      (planned : length layers ≡ length lists) (longest : (id : ℕ) → id < length lists → IsLongest lists id (get_or layers id 0)) where
    count : length inputs ≡ length lists
    count = count_same inputs lists same

    as_list : (id : ℕ) → list_of lists id ≡ ids_of (list_in inputs id)
    as_list id = same_list lists id ∙ sym (list_same inputs lists same id)

    as_long : (id : ℕ) → length (list_in inputs id) ≡ length (list_in lists id)
    as_long id = sym (length-map (list_in inputs id) (λ (i : NodeId). i.0)) ∙ ap length (list_same inputs lists same id)

    single : (id : ℕ) → id < cells → length (list_in lists id) ≤ 1
    single id lt = (all_first (λ is. (length is ≤ 1) × All (λ i. i < length lists) is) (omega arith, All-nil (λ i. i < length lists)) lists cells id ok.single lt).0

    pub linked : AreLinked rules first inputs layers
    linked = record {
      few = omega (arith, ok.few, count);
      count = omega (arith, ok.count, many, from, count);
      short = λ id. omega (arith, as_long id, (within id).0);
      defined = λ id below e. one_in (ids_of (list_in inputs id)) (omega (arith, ap length (list_same inputs lists same id), single id (omega (arith, lt_of id first below, from)))) e;
      planned = omega (arith, planned, count);
      rising = rising rules first lists inputs layers (sym count) as_list items_at longest;
      lowest = λ id e. elim (cases_lt id (length inputs)) [
        | inl lt ↦ lowest rules first lists inputs layers (sym count) as_list items_at longest id lt e
        | inr ge ↦ past_last layers id (omega (arith, planned, count, ge))
      ];
    }

-- ---- rules of numbers
same_value : (x y : Input) (r : Result Input RunFault) → r ≡ Ok y → r ≡ Ok x → x ≡ y
same_value x y r f g = cc

number_value : (v : Result ℤ RunFault) (x : Input) → as_value v ≡ Ok x → kind_of x ≡ number_kind
number_value (Ok n) x e = ap kind_of (same_value x (Int n) (as_value (Ok n)) refl e)
number_value (Err f) x e = absurd (cc)

some_is : {A : Type 0} {x y : A} → Some x ≡ Some y → x ≡ y
some_is e = cc

rule_at : (rules : List Rule) → All IsOfNumbers rules → (k : ℕ) (r : Rule) → slice_get rules k ≡ Some r → IsOfNumbers r
rule_at [] all k r e = absurd (cc)
rule_at (x ∷ xs) all zero r e = subst IsOfNumbers (some_is e) (All-head IsOfNumbers x xs all)
rule_at (x ∷ xs) all (suc k) r e = rule_at xs (All-tail IsOfNumbers x xs all) k r e

first_number : (xs : List Input) (x : Input) → all_numbers (kinds_of xs) ≡ true → the_one xs ≡ Ok x → kind_of x ≡ number_kind
first_number [] x a e = absurd (cc)
first_number (y ∷ ys) x a e = ap kind_of (same_value x y (the_one (y ∷ ys)) refl e) ∙ is_number (kind_of y) (all_numbers (kinds_of ys)) a
  where
    is_number : (k : InputKind) (b : Bool) → is_number_kind k && b ≡ true → k ≡ number_kind
    is_number number_kind b e = refl
    is_number set_kind b e = absurd (cc)

module _ (rules : List Rule) (all : All IsOfNumbers rules) (first : ℕ) (inputs : List (Vec NodeId Global)) (layers : List ℕ) (start : List ℤ) (ok : AreLinked rules first inputs layers)
    (o : ℕ → Outcome) (meaning : IsMeaning (graph_over rules first inputs) (start_of start) o) where
  of_rule : (xs : List Input) (x : Input) (k : ℕ) (r : Option Rule) → slice_get rules k ≡ r → rule_value r xs ≡ Ok x → kind_of x ≡ number_kind
  of_rule xs x k None is e = absurd (cc)
  of_rule xs x k (Some r) is e = (rule_at rules all k r is).given xs x e

  by_place : (b : Bool) (xs : List Input) (x : Input) (k : ℕ) → all_numbers (kinds_of xs) ≡ true → cond b (the_one xs) (rule_value (slice_get rules k) xs) ≡ Ok x → kind_of x ≡ number_kind
  by_place true xs x k a e = first_number xs x a e
  by_place false xs x k a e = of_rule xs x k (slice_get rules k) refl e

  all_numbers_meant : (id : ℕ) → id < length inputs → IsNumber o id
  all_numbers_meant = are_numbers (graph_over rules first inputs) (layer_at layers) ok.rising (start_of start) o meaning (λ id. refl) (λ id xs x lt a e. by_place (nat_lt id first) xs x (id - first) a e)

  pub takes : Takes rules first inputs o
  takes id r xs le ruled valued =
      let lt : id < length inputs = omega (arith, le, slice_get_within rules (id - first) r ruled, ok.count) in
      (rule_at rules all (id - first) r ruled).taken (kinds_of xs)
      (all_are_numbers o (ids_of (list_in inputs id)) xs
      (each_from (λ i. (i < length inputs) × (layer_at layers i < layer_at layers id)) (IsNumber o) (ids_of (list_in inputs id)) (λ i h. all_numbers_meant i h.0) (ok.rising id lt)) valued)
