-- A store can be built of lists that were looked through, and of parts.
use Rattle.std.proofs.Common.{◌≡◌, ◌==◌, ℕ, ℤ, zero, suc, ◌+◌, ◌-◌, ◌<◌, ◌≤◌, Bool, true, false, cond, nat_lt, nat_le, ◌&&◌, List, [], ◌∷◌, ◌++◌, length, map, take, get_or, slice_get, Option, Some, None, Result, Ok, Err, refl, sym, ap, ◌∙◌, subst, inl, inr, arith, All, Vec, IsTrue}
use Rattle.std.specs.List.{Contains, list_all}
use Rattle.std.specs.Option.{option_map}
use Rattle.std.specs.declared.alloc.Global.{Global}
use Rattle.std.proofs.lemmas.Bool.{cases_lt}
use Rattle.std.proofs.lemmas.List.{length-map}
use Rattle.std.proofs.lemmas.List.Elements.{All-contains, All-push, All-weaker}
use Rattle.std.proofs.lemmas.List.Sums.{AllPass-from_list_all}
use Rattle.std.proofs.lemmas.Bool.Decides.{nat_tests}
use Rattle.std.proofs.lemmas.Option.{slice_get-map, slice_get_within}
use Rattle.cbl_base.specs.Inputs.{InputKind, number_kind, set_kind, kind_of, kinds_of, is_number_kind, all_numbers}
use Rattle.cbl_base.specs.NodeLaw.{Rule}
use Rattle.cbl_base.specs.NumberRule.{as_value}
use Rattle.cbl_base.specs.declared.ids.NodeId.{NodeId}
use Rattle.cbl_base.specs.declared.ids.VarId.{VarId}
use Rattle.cbl_base.specs.declared.input.Input.{Input}
use Rattle.cbl_base.specs.declared.input.Input.TheVariants.{Int}
use Rattle.cbl_base.specs.declared.faults.RunFault.{RunFault}
use Rattle.layer_plan.specs.Dependencies.{list_of, DependsOn, AreItems}
use Rattle.layer_plan.specs.Paths.{IsLongest}
use Rattle.store_turns.specs.declared.outcome.Outcome.{Outcome}
use Rattle.store_turns.specs.declared.outcome.Outcome.TheVariants.{Value, Fails, Missing}
use Rattle.store_turns.specs.Meaning.{Graph, IsMeaning, ids_of, lists_of, is_empty, the_one, rule_value, values_of, with_value}
use Rattle.store_turns.proofs.Unique.{each_from}
use Rattle.store_build.specs.Lists.{list_in}
use Rattle.store_build.specs.Aims.{AreLinked, Takes, graph_over, start_of, layer_at}
use Rattle.store_build.proofs.NumberGraphs.{IsNumber, all_are_numbers, are_numbers}
use Rattle.store_build.proofs.PlannedLayers.{rising, lowest}
use Rattle.inc_store.specs.Moves.{AreMoves}
use Rattle.bench.specs.Lists.{moves_in}
use Rattle.bench.specs.declared.store.one_list.Moves.{Moves}
use Rattle.bench.specs.Parts.{AreLists, AreMovesBelow, FreeBelow, is_below, is_list, is_none, rule_of_part, taken_by}
use Rattle.bench.specs.declared.store.parts.Part.{Part}
use Rattle.bench.specs.declared.store.parts.Part.TheVariants.{Plus, Minus, AllDifferent as Differing, Total}

-- ---- lists
same_list : (lists : List (Vec ℕ Global)) (id : ℕ) → list_of lists id ≡ list_in lists id
unfolding list_of
same_list [] id = refl
same_list (x ∷ xs) zero = refl
same_list (x ∷ xs) (suc id) = same_list xs id

left_true : (a b : Bool) → a && b ≡ true → a ≡ true
left_true true b e = refl
left_true false b e = absurd (cc)

right_true : (a b : Bool) → a && b ≡ true → b ≡ true
right_true true b e = e
right_true false b e = absurd (cc)

le_of : (a b : ℕ) → nat_le a b ≡ true → a ≤ b
le_of a b e = grind (arith, nat_tests)

lt_of : (a b : ℕ) → nat_lt a b ≡ true → a < b
lt_of a b e = grind (arith, nat_tests)

lt_is : (a b : ℕ) → a < b → nat_lt a b ≡ true
lt_is a b l = grind (arith, nat_tests)

-- what a test finds of each list, and of none
list_passes : (p : List ℕ → Bool) → p [] ≡ true → (lists : List (Vec ℕ Global)) → list_all (λ (v : Vec ℕ Global). p v.items) lists ≡ true → (id : ℕ) → p (list_in lists id) ≡ true
list_passes p none [] all id = none
list_passes p none (x ∷ xs) all zero = left_true (p x.items) (list_all (λ (v : Vec ℕ Global). p v.items) xs) all
list_passes p none (x ∷ xs) all (suc id) = list_passes p none xs (right_true (p x.items) (list_all (λ (v : Vec ℕ Global). p v.items) xs) all) id

zero_is : (n : ℕ) → n == 0 ≡ true → n ≡ 0
zero_is n e = grind (arith, nat_tests)

empty_is : (is : List ℕ) → length is ≡ 0 → is ≡ []
empty_is [] e = refl
empty_is (i ∷ is) e = absurd (omega (arith, e))

none_is : (is : List ℕ) → is_none is ≡ true → is ≡ []
none_is is e = empty_is is (zero_is (length is) e)

none_of_first : (lists : List (Vec ℕ Global)) (cells id : ℕ) → list_all (λ (v : Vec ℕ Global). is_none v.items) (take cells lists) ≡ true → id < cells → list_in lists id ≡ []
none_of_first [] cells id all lt = refl
none_of_first (x ∷ xs) zero id all lt = absurd (omega (arith, lt))
none_of_first (x ∷ xs) (suc cells) zero all lt = none_is x.items (left_true (is_none x.items) (list_all (λ (v : Vec ℕ Global). is_none v.items) (take cells xs)) all)
none_of_first (x ∷ xs) (suc cells) (suc id) all lt = none_of_first xs cells id (right_true (is_none x.items) (list_all (λ (v : Vec ℕ Global). is_none v.items) (take cells xs)) all) (omega (arith, lt))

-- the same ids in each list
list_same : (inputs : List (Vec NodeId Global)) (lists : List (Vec ℕ Global)) → map (λ (v : Vec NodeId Global). ids_of v.items) inputs ≡ lists_of lists → (j : ℕ) → ids_of (list_in inputs j) ≡ list_in lists j
list_same [] [] e j = refl
list_same [] (y ∷ ys) e j = absurd (cc)
list_same (x ∷ xs) [] e j = absurd (cc)
list_same (x ∷ xs) (y ∷ ys) e zero = heads e
  where
    heads : {a b : List ℕ} {us vs : List (List ℕ)} → a ∷ us ≡ b ∷ vs → a ≡ b
    heads f = cc
list_same (x ∷ xs) (y ∷ ys) e (suc j) = list_same xs ys (tails e) j
  where
    tails : {a b : List ℕ} {us vs : List (List ℕ)} → a ∷ us ≡ b ∷ vs → us ≡ vs
    tails f = cc

pub count_same : (inputs : List (Vec NodeId Global)) (lists : List (Vec ℕ Global)) → map (λ (v : Vec NodeId Global). ids_of v.items) inputs ≡ lists_of lists → length inputs ≡ length lists
count_same inputs lists e = sym (length-map inputs (λ (v : Vec NodeId Global). ids_of v.items)) ∙ ap length e ∙ length-map lists (λ (v : Vec ℕ Global). v.items)

past_last : (xs : List ℕ) (i : ℕ) → length xs ≤ i → get_or xs i 0 ≡ 0
past_last [] i le = refl
past_last (x ∷ xs) zero le = absurd (omega (arith, le))
past_last (x ∷ xs) (suc i) le = past_last xs i (omega (arith, le))

-- ---- parts take so many numbers, and give numbers
some_is : {A : Type 0} {x y : A} → Some x ≡ Some y → x ≡ y
some_is e = cc

same_value : (x y : Input) (r : Result Input RunFault) → r ≡ Ok y → r ≡ Ok x → x ≡ y
same_value x y r f g = cc

number_value : (v : Result ℤ RunFault) (x : Input) → as_value v ≡ Ok x → kind_of x ≡ number_kind
number_value (Ok n) x e = ap kind_of (same_value x (Int n) (as_value (Ok n)) refl e)
number_value (Err f) x e = absurd (cc)

gives_number : (p : Part) (xs : List Input) (x : Input) → (rule_of_part p).value xs ≡ Ok x → kind_of x ≡ number_kind
gives_number Plus xs x e = number_value _ x e
gives_number Minus xs x e = number_value _ x e
gives_number Differing xs x e = number_value _ x e
gives_number Total xs x e = number_value _ x e

both_true : (a b : Bool) → a ≡ true → b ≡ true → IsTrue (a && b)
both_true a b e f = cc

takes_numbers : (p : Part) (kinds : List InputKind) → all_numbers kinds ≡ true → taken_by p (length kinds) ≡ true → IsTrue ((rule_of_part p).takes kinds)
takes_numbers Plus kinds a t = both_true (all_numbers kinds) _ a t
takes_numbers Minus kinds a t = both_true (all_numbers kinds) _ a t
takes_numbers Differing kinds a t = both_true (all_numbers kinds) _ a t
takes_numbers Total kinds a t = both_true (all_numbers kinds) _ a t

first_number : (xs : List Input) (x : Input) → all_numbers (kinds_of xs) ≡ true → the_one xs ≡ Ok x → kind_of x ≡ number_kind
first_number [] x a e = absurd (cc)
first_number (y ∷ ys) x a e = ap kind_of (same_value x y (the_one (y ∷ ys)) refl e) ∙ is_number (kind_of y) (all_numbers (kinds_of ys)) a
  where
    is_number : (k : InputKind) (b : Bool) → is_number_kind k && b ≡ true → k ≡ number_kind
    is_number number_kind b e = refl
    is_number set_kind b e = absurd (cc)

-- as many values as outcomes, where all have one
front_long : (q : Outcome) (v : Option (List Input)) (xs : List Input) → with_value q v ≡ Some xs → (ys : List Input) × (v ≡ Some ys) × (length xs ≡ suc (length ys))
front_long (Value y) (Some ys) xs e = (ys, refl, sym (ap length (some_is e)))
front_long (Value y) None xs e = absurd (cc)
front_long (Fails f) v xs e = absurd (cc)
front_long Missing v xs e = absurd (cc)

as_many : (os : List Outcome) (xs : List Input) → values_of os ≡ Some xs → length xs ≡ length os
as_many [] xs e = sym (ap length (some_is e))
as_many (q ∷ os) xs e =
    let f = front_long q (values_of os) xs e in
    f.2 ∙ ap suc (as_many os f.0 f.1)

module _ (lists : List (Vec ℕ Global)) (cells : ℕ) (parts : List Part) (ok : AreLists lists cells parts) where
  passes : (id : ℕ) → is_list (length lists) (list_in lists id) ≡ true
  passes id = list_passes (is_list (length lists)) refl lists ok.within id

  short : (id : ℕ) → length (list_in lists id) ≤ 10000000
  short id = le_of (length (list_in lists id)) 10000000 (left_true (nat_le (length (list_in lists id)) 10000000) (list_all (is_below (length lists)) (list_in lists id)) (passes id))

  within : (id : ℕ) → All (λ i. i < length lists) (list_in lists id)
  within id = All-weaker (λ (i : ℕ). nat_lt i (length lists) ≡ true) (λ (i : ℕ). i < length lists) (λ i e. lt_of i (length lists) e) (list_in lists id)
      (AllPass-from_list_all (is_below (length lists)) (list_in lists id) (right_true (nat_le (length (list_in lists id)) 10000000) (list_all (is_below (length lists)) (list_in lists id)) (passes id)))

  items_at : (id i : ℕ) → DependsOn lists id i → i < length lists
  unfolding DependsOn
  items_at id i d = All-contains (λ (k : ℕ). k < length lists) (list_in lists id) i (within id) (subst (λ (is : List ℕ). Contains is i) (same_list lists id) d)

  pub are_items : AreItems lists
  are_items id i d = items_at id i d

  module _ (rules : List Rule) (first : ℕ) (inputs : List (Vec NodeId Global)) (ruled : rules ≡ map rule_of_part parts) (from : first ≡ cells)
      (same : map (λ (v : Vec NodeId Global). ids_of v.items) inputs ≡ lists_of lists) where
    count : length inputs ≡ length lists
    count = count_same inputs lists same

    as_list : (id : ℕ) → list_of lists id ≡ ids_of (list_in inputs id)
    as_list id = same_list lists id ∙ sym (list_same inputs lists same id)

    as_long : (id : ℕ) → length (list_in inputs id) ≡ length (list_in lists id)
    as_long id = sym (length-map (list_in inputs id) (λ (i : NodeId). i.0)) ∙ ap length (list_same inputs lists same id)

    many : length rules ≡ length parts
    many = ap length ruled ∙ length-map parts rule_of_part

    nothing : (id : ℕ) → id < first → ids_of (list_in inputs id) ≡ []
    nothing id lt = list_same inputs lists same id ∙ none_of_first lists cells id ok.free (omega (arith, lt, from))

    pub free : FreeBelow first (graph_over rules first inputs)
    free id lt = (omega (arith, lt, count, from, ok.count), ap (λ (b : Bool). b && is_empty (ids_of (list_in inputs id))) (lt_is id first lt) ∙ ap is_empty (nothing id lt))

    bound : (is : List ℕ) → is ≡ [] → is_empty is ≡ false → (i : ℕ) × (is ≡ i ∷ [])
    bound [] e f = absurd (cc)
    bound (i ∷ is) e f = absurd (cc)

    module _ (layers : List ℕ) (planned : length layers ≡ length lists) (longest : (id : ℕ) → id < length lists → IsLongest lists id (get_or layers id 0)) where
      pub linked : AreLinked rules first inputs layers
      linked = record {
        few = omega (arith, ok.few, count);
        count = omega (arith, ok.count, many, from, count);
        short = λ id. omega (arith, as_long id, short id);
        defined = λ id below e. bound (ids_of (list_in inputs id)) (nothing id (lt_of id first below)) e;
        planned = omega (arith, planned, count);
        rising = rising rules first lists inputs layers (sym count) as_list items_at longest;
        lowest = λ id e. elim (cases_lt id (length inputs)) [
          | inl lt ↦ lowest rules first lists inputs layers (sym count) as_list items_at longest id lt e
          | inr ge ↦ past_last layers id (omega (arith, planned, count, ge))
        ];
      }

      module _ (start : List ℤ) (o : ℕ → Outcome) (meaning : IsMeaning (graph_over rules first inputs) (start_of start) o) where
        -- the part of a rule
        part_at : (k : ℕ) (r : Rule) → slice_get rules k ≡ Some r → (p : Part) × (slice_get parts k ≡ Some p) × (r ≡ rule_of_part p)
        part_at k r e = by_part (slice_get parts k) refl (sym (slice_get-map rule_of_part parts k) ∙ ap (λ (rs : List Rule). slice_get rs k) (sym ruled) ∙ e)
          where
            by_part : (q : Option Part) → slice_get parts k ≡ q → option_map rule_of_part q ≡ Some r → (p : Part) × (slice_get parts k ≡ Some p) × (r ≡ rule_of_part p)
            by_part None is e = absurd (cc)
            by_part (Some p) is e = (p, is, sym (some_is e))

        of_rule : (xs : List Input) (x : Input) (k : ℕ) (r : Option Rule) → slice_get rules k ≡ r → rule_value r xs ≡ Ok x → kind_of x ≡ number_kind
        of_rule xs x k None is e = absurd (cc)
        of_rule xs x k (Some r) is e =
            let p = part_at k r is in
            gives_number p.0 xs x (sym (ap (λ (q : Rule). q.value xs) p.2) ∙ e)

        by_place : (b : Bool) (xs : List Input) (x : Input) (k : ℕ) → all_numbers (kinds_of xs) ≡ true → cond b (the_one xs) (rule_value (slice_get rules k) xs) ≡ Ok x → kind_of x ≡ number_kind
        by_place true xs x k a e = first_number xs x a e
        by_place false xs x k a e = of_rule xs x k (slice_get rules k) refl e

        all_numbers_meant : (id : ℕ) → id < length inputs → IsNumber o id
        all_numbers_meant = are_numbers (graph_over rules first inputs) (layer_at layers) linked.rising (start_of start) o meaning (λ id. refl) (λ id xs x lt a e. by_place (nat_lt id first) xs x (id - first) a e)

        pub takes : Takes rules first inputs o
        takes id r xs le at valued =
            let p = part_at (id - first) r at in
            let lt : id < length inputs = omega (arith, le, slice_get_within rules (id - first) r at, linked.count) in
            let long : length (kinds_of xs) ≡ length (list_in lists (cells + (id - first))) =
            length-map xs kind_of ∙ as_many (map o (ids_of (list_in inputs id))) xs valued ∙ length-map (ids_of (list_in inputs id)) o
            ∙ ap length (list_same inputs lists same id) ∙ ap (λ (k : ℕ). length (list_in lists k)) (omega (arith, le, from)) in
            subst (λ (q : Rule). IsTrue (q.takes (kinds_of xs))) (sym p.2)
            (takes_numbers p.0 (kinds_of xs)
            (all_are_numbers o (ids_of (list_in inputs id)) xs
            (each_from (λ i. (i < length inputs) × (layer_at layers i < layer_at layers id)) (IsNumber o) (ids_of (list_in inputs id)) (λ i h. all_numbers_meant i h.0) (linked.rising id lt)) valued)
            (ap (taken_by p.0) long ∙ ok.taken (id - first) p.0 p.1))

-- moves of the first cells, wherever these are free
pub moves_of : (n m : ℕ) (g : Graph) (lists : List Moves) → FreeBelow m g → n ≤ m → All (λ v. AreMovesBelow n (moves_in v)) lists → All (λ v. AreMoves g (moves_in v)) lists
moves_of n m g lists free le all =
    All-weaker (λ (v : Moves). AreMovesBelow n (moves_in v)) (λ (v : Moves). AreMoves g (moves_in v)) (λ v h. h g (λ id lt. free id (omega (arith, lt, le)))) lists all

pub more_moves : (n : ℕ) (old new : List Moves) (v : Moves) → new ≡ old ++ v ∷ [] → All (λ v. AreMovesBelow n (moves_in v)) old → AreMovesBelow n (moves_in v) → All (λ v. AreMovesBelow n (moves_in v)) new
more_moves n old new v e all one = subst (λ (vs : List Moves). All (λ v. AreMovesBelow n (moves_in v)) vs) (sym e) (All-push (λ (v : Moves). AreMovesBelow n (moves_in v)) old v all one)
