-- What stands when nothing waits any more.
use Rattle.std.proofs.Common.{◌≡◌, inl, inr, ℕ, zero, suc, ◌+◌, ◌*◌, ◌<◌, ◌≤◌, Bool, true, false, cond, ◌||◌, List, [], ◌∷◌, map, length, Option, Some, None, Result, Ok, Err, IfOk, IfErr, OnOk, refl, sym, ap, ◌∙◌, subst, arith}
use Rattle.std.specs.BTreeMap.{get, IsOrdered}
use Rattle.std.specs.Ordering.{nat_cmp}
use Rattle.std.specs.List.{list_any}
use Rattle.std.proofs.lemmas.Bool.Decides.{leb_tells}
use Rattle.cbl_base.specs.Inputs.{kind_of}
use Rattle.cbl_base.specs.NodeLaw.{Rule}
use Rattle.cbl_base.specs.declared.ids.NodeId.{NodeId}
use Rattle.cbl_base.specs.declared.input.Input.{Input}
use Rattle.cbl_base.specs.declared.faults.RunFault.{RunFault}
use Rattle.store_turns.specs.declared.frame.Frame.{Frame}
use Rattle.store_turns.specs.declared.outcome.Outcome.{Outcome}
use Rattle.store_turns.specs.declared.outcome.Outcome.TheVariants.{Value, Fails, Missing}
use Rattle.store_turns.specs.Meaning.{Each, IsMeaning, come_to, outcome_of, graph_of, inputs_in, layer_of, uses_in, values_of}
use Rattle.store_turns.specs.Touch.{differs, bit, edges, touch, touched}
use Rattle.store_turns.proofs.Unique.{unique, each_from, same_map_each}
use Rattle.store_turns.proofs.Budget.{sum_same}
use Rattle.inc_store.specs.declared.course.Course.{Course}
use Rattle.inc_store.specs.declared.changed.NodeChange.{NodeChange}
use Rattle.store_build.specs.Frames.{cell_of, IsFrame}
use Rattle.inc_store.specs.Course.{changed_at, lost_or, outcome_now, Trace, differing, IsOver}
use Rattle.store_build.specs.declared.parts.StoreFault.{StoreFault}
use Rattle.store_build.specs.declared.parts.StoreFault.TheVariants.{Node, NoMemory}
use Rattle.inc_store.specs.Faults.{first_failing, EndsBy}
use Rattle.store_build.specs.Kept.{IsKept}
use Rattle.store_build.specs.Stops.{FailsFirst, IsStop}
use Rattle.inc_store.specs.Stores.{changes_between}
use Rattle.inc_store.proofs.MapEntries.{none_fails, fails_first, From, in_order, change_in}

-- ---- results
pub on_ok : {A E : Type 0} {P : A → Type 0} {Q : Type 0} (r : Result A E) → IfOk r P → ((x : A) → P x → Q) → OnOk r Q
on_ok (Ok x) h f = f x h
on_ok (Err e) h f = tt

pub if_ok : {A E : Type 0} {P Q : A → Type 0} (r : Result A E) → IfOk r P → ((x : A) → P x → Q x) → IfOk r Q
if_ok (Ok x) h f = f x h
if_ok (Err e) h f = tt

pub if_err : {A E : Type 0} {P Q : E → Type 0} (r : Result A E) → IfErr r P → ((x : E) → P x → Q x) → IfErr r Q
if_err (Ok x) h f = tt
if_err (Err e) h f = f e h

-- ---- touch depends on the ids alone that there are
any_same : (d e : ℕ → Bool) (n : ℕ) (is : List ℕ) → ((j : ℕ) → j < n → d j ≡ e j) → Each (λ i. i < n) is → list_any d is ≡ list_any e is
any_same d e n [] h each = refl
any_same d e n (i ∷ is) h each = ap (λ b. b || list_any d is) (h i each.0) ∙ ap (λ b. e i || b) (any_same d e n is h each.1)

touch_same : (moved d e : ℕ → Bool) (inputs : ℕ → List ℕ) (uses : ℕ → List (NodeId × ℕ)) (n : ℕ) → ((j : ℕ) → j < n → d j ≡ e j) → ((j : ℕ) → j < n → Each (λ i. i < n) (inputs j)) → touch moved d inputs uses n ≡ touch moved e inputs uses n
touch_same moved d e inputs uses n h each =
    let a : edges d uses n ≡ edges e uses n = sum_same (λ j. cond (d j) (length (uses j)) 0) (λ j. cond (e j) (length (uses j)) 0) n (λ j lt. ap (λ b. cond b (length (uses j)) 0) (h j lt)) in
    let b = sum_same (λ j. bit (touched moved d inputs j)) (λ j. bit (touched moved e inputs j)) n (λ j lt. ap (λ b. bit (moved j || b)) (any_same d e n (inputs j) h (each j lt))) in
    omega (arith, a, b)

module _ (rules : List Rule) (frame : Frame) (trace : Trace) (ok : IsFrame rules frame trace.kinds) (helds : List (List Input)) (cells : List Input) (course : Course) (steps : ℕ)
    (over : IsOver rules helds frame trace cells course steps) where
  o : ℕ → Outcome
  o = outcome_now course.lost cells

  inputs_low : (j : ℕ) → j < length frame.inputs.items → Each (λ i. i < length frame.inputs.items) (inputs_in frame j)
  inputs_low j lt = each_from (λ i. (i < length frame.inputs.items) × (layer_of frame i < layer_of frame j)) (λ i. i < length frame.inputs.items) (inputs_in frame j) (λ i h. h.0) (ok.shape.layers j lt)

  -- it is the meaning over the target
  pub settled : IsMeaning (graph_of rules frame) trace.target (outcome_now course.lost cells)
  settled = record {
    cells = λ j lt free. ap (λ l. lost_or l (cell_of cells j)) (over.found j lt free) ∙ ap (λ x. Value x) (over.frees j lt free);
    nodes = over.nodes;
  }

  pub within : (before : ℕ → Input) → ((j : ℕ) → trace.before j ≡ before j) → (o' : ℕ → Outcome) → IsMeaning (graph_of rules frame) trace.target o'
      → steps ≤ trace.base + 4 * touch trace.moved (λ j. differs (o' j) (before j)) (inputs_in frame) (uses_in frame) (length frame.inputs.items)
  within before same o' meaning =
      let equal = touch_same trace.moved (differing course.lost cells trace.before) (λ j. differs (o' j) (before j)) (inputs_in frame) (uses_in frame) (length frame.inputs.items)
      (λ j lt. ap (λ q. differs q (trace.before j)) (unique (graph_of rules frame) (layer_of frame) ok.shape.layers trace.target (outcome_now course.lost cells) o' settled meaning j lt) ∙ ap (λ x. differs (o' j) x) (same j)) inputs_low in
      let s = over.bound in
      omega (arith, equal, s)

  kinds_low : (is : List ℕ) → Each (λ i. i < length frame.inputs.items) is → map (λ j. kind_of (cell_of cells j)) is ≡ map trace.kinds is
  kinds_low [] each = refl
  kinds_low (i ∷ is) each = ap (λ k. k ∷ map (λ j. kind_of (cell_of cells j)) is) (over.kinded i each.0) ∙ ap (λ ks. trace.kinds i ∷ ks) (kinds_low is each.1)

  -- each id's values are of the kind of the one that it has
  with_kinds : IsFrame rules frame (λ j. kind_of (cell_of cells j))
  with_kinds = record {
    shape = ok.shape;
    small = ok.small;
    layers = ok.layers;
    uses = ok.uses;
    first = ok.first;
    users = ok.users;
    defined = ok.defined;
    cones = ok.cones;
    kinded = record {
      free = λ j lt free. over.kinded j lt ∙ ok.kinded.free j lt free;
      values = λ j xs x lt f kinds is. ok.kinded.values j xs x lt f (kinds ∙ kinds_low (inputs_in frame j) (inputs_low j lt)) is ∙ sym (over.kinded j lt);
    };
  }

  -- ---- where no id fails, all have values
  module _ (none : first_failing course.lost.entries ≡ None) where
    missing_never : (r : Result Input RunFault) → outcome_of r ≡ Missing → ⊥
    missing_never (Ok x) e = cc
    missing_never (Err f) e = cc

    values_there : (is : List ℕ) → Each (λ i. get nat_cmp course.lost i ≡ None) is → (xs : List Input) × (values_of (map (outcome_now course.lost cells) is) ≡ Some xs)
    values_there [] each = ([], refl)
    values_there (i ∷ is) each =
        let rest = values_there is each.1 in
        (cell_of cells i ∷ rest.0, rw (each.0, rest.1) refl)

    found_one : (j : ℕ) → j < length frame.inputs.items → ((i : ℕ) → i < length frame.inputs.items → layer_of frame i < layer_of frame j → get nat_cmp course.lost i ≡ None) → get nat_cmp course.lost j ≡ None
    found_one j lt lower = by_lost (get nat_cmp course.lost j) refl
      where
        by_free : (b : Bool) → (graph_of rules frame).is_free j ≡ b → get nat_cmp course.lost j ≡ Some None → get nat_cmp course.lost j ≡ None
        by_free true e is = over.found j lt e
        by_free false e is =
            let there = values_there (inputs_in frame j) (each_from (λ i. (i < length frame.inputs.items) × (layer_of frame i < layer_of frame j)) (λ i. get nat_cmp course.lost i ≡ None) (inputs_in frame j) (λ i h. lower i h.0 h.1) (ok.shape.layers j lt)) in
            absurd (missing_never ((graph_of rules frame).op j there.0) (sym (ap (come_to ((graph_of rules frame).op j)) there.1) ∙ sym (over.nodes j lt e) ∙ ap (λ l. lost_or l (cell_of cells j)) is))

        by_lost : (l : Option (Option RunFault)) → get nat_cmp course.lost j ≡ l → l ≡ None
        by_lost None e = refl
        by_lost (Some (Some f)) e = absurd (none_fails j f course.lost.entries none e)
        by_lost (Some None) e = sym e ∙ by_free ((graph_of rules frame).is_free j) refl e

    found_below : (d j : ℕ) → j < length frame.inputs.items → layer_of frame j < d → get nat_cmp course.lost j ≡ None
    found_below zero j lt low = absurd (omega (arith, low))
    found_below (suc d) j lt low = found_one j lt (λ i li lower. found_below d i li (omega (arith, lower, low)))

    all_found : (j : ℕ) → j < length frame.inputs.items → get nat_cmp course.lost j ≡ None
    all_found j lt = found_below (suc (layer_of frame j)) j lt (omega arith)

    all_values : (j : ℕ) → j < length frame.inputs.items → outcome_now course.lost cells j ≡ Value (cell_of cells j)
    all_values j lt = ap (λ l. lost_or l (cell_of cells j)) (all_found j lt)

    same_values : (j : ℕ) → j < length frame.inputs.items → map (outcome_now course.lost cells) (inputs_in frame j) ≡ map (λ i. Value (cell_of cells i)) (inputs_in frame j)
    same_values j lt = same_map_each (outcome_now course.lost cells) (λ i. Value (cell_of cells i)) (inputs_in frame j) (each_from (λ i. i < length frame.inputs.items) (λ i. outcome_now course.lost cells i ≡ Value (cell_of cells i)) (inputs_in frame j) all_values (inputs_low j lt))

    pub is_kept : IsKept rules helds frame cells
    is_kept = record {
      framed = with_kinds;
      many_cells = over.many_cells;
      many_helds = over.many_helds;
      fresh = record {
        cells = λ j lt free. refl;
        nodes = λ j lt f. sym (all_values j lt) ∙ over.nodes j lt f ∙ ap (λ os. come_to ((graph_of rules frame).op j) (values_of os)) (same_values j lt);
      };
      holds = λ j lt f. sym (ap values_of (same_values j lt)) ∙ over.holds j (cell_of cells j) lt f (all_values j lt);
    }

  -- ---- where one fails, it is the least that does
  pub fails : (id : ℕ) (fault : RunFault) → IsOrdered nat_cmp course.lost → first_failing course.lost.entries ≡ Some (id, fault) → FailsFirst (graph_of rules frame) trace.target id fault
  fails id fault up e =
      let f = fails_first id fault course.lost.entries up e in
      record {
        outcome = outcome_now course.lost cells;
        meaning = settled;
        here = (inside f.0, ap (λ l. lost_or l (cell_of cells id)) f.0);
        least = λ j other lt is. f.1 j other (own_fault (get nat_cmp course.lost j) (cell_of cells j) other is);
      }
    where
      inside : get nat_cmp course.lost id ≡ Some (Some fault) → id < length frame.inputs.items
      inside is = elim (leb_tells (length frame.inputs.items) id) [ inl a ↦ absurd (some_none (sym is ∙ over.no_lost id a.1)) | inr a ↦ a.1 ]
        where
          some_none : Some (Some fault) ≡ None → ⊥
          some_none e = cc

      own_fault : (l : Option (Option RunFault)) (x : Input) (other : RunFault) → lost_or l x ≡ Fails other → l ≡ Some (Some other)
      own_fault None x other e = absurd (cc)
      own_fault (Some (Some f)) x other e = cc
      own_fault (Some None) x other e = absurd (cc)

  pub stops : (stop : StoreFault) → EndsBy course stop → IsStop (graph_of rules frame) trace.target stop
  stops (Node node fault) h = fails node.0 fault h.0 h.1
  stops NoMemory h = tt

  -- ---- the changes, in order of id
  pub all_changes : (befores : List Input) → ((j : ℕ) → trace.before j ≡ cell_of befores j) → length befores ≡ length frame.inputs.items → IsOrdered nat_cmp course.changes → map (λ e. e.1) course.changes.entries ≡ changes_between 0 befores cells
  unfolding From
  all_changes befores same many up = in_order 0 befores cells course.changes.entries up (from_zero course.changes.entries) (λ j. let z : j ≡ 0 + j = omega arith in subst (λ k. get nat_cmp course.changes k ≡ change_in 0 befores cells j) z (by_place j))
    where
      from_zero : (es : List (ℕ × NodeChange)) → From 0 es
      from_zero [] = tt
      from_zero (e ∷ es) = (omega arith, from_zero es)

      -- the change at a place of two lists
      in_lists : (i : ℕ) (xs ys : List Input) (j : ℕ) → j < length xs → length ys ≡ length xs → change_in i xs ys j ≡ cond (differs (Value (cell_of ys j)) (cell_of xs j)) (Some (changed_at (i + j) (cell_of xs j) (cell_of ys j))) None
      in_lists i [] ys j lt e = absurd (omega (arith, lt))
      in_lists i (x ∷ xs) [] j lt e = absurd (omega (arith, e))
      in_lists i (x ∷ xs) (y ∷ ys) zero lt e = let s : i ≡ i + 0 = omega arith in ap (λ k. cond (differs (Value y) x) (Some (changed_at k x y)) None) s
      in_lists i (x ∷ xs) (y ∷ ys) (suc j) lt e = let s : suc i + j ≡ i + suc j = omega arith in in_lists (suc i) xs ys j (omega (arith, lt)) (omega (arith, e)) ∙ ap (λ k. cond (differs (Value (cell_of ys j)) (cell_of xs j)) (Some (changed_at k (cell_of xs j) (cell_of ys j))) None) s

      past : (i : ℕ) (xs ys : List Input) (j : ℕ) → length xs ≤ j → change_in i xs ys j ≡ None
      past i [] ys j le = refl
      past i (x ∷ xs) [] j le = refl
      past i (x ∷ xs) (y ∷ ys) zero le = absurd (omega (arith, le))
      past i (x ∷ xs) (y ∷ ys) (suc j) le = past (suc i) xs ys j (omega (arith, le))

      by_place : (j : ℕ) → get nat_cmp course.changes j ≡ change_in 0 befores cells j
      by_place j = elim (leb_tells (length frame.inputs.items) j) [
        | inl a ↦ over.no_changes j a.1 ∙ sym (past 0 befores cells j (let h = a.1 in omega (arith, h, many)))
        | inr a ↦ over.changes j a.1 ∙ ap (λ x. cond (differs (Value (cell_of cells j)) x) (Some (changed_at j x (cell_of cells j))) None) (same j)
            ∙ (let z : j ≡ 0 + j = omega arith in ap (λ k. cond (differs (Value (cell_of cells j)) (cell_of befores j)) (Some (changed_at k (cell_of befores j) (cell_of cells j))) None) z)
            ∙ sym (in_lists 0 befores cells j (let h = a.1 in omega (arith, h, many)) (let h = over.many_cells in omega (arith, h, many)))
      ]
