-- The turn of the first that waits.
use Rattle.std.proofs.Common.{◌≡◌, ◌≢◌, ◌⊎◌, inl, inr, ℕ, ◌+◌, ◌-◌, ◌*◌, ◌<◌, ◌≤◌, Bool, true, false, cond, nat_lt, List, [], ◌∷◌, map, length, slice_set, slice_get, slice_index_or, Option, Some, None, IsSome, Result, Ok, Err, refl, sym, ap, ◌∙◌, subst, arith}
use Rattle.std.specs.BTreeMap.{get}
use Rattle.std.specs.Ordering.{nat_cmp}
use Rattle.std.proofs.lemmas.Bool.Decides.{leb_tells, nat_tests}
use Rattle.std.proofs.lemmas.List.{get_or-set_same, get_or-set_other, length-set}
use Rattle.cbl_base.specs.Inputs.{InputKind, kind_of, kinds_of}
use Rattle.cbl_base.specs.NodeLaw.{Rule}
use Rattle.cbl_base.specs.Changes.{AreChanges, after_changes}
use Rattle.cbl_base.specs.declared.input.Input.{Input}
use Rattle.cbl_base.specs.declared.input.Change.{Change}
use Rattle.cbl_base.specs.declared.faults.RunFault.{RunFault}
use Rattle.store_turns.specs.declared.frame.Frame.{Frame}
use Rattle.store_turns.specs.declared.outcome.Outcome.{Outcome}
use Rattle.store_turns.specs.declared.outcome.Outcome.TheVariants.{Value, Fails, Missing}
use Rattle.store_turns.specs.Meaning.{Each, IsMeaning, computed, come_to, outcome_of, rule_value, the_one, is_empty, graph_of, inputs_in, layer_of, uses_in, values_of, with_value}
use Rattle.store_turns.specs.Waits.{Wait, waits, SameElsewhere}
use Rattle.store_turns.specs.Telling.{positions, to_come, Fits, IsTold}
use Rattle.store_turns.specs.Touch.{differs, cost, touch}
use Rattle.store_turns.specs.Turns.{rank}
use Rattle.store_turns.proofs.NextTurn.{at_position, not_some, nonempty}
use Rattle.store_turns.proofs.Unique.{each_from}
use Rattle.inc_store.specs.declared.course.Course.{Course}
use Rattle.store_build.specs.Frames.{cell_of, held_of, IsFrame}
use Rattle.inc_store.specs.Course.{with_outcome, lost_by, change_of, turn_outcome, helds_after, lost_or, outcome_now, Trace, NotBefore, first_front, differing, InCourse, IsOver}
use Rattle.store_turns.proofs.Differs.{same_value}
use Rattle.inc_store.proofs.Limits.{limit_now, limit_turn, outcome_final}
use Rattle.inc_store.proofs.CourseStep.{step, not_lost, cell_is, other_cell, outcome_is}

-- ---- values of their kinds
-- where a computed outcome is a value, all inputs have values, and it is their operation's
value_from : (op : List Input → Result Input RunFault) (v : Option (List Input)) (x : Input) → come_to op v ≡ Value x → (xs : List Input) × (v ≡ Some xs) × (op xs ≡ Ok x)
value_from op None x e = absurd (cc)
value_from op (Some xs) x e = (xs, refl, ok_from (op xs) x e)
  where
    ok_from : (r : Result Input RunFault) (x : Input) → outcome_of r ≡ Value x → r ≡ Ok x
    ok_from (Ok y) x e = cc
    ok_from (Err f) x e = absurd (cc)

pub first_value : (o : Outcome) (os : Option (List Input)) (xs : List Input) → with_value o os ≡ Some xs → (x : Input) × (ys : List Input) × (o ≡ Value x) × (os ≡ Some ys) × (xs ≡ x ∷ ys)
first_value (Value x) (Some ys) xs e = (x, ys, refl, refl, (cc))
first_value (Value x) None xs e = absurd (cc)
first_value (Fails f) os xs e = absurd (cc)
first_value Missing os xs e = absurd (cc)

kinds_values : (l : ℕ → Option (Option RunFault)) (cells : List Input) (n : ℕ) (kinds : ℕ → InputKind) → ((j : ℕ) → j < n → kind_of (cell_of cells j) ≡ kinds j)
    → (is : List ℕ) (xs : List Input) → Each (λ i. i < n) is → values_of (map (λ j. lost_or (l j) (cell_of cells j)) is) ≡ Some xs → kinds_of xs ≡ map kinds is
kinds_values l cells n kinds h [] xs low e = ap kinds_of (nothing xs e)
  where
    nothing : (xs : List Input) → Some [] ≡ Some xs → xs ≡ []
    nothing xs e = cc
kinds_values l cells n kinds h (i ∷ is) xs low e =
    let f = first_value (lost_or (l i) (cell_of cells i)) (values_of (map (λ j. lost_or (l j) (cell_of cells j)) is)) xs e in
    ap kinds_of f.4
    ∙ ap (λ k. k ∷ kinds_of f.1) (ap kind_of (sym (cell_is (l i) (cell_of cells i) f.0 f.2)) ∙ h i low.0)
    ∙ ap (λ ks. kinds i ∷ ks) (kinds_values l cells n kinds h is f.1 low.1 f.3)

above : (a b : ℕ) → nat_lt a b ≡ false → b ≤ a
above a b e = grind (arith, nat_tests)

module _ (rules : List Rule) (frame : Frame) (trace : Trace) (ok : IsFrame rules frame trace.kinds) (helds : List (List Input)) (cells : List Input) (course : Course) (front steps : ℕ)
    (state : InCourse rules helds frame trace cells course (NotBefore front (layer_of frame)) steps) (high : first_front ≤ front)
    (l id : ℕ) (x : Option (List Change)) (u : ℕ → ℕ → Wait)
    (first_in : waits course.waiting l id ≡ Some x)
    (least : (k i : ℕ) → IsSome (waits course.waiting k i) → (l < k) ⊎ ((l ≡ k) × (id ≤ i)))
    (taken : u l id ≡ None) (rest : SameElsewhere u (waits course.waiting) l id) where
  o : ℕ → Outcome
  o = outcome_now course.lost cells

  pub keyed : (l ≡ layer_of frame id) × (id < length frame.inputs.items) × (inputs_in frame id ≢ []) × (front ≤ rank (layer_of frame) id)
  keyed = state.turns.keyed l id (subst (λ (y : Wait). IsSome y) (sym first_in) refl)

  here_waits : waits course.waiting (layer_of frame id) id ≡ Some x
  here_waits = subst (λ k. waits course.waiting k id ≡ Some x) keyed.0 first_in

  pub not_free : (graph_of rules frame).is_free id ≡ false
  not_free = by_kind ((graph_of rules frame).is_free id) refl
    where
      by_kind : (k : Bool) → (graph_of rules frame).is_free id ≡ k → k ≡ false
      by_kind true e = absurd (keyed.2 (ok.shape.bound id e))
      by_kind false e = refl

  pub unlost : get nat_cmp course.lost id ≡ None
  unlost = not_lost (get nat_cmp course.lost id) (cell_of cells id) (cell_of cells id) (state.turns.beyond id keyed.1 keyed.3)

  -- what it holds, with the changes, is what its inputs came to
  fit_here : Fits (held_of helds cells frame id) (map o (inputs_in frame id)) x
  unfolding o
  fit_here = subst (λ (y : Wait). Fits (held_of helds cells frame id) (map (outcome_now course.lost cells) (inputs_in frame id)) (to_come y)) here_waits
      (state.turns.fits id (cell_of cells id) tt keyed.1 not_free (state.turns.beyond id keyed.1 keyed.3))

  pub changes_here : nat_lt id frame.first ≡ false → (cs : List Change) → x ≡ Some cs → AreChanges (slice_index_or helds (id - frame.first) []) cs
  changes_here past cs e =
      subst (λ (h : List Input). AreChanges h cs) (ap (λ b. cond b (cell_of cells id ∷ []) (slice_index_or helds (id - frame.first) [])) past)
      (subst (λ y. Fits (held_of helds cells frame id) (map o (inputs_in frame id)) y) e fit_here).0

  pub one_here : nat_lt id frame.first ≡ true → (i : ℕ) × (inputs_in frame id ≡ i ∷ []) × (i < length frame.inputs.items)
  one_here cell =
      let one = ok.defined id cell (not_empty (inputs_in frame id) keyed.2) in
      (one.0, one.1, (subst (λ is. Each (λ i. (i < length frame.inputs.items) × (layer_of frame i < layer_of frame id)) is) one.1 (ok.shape.layers id keyed.1)).0.0)
    where
      not_empty : (is : List ℕ) → is ≢ [] → is_empty is ≡ false
      not_empty [] h = absurd (h refl)
      not_empty (i ∷ is) h = refl

  later_waiting : (k i : ℕ) → IsSome (u k i) → NotBefore (rank (layer_of frame) id + 1) (layer_of frame) i
  later_waiting k i b =
      let away : k ≡ l → i ≢ id = λ e f. not_some _ taken (subst (λ j. IsSome (u l j)) f (subst (λ q. IsSome (u q i)) e b)) in
      let old = subst (λ (y : Wait). IsSome y) (rest k i away) b in
      let key = state.turns.keyed k i old in
      let here = keyed in
      let few = ok.shape.few in
      elim (least k i old) [
        | inl lower ↦ omega (arith, lower, key.0, key.1, here.0, here.1, few)
        | inr same ↦ let ne : i ≢ id = away (sym same.0) in omega (arith, same.0, same.1, ne, key.0, key.1, here.0, here.1)
      ]

  later_users : (j : ℕ) → positions id (inputs_in frame j) ≢ [] → NotBefore (rank (layer_of frame) id + 1) (layer_of frame) j
  later_users j h =
      let inside : j < length frame.inputs.items = elim (leb_tells (length frame.inputs.items) j) [ inl a ↦ absurd (nonempty id _ h (ok.shape.outside j a.1)) | inr a ↦ a.1 ] in
      let up = at_position (λ i. (i < length frame.inputs.items) × (layer_of frame i < layer_of frame j)) id (inputs_in frame j) (ok.shape.layers j inside) h in
      let few = ok.shape.few in
      omega (arith, up.0, up.1, few)

  still : (j : ℕ) → NotBefore (rank (layer_of frame) id + 1) (layer_of frame) j → NotBefore front (layer_of frame) j × (j ≢ id)
  still j a =
      let f = keyed.3 in
      (omega (arith, a, f), λ e. absurd (let b : rank (layer_of frame) id + 1 ≤ rank (layer_of frame) id = subst (λ k. rank (layer_of frame) id + 1 ≤ rank (layer_of frame) k) e a in omega (arith, b)))

  leaves : (j : ℕ) → j < length frame.inputs.items → (graph_of rules frame).is_free j ≡ true → NotBefore front (layer_of frame) j → j ≢ id → NotBefore (rank (layer_of frame) id + 1) (layer_of frame) j
  leaves j low free late ne =
      let bottom = ok.shape.lowest j free in
      let few = ok.shape.few in
      absurd (omega (arith, bottom, few, low, late, high))

  waiting_late : (k i : ℕ) → IsSome (waits course.waiting k i) → rank (layer_of frame) id ≤ rank (layer_of frame) i
  waiting_late k i h =
      let key = state.turns.keyed k i h in
      let here = keyed in
      let few = ok.shape.few in
      elim (least k i h) [
        | inl lower ↦ omega (arith, lower, key.0, key.1, here.0, here.1, few)
        | inr same ↦ omega (arith, same.0, same.1, key.0, key.1, here.0, here.1)
      ]

  free_done : (i j : ℕ) → i < length frame.inputs.items → (graph_of rules frame).is_free i ≡ true → NotBefore front (layer_of frame) i → layer_of frame i < layer_of frame j → rank (layer_of frame) j ≤ rank (layer_of frame) id → ⊥
  free_done i j lt free late lower under = absurd (let bottom = ok.shape.lowest i free in let few = ok.shape.few in omega (arith, bottom, few, lt, late, high))

  late_there : (j : ℕ) → j < length frame.inputs.items → rank (layer_of frame) id ≤ rank (layer_of frame) j → (graph_of rules frame).is_free j ≡ false → NotBefore front (layer_of frame) j
  late_there j lt at f = let a = keyed.3 in omega (arith, a, at)

  module _ (o' : ℕ → Outcome) (meaning : IsMeaning (graph_of rules frame) trace.target o') where
    pub limit_before : steps + cost (Some x) + 4 * cond (differs (o' id) (trace.before id)) (length (uses_in frame id)) 0
        ≤ trace.base + 4 * touch trace.moved (λ j. differs (o' j) (trace.before j)) (inputs_in frame) (uses_in frame) (length frame.inputs.items)
    limit_before =
        let a = limit_turn rules frame trace ok helds cells course (NotBefore front (layer_of frame)) steps state (rank (layer_of frame) id) waiting_late late_there free_done o' meaning id keyed.1 keyed.3 in
        let costs : cost (waits course.waiting (layer_of frame id) id) ≡ cost (Some x) = ap cost here_waits in
        omega (arith, a, costs)

    comes_finally : computed (graph_of rules frame) (outcome_now course.lost cells) id ≡ o' id
    comes_finally = outcome_final rules frame trace ok helds cells course (NotBefore front (layer_of frame)) steps state (rank (layer_of frame) id) waiting_late late_there free_done o' meaning id keyed.1 (omega arith) not_free

  module _ (outcome : Outcome) (helds' : List (List Input)) (cells' : List Input) (course' : Course) (steps' : ℕ)
      (outcome_here : outcome ≡ turn_outcome rules helds frame cells id x) (helds_here : helds' ≡ helds_after frame id x helds)
      (cells_here : cells' ≡ with_outcome cells id outcome) where
    in_cells : id < length cells
    in_cells = let many = state.many_cells in let here = keyed.1 in omega (arith, many, here)

    past_first : nat_lt id frame.first ≡ false → id - frame.first < length helds
    past_first past = let a = above id frame.first past in let here = keyed.1 in let many = state.many_helds in let f = ok.first in omega (arith, a, here, many, f)

    -- a cell takes the value of its one input
    module _ (cell : nat_lt id frame.first ≡ true) (cs : List Change) (e : x ≡ Some cs) where
      all : values_of (map o (inputs_in frame id)) ≡ Some (after_changes (held_of helds cells frame id) cs)
      all = (subst (λ y. Fits (held_of helds cells frame id) (map o (inputs_in frame id)) y) e fit_here).1

      the_input : ℕ
      the_input = (one_here cell).0

      one_value : values_of (o the_input ∷ []) ≡ Some (after_changes (held_of helds cells frame id) cs)
      unfolding the_input
      one_value = subst (λ is. values_of (map o is) ≡ Some (after_changes (held_of helds cells frame id) cs)) (one_here cell).1 all

      value_there : (y : Input) × (ys : List Input) × (o the_input ≡ Value y) × (Some [] ≡ Some ys) × (after_changes (held_of helds cells frame id) cs ≡ y ∷ ys)
      value_there = first_value (o the_input) (Some []) (after_changes (held_of helds cells frame id) cs) one_value

      value_cell : cell_of cells the_input ≡ value_there.0
      unfolding o
      value_cell = cell_is (get nat_cmp course.lost the_input) (cell_of cells the_input) value_there.0 value_there.2

      alone : (ys : List Input) → Some [] ≡ Some ys → ys ≡ []
      alone ys e = cc

      outcome_cell : outcome ≡ Value (cell_of cells the_input)
      unfolding the_input
      outcome_cell = outcome_here ∙ ap (turn_outcome rules helds frame cells id) e
          ∙ ap (λ b. cond b (Value (cell_of cells (slice_index_or (inputs_in frame id) 0 0))) (outcome_of (rule_value (slice_get rules (id - frame.first)) (after_changes (slice_index_or helds (id - frame.first) []) cs)))) cell
          ∙ ap (λ is. Value (cell_of cells (slice_index_or is 0 0))) (one_here cell).1

      all_one : values_of (map o (inputs_in frame id)) ≡ Some (cell_of cells the_input ∷ [])
      all_one = all ∙ ap (λ ys. Some ys) (value_there.4 ∙ ap (λ ys. value_there.0 ∷ ys) (alone value_there.1 value_there.3) ∙ ap (λ y. y ∷ []) (sym value_cell))

      comes_cell : outcome ≡ computed (graph_of rules frame) o id
      comes_cell = outcome_cell ∙ sym (ap (come_to ((graph_of rules frame).op id)) all_one
          ∙ ap (λ b. outcome_of (cond b (the_one (cell_of cells the_input ∷ [])) (rule_value (slice_get rules (id - frame.first)) (cell_of cells the_input ∷ [])))) cell)

      keeps_cell : values_of (map o (inputs_in frame id)) ≡ Some (held_of helds' cells' frame id)
      keeps_cell = all_one ∙ ap (λ ys. Some ys) (sym
          (ap (λ b. cond b (cell_of cells' id ∷ []) (slice_index_or helds' (id - frame.first) [])) cell
          ∙ ap (λ (c : List Input). cell_of c id ∷ []) (cells_here ∙ ap (with_outcome cells id) outcome_cell)
          ∙ ap (λ y. y ∷ []) (sets_cell (cell_of cells the_input))))
        where
          value_of : (a b : Input) → Value a ≡ Value b → a ≡ b
          value_of a b e = cc

          sets_cell : (y : Input) → cell_of (slice_set cells id y) id ≡ y
          sets_cell y = value_of _ _ (outcome_is (Value y) cells id None in_cells refl)

    -- a node computes
    module _ (past : nat_lt id frame.first ≡ false) (cs : List Change) (e : x ≡ Some cs) where
      kept : List Input
      kept = after_changes (slice_index_or helds (id - frame.first) []) cs

      all_kept : values_of (map o (inputs_in frame id)) ≡ Some kept
      unfolding kept
      all_kept = subst (λ (h : List Input). values_of (map o (inputs_in frame id)) ≡ Some (after_changes h cs)) (ap (λ b. cond b (cell_of cells id ∷ []) (slice_index_or helds (id - frame.first) [])) past)
          (subst (λ y. Fits (held_of helds cells frame id) (map o (inputs_in frame id)) y) e fit_here).1

      comes_node : outcome ≡ computed (graph_of rules frame) o id
      unfolding kept
      comes_node = outcome_here ∙ ap (turn_outcome rules helds frame cells id) e
          ∙ ap (λ b. cond b (Value (cell_of cells (slice_index_or (inputs_in frame id) 0 0))) (outcome_of (rule_value (slice_get rules (id - frame.first)) (after_changes (slice_index_or helds (id - frame.first) []) cs)))) past
          ∙ sym (ap (come_to ((graph_of rules frame).op id)) all_kept
          ∙ ap (λ b. outcome_of (cond b (the_one kept) (rule_value (slice_get rules (id - frame.first)) kept))) past)

      keeps_node : values_of (map o (inputs_in frame id)) ≡ Some (held_of helds' cells' frame id)
      unfolding kept
      keeps_node = all_kept ∙ ap (λ ys. Some ys) (sym
          (ap (λ b. cond b (cell_of cells' id ∷ []) (slice_index_or helds' (id - frame.first) [])) past
          ∙ ap (λ (hs : List (List Input)). slice_index_or hs (id - frame.first) []) (helds_here ∙ ap (λ y. helds_after frame id y helds) e
          ∙ ap (λ b. cond b helds (slice_set helds (id - frame.first) (after_changes (slice_index_or helds (id - frame.first) []) cs))) past)
          ∙ get_or-set_same helds (id - frame.first) (after_changes (slice_index_or helds (id - frame.first) []) cs) [] (past_first past)))

    below_comes : x ≡ None → outcome ≡ computed (graph_of rules frame) o id
    below_comes e = outcome_here ∙ ap (turn_outcome rules helds frame cells id) e
        ∙ sym (ap (come_to ((graph_of rules frame).op id)) (subst (λ y. Fits (held_of helds cells frame id) (map o (inputs_in frame id)) y) e fit_here))

    comes : outcome ≡ computed (graph_of rules frame) o id
    comes = by_what x refl
      where
        by_place : (cs : List Change) → x ≡ Some cs → (b : Bool) → nat_lt id frame.first ≡ b → outcome ≡ computed (graph_of rules frame) o id
        by_place cs e true h = comes_cell h cs e
        by_place cs e false h = comes_node h cs e

        by_what : (y : Option (List Change)) → x ≡ y → outcome ≡ computed (graph_of rules frame) o id
        by_what None e = below_comes e
        by_what (Some cs) e = by_place cs e (nat_lt id frame.first) refl

    -- the steps of the turn, whatever comes of it
    pub limit_after : (o' : ℕ → Outcome) → IsMeaning (graph_of rules frame) trace.target o' → (end : ℕ)
        → end ≤ steps + cost (Some x) + 2 * cond (differs outcome (cell_of cells id)) (length (uses_in frame id)) 0
        → end ≤ trace.base + 4 * touch trace.moved (λ j. differs (o' j) (trace.before j)) (inputs_in frame) (uses_in frame) (length frame.inputs.items)
    unfolding o
    limit_after o' meaning end turn =
        let a = limit_before o' meaning in
        let same : cond (differs outcome (cell_of cells id)) (length (uses_in frame id)) 0 ≡ cond (differs (o' id) (trace.before id)) (length (uses_in frame id)) 0 =
        ap (λ q. cond (differs q (cell_of cells id)) (length (uses_in frame id)) 0) (comes ∙ comes_finally o' meaning)
        ∙ ap (λ c. cond (differs (o' id) c) (length (uses_in frame id)) 0) was_before in
        omega (arith, a, same, turn)
      where
        was_before : cell_of cells id ≡ trace.before id
        was_before = same_value (cell_of cells id) (trace.before id) (sym (ap (λ q. differs q (trace.before id)) (state.turns.beyond id keyed.1 keyed.3)) ∙ state.same id keyed.1 keyed.3)

    keeps : (y : Input) → outcome ≡ Value y → values_of (map o (inputs_in frame id)) ≡ Some (held_of helds' cells' frame id)
    keeps y is = by_what x refl
      where
        missing_value : Missing ≡ Value y → ⊥
        missing_value e = cc

        by_place : (cs : List Change) → x ≡ Some cs → (b : Bool) → nat_lt id frame.first ≡ b → values_of (map o (inputs_in frame id)) ≡ Some (held_of helds' cells' frame id)
        by_place cs e true h = keeps_cell h cs e
        by_place cs e false h = keeps_node h cs e

        by_what : (z : Option (List Change)) → x ≡ z → values_of (map o (inputs_in frame id)) ≡ Some (held_of helds' cells' frame id)
        by_what None e = absurd (missing_value (sym (outcome_here ∙ ap (turn_outcome rules helds frame cells id) e) ∙ is))
        by_what (Some cs) e = by_place cs e (nat_lt id frame.first) refl

    pub kind : (y : Input) → outcome ≡ Value y → kind_of y ≡ trace.kinds id
    unfolding o
    kind y is =
        let v = value_from ((graph_of rules frame).op id) (values_of (map (outcome_now course.lost cells) (inputs_in frame id))) y (sym comes ∙ is) in
        ok.kinded.values id v.0 y keyed.1 not_free
        (kinds_values (λ j. get nat_cmp course.lost j) cells (length frame.inputs.items) trace.kinds state.kinded (inputs_in frame id) v.0
        (each_from (λ i. (i < length frame.inputs.items) × (layer_of frame i < layer_of frame id)) (λ i. i < length frame.inputs.items) (inputs_in frame id) (λ i h. h.0) (ok.shape.layers id keyed.1)) v.1) v.2

    helds_many : length helds' ≡ length rules
    helds_many = ap length helds_here ∙ by_what x ∙ state.many_helds
      where
        by_place : (b : Bool) (h : List Input) → length (cond b helds (slice_set helds (id - frame.first) h)) ≡ length helds
        by_place true h = refl
        by_place false h = length-set helds (id - frame.first) h

        by_what : (y : Option (List Change)) → length (helds_after frame id y helds) ≡ length helds
        by_what None = refl
        by_what (Some cs) = by_place (nat_lt id frame.first) _

    pub held_other : (j : ℕ) → j ≢ id → held_of helds' cells' frame j ≡ held_of helds cells frame j
    held_other j ne =
        ap (λ (hs : List (List Input)). held_of hs cells' frame j) helds_here
        ∙ ap (λ (c : Input). cond (nat_lt j frame.first) (c ∷ []) (slice_index_or (helds_after frame id x helds) (j - frame.first) [])) (ap (λ (cs : List Input). cell_of cs j) cells_here ∙ other_cell outcome cells id j ne)
        ∙ by_what x
      where
        by_place : (h : List Input) (a b : Bool) → nat_lt j frame.first ≡ a → nat_lt id frame.first ≡ b
            → cond a (cell_of cells j ∷ []) (slice_index_or (cond b helds (slice_set helds (id - frame.first) h)) (j - frame.first) []) ≡ cond a (cell_of cells j ∷ []) (slice_index_or helds (j - frame.first) [])
        by_place h true b e f = refl
        by_place h false true e f = refl
        by_place h false false e f = let p = above j frame.first e in let q = above id frame.first f in get_or-set_other helds (id - frame.first) (j - frame.first) h [] (λ s. ne (omega (arith, s, p, q)))

        by_what : (y : Option (List Change)) → cond (nat_lt j frame.first) (cell_of cells j ∷ []) (slice_index_or (helds_after frame id y helds) (j - frame.first) []) ≡ held_of helds cells frame j
        by_what None = refl
        by_what (Some cs) = by_place (after_changes (slice_index_or helds (id - frame.first) []) cs) (nat_lt j frame.first) (nat_lt id frame.first) refl refl

    not_both : {P : Type 0} → (graph_of rules frame).is_free id ≡ true → P
    not_both free = absurd (differ (sym free ∙ not_free))
      where
        differ : true ≡ false → ⊥
        differ e = cc

    pub turn_step : IsTold (layer_of frame) (uses_in frame id) (cell_of cells id) outcome u (waits course'.waiting)
        → get nat_cmp course'.lost id ≡ lost_by outcome → ((j : ℕ) → j ≢ id → get nat_cmp course'.lost j ≡ get nat_cmp course.lost j)
        → get nat_cmp course'.changes id ≡ change_of id outcome (cell_of cells id) (get nat_cmp course.changes id) → ((j : ℕ) → j ≢ id → get nat_cmp course'.changes j ≡ get nat_cmp course.changes j)
        → steps' ≤ steps + cost (Some x) + 2 * cond (differs outcome (cell_of cells id)) (length (uses_in frame id)) 0
        → InCourse rules helds' frame trace cells' course' (NotBefore (rank (layer_of frame) id + 1) (layer_of frame)) steps'
    unfolding o
    turn_step told lost_here lost_other change_here change_other turn =
        step rules frame trace ok helds helds' cells cells' course course' (NotBefore front (layer_of frame)) (NotBefore (rank (layer_of frame) id + 1) (layer_of frame)) steps steps' state
        id outcome keyed.1 keyed.3 u (subst (λ k. u k id ≡ None) keyed.0 taken) (subst (λ k. SameElsewhere u (waits course.waiting) k id) keyed.0 rest)
        later_waiting later_users still leaves told cells_here lost_here lost_other change_here change_other helds_many held_other
        (λ f. comes) (λ y f is. keeps y is) kind (λ free. not_both free)
        (let costs : cost (waits course.waiting (layer_of frame id) id) ≡ cost (Some x) = ap cost here_waits in omega (arith, turn, costs))

-- nothing waits any more
pub over : (rules : List Rule) (frame : Frame) (trace : Trace) (ok : IsFrame rules frame trace.kinds) (helds : List (List Input)) (cells : List Input) (course : Course) (front steps : ℕ)
    → InCourse rules helds frame trace cells course (NotBefore front (layer_of frame)) steps → first_front ≤ front → ((l i : ℕ) → waits course.waiting l i ≡ None)
    → IsOver rules helds frame trace cells course steps
over rules frame trace ok helds cells course front steps state high none = record {
  nodes = λ j low f. state.turns.consistent j low f (none (layer_of frame j) j);
  holds = λ j x low f is. (subst (λ (y : Wait). Fits (held_of helds cells frame j) (map (outcome_now course.lost cells) (inputs_in frame j)) (to_come y)) (none (layer_of frame j) j) (state.turns.fits j x tt low f is)).1;
  many_cells = state.many_cells;
  many_helds = state.many_helds;
  kinded = state.kinded;
  frees = λ j low free. elim (state.frees j low free) [
    | inl late ↦ absurd (let bottom = ok.shape.lowest j free in let few = ok.shape.few in omega (arith, bottom, few, low, late, high))
    | inr e ↦ e
  ];
  found = state.found;
  changes = state.changes;
  no_changes = state.no_changes;
  no_lost = state.no_lost;
  bound = let p = state.paid in omega (arith, p);
}

-- the same over the same lists
pub same_over : (rules : List Rule) (frame : Frame) (trace : Trace) (helds helds' : List (List Input)) (cells cells' : List Input) (course course' : Course) (steps steps' : ℕ)
    → helds' ≡ helds → cells' ≡ cells → course'.lost ≡ course.lost → course'.changes ≡ course.changes → steps' ≡ steps
    → IsOver rules helds frame trace cells course steps → IsOver rules helds' frame trace cells' course' steps'
same_over rules frame trace helds helds' cells cells' course course' steps steps' eh ec el ed es over =
    subst (λ (h : List (List Input)). IsOver rules h frame trace cells' course' steps') (sym eh)
    (subst (λ (c : List Input). IsOver rules helds frame trace c course' steps') (sym ec)
    (subst (λ (s : ℕ). IsOver rules helds frame trace cells course' s) (sym es) (record {
      nodes = λ j. subst (λ l. j < length frame.inputs.items → (graph_of rules frame).is_free j ≡ false → outcome_now l cells j ≡ computed (graph_of rules frame) (outcome_now l cells) j) (sym el) (over.nodes j);
      holds = λ j x. subst (λ l. j < length frame.inputs.items → (graph_of rules frame).is_free j ≡ false → outcome_now l cells j ≡ Value x → values_of (map (outcome_now l cells) (inputs_in frame j)) ≡ Some (held_of helds cells frame j)) (sym el) (over.holds j x);
      many_cells = over.many_cells;
      many_helds = over.many_helds;
      kinded = over.kinded;
      frees = over.frees;
      found = λ j low free. ap (λ l. get nat_cmp l j) el ∙ over.found j low free;
      changes = λ j low. ap (λ d. get nat_cmp d j) ed ∙ over.changes j low;
      no_changes = λ j high. ap (λ d. get nat_cmp d j) ed ∙ over.no_changes j high;
      no_lost = λ j high. ap (λ l. get nat_cmp l j) el ∙ over.no_lost j high;
      bound = subst (λ l. steps ≤ trace.base + 4 * touch trace.moved (differing l cells trace.before) (inputs_in frame) (uses_in frame) (length frame.inputs.items)) (sym el) over.bound;
    })))

-- the steps before a turn
pub limit_course : (rules : List Rule) (frame : Frame) (trace : Trace) (ok : IsFrame rules frame trace.kinds) (helds : List (List Input)) (cells : List Input) (course : Course) (front steps : ℕ)
    → InCourse rules helds frame trace cells course (NotBefore front (layer_of frame)) steps → first_front ≤ front
    → (o' : ℕ → Outcome) → IsMeaning (graph_of rules frame) trace.target o' → steps ≤ trace.base + 4 * touch trace.moved (λ j. differs (o' j) (trace.before j)) (inputs_in frame) (uses_in frame) (length frame.inputs.items)
limit_course rules frame trace ok helds cells course front steps state high o' meaning =
    limit_now rules frame trace ok helds cells course (NotBefore front (layer_of frame)) steps state front (λ l i h. (state.turns.keyed l i h).3) (λ j lt at f. at)
    (λ i j lt free late lower under. absurd (let bottom = ok.shape.lowest i free in let few = ok.shape.few in omega (arith, bottom, few, lt, late, high))) o' meaning
