-- One id comes to an outcome: what holds between turns holds after it.
use Rattle.std.proofs.Common.{◌≡◌, ◌≢◌, ◌⊎◌, inl, inr, ℕ, pos, ◌+◌, ◌*◌, ◌<◌, ◌≤◌, Bool, true, false, cond, List, [], map, length, All, Option, Some, None, IsSome, refl, sym, ap, ◌∙◌, subst, arith}
use Rattle.std.specs.BTreeMap.{get}
use Rattle.std.specs.Ordering.{nat_cmp}
use Rattle.std.proofs.lemmas.Bool.Decides.{eqb_tells, leb_tells}
use Rattle.std.proofs.lemmas.List.{get_or-set_same, get_or-set_other, length-set}
use Rattle.cbl_base.specs.Inputs.{InputKind, kind_of}
use Rattle.cbl_base.specs.NodeLaw.{Rule}
use Rattle.cbl_base.specs.declared.input.Input.{Input}
use Rattle.cbl_base.specs.declared.input.Input.TheVariants.{Int}
use Rattle.cbl_base.specs.declared.faults.RunFault.{RunFault}
use Rattle.store_turns.specs.declared.frame.Frame.{Frame}
use Rattle.store_turns.specs.declared.outcome.Outcome.{Outcome}
use Rattle.store_turns.specs.declared.outcome.Outcome.TheVariants.{Value, Fails, Missing}
use Rattle.store_turns.specs.Meaning.{Graph, computed, graph_of, inputs_in, layer_of, uses_in, values_of}
use Rattle.store_turns.specs.Waits.{Wait, waits, SameElsewhere}
use Rattle.store_turns.specs.Telling.{positions, places_in, IsTold}
use Rattle.store_turns.specs.Touch.{differs, cost, touched}
use Rattle.store_turns.specs.Turns.{InTurn}
use Rattle.store_turns.proofs.NextTurn.{next_turn, not_in_own, at_position, nonempty}
use Rattle.store_turns.proofs.Told.{told_reached, told_tells, told_leaves}
use Rattle.store_turns.proofs.Budget.{paid_turn, calm_next, Tells}
use Rattle.store_turns.proofs.Differs.{same_value, no_difference}
use Rattle.inc_store.specs.declared.changed.NodeChange.{NodeChange}
use Rattle.inc_store.specs.declared.course.Course.{Course}
use Rattle.store_build.specs.Frames.{cell_of, held_of, IsFrame}
use Rattle.inc_store.specs.Course.{with_outcome, lost_by, change_of, changed_at, changed_from, lost_or, outcome_now, Trace, NotBefore, first_front, differing, InCourse}

pub not_lost : (l : Option (Option RunFault)) (x y : Input) → lost_or l x ≡ Value y → l ≡ None
not_lost None x y e = refl
not_lost (Some (Some f)) x y e = absurd (cc)
not_lost (Some None) x y e = absurd (cc)

pub cell_is : (l : Option (Option RunFault)) (x y : Input) → lost_or l x ≡ Value y → x ≡ y
cell_is None x y e = cc
cell_is (Some (Some f)) x y e = absurd (cc)
cell_is (Some None) x y e = absurd (cc)

pub outcome_is : (outcome : Outcome) (cells : List Input) (id : ℕ) (l : Option (Option RunFault)) → id < length cells → l ≡ lost_by outcome → lost_or l (cell_of (with_outcome cells id outcome) id) ≡ outcome
outcome_is (Value x) cells id l lt e = rw e (ap (λ y. Value y) (get_or-set_same cells id x (Int (pos 0)) lt))
outcome_is (Fails f) cells id l lt e = rw e refl
outcome_is Missing cells id l lt e = rw e refl

pub other_cell : (outcome : Outcome) (cells : List Input) (id j : ℕ) → j ≢ id → cell_of (with_outcome cells id outcome) j ≡ cell_of cells j
other_cell (Value x) cells id j ne = get_or-set_other cells id j x (Int (pos 0)) ne
other_cell (Fails f) cells id j ne = refl
other_cell Missing cells id j ne = refl

pub length-with_outcome : (outcome : Outcome) (cells : List Input) (id : ℕ) → length (with_outcome cells id outcome) ≡ length cells
length-with_outcome (Value x) cells id = length-set cells id x
length-with_outcome (Fails f) cells id = refl
length-with_outcome Missing cells id = refl

off : (b : Bool) (c : NodeChange) → b ≡ false → cond b (Some c) None ≡ None
off b c e = ap (λ d. cond d (Some c) None) e

pub change_is : (outcome : Outcome) (cells : List Input) (id : ℕ) (before : Input) (b : Option NodeChange) → id < length cells → cell_of cells id ≡ before → b ≡ None
    → change_of id outcome (cell_of cells id) b ≡ cond (differs (Value (cell_of (with_outcome cells id outcome) id)) before) (Some (changed_at id before (cell_of (with_outcome cells id outcome) id))) None
change_is (Value x) cells id before b lt same none = rw (get_or-set_same cells id x (Int (pos 0)) lt, same, none) refl
change_is (Fails f) cells id before b lt same none = none ∙ sym (off (differs (Value (cell_of cells id)) before) _ (no_difference (cell_of cells id) before same))
change_is Missing cells id before b lt same none = none ∙ sym (off (differs (Value (cell_of cells id)) before) _ (no_difference (cell_of cells id) before same))

-- a free cell has a value
pub found_by : (outcome : Outcome) (x : Input) → outcome ≡ Value x → lost_by outcome ≡ None
found_by outcome x e = ap lost_by e

pub kind_is : (outcome : Outcome) (cells : List Input) (id : ℕ) (kind : InputKind) → id < length cells → kind_of (cell_of cells id) ≡ kind → ((x : Input) → outcome ≡ Value x → kind_of x ≡ kind) → kind_of (cell_of (with_outcome cells id outcome) id) ≡ kind
kind_is (Value x) cells id kind lt was h = ap kind_of (get_or-set_same cells id x (Int (pos 0)) lt) ∙ h x refl
kind_is (Fails f) cells id kind lt was h = was
kind_is Missing cells id kind lt was h = was

module _ (rules : List Rule) (frame : Frame) (trace : Trace) (ok : IsFrame rules frame trace.kinds) (helds helds' : List (List Input)) (cells cells' : List Input) (course course' : Course)
    (Later After : ℕ → Type 0) (steps steps' : ℕ) (state : InCourse rules helds frame trace cells course Later steps)
    (id : ℕ) (outcome : Outcome) (lt : id < length frame.inputs.items) (now : Later id) (u : ℕ → ℕ → Wait)
    (taken : u (layer_of frame id) id ≡ None) (rest : SameElsewhere u (waits course.waiting) (layer_of frame id) id)
    (later_waiting : (l i : ℕ) → IsSome (u l i) → After i) (later_users : (j : ℕ) → positions id (inputs_in frame j) ≢ [] → After j)
    (still : (j : ℕ) → After j → Later j × (j ≢ id))
    (leaves : (j : ℕ) → j < length frame.inputs.items → (graph_of rules frame).is_free j ≡ true → Later j → j ≢ id → After j)
    (told : IsTold (layer_of frame) (uses_in frame id) (cell_of cells id) outcome u (waits course'.waiting))
    (cells_are : cells' ≡ with_outcome cells id outcome)
    (lost_here : get nat_cmp course'.lost id ≡ lost_by outcome) (lost_other : (j : ℕ) → j ≢ id → get nat_cmp course'.lost j ≡ get nat_cmp course.lost j)
    (change_here : get nat_cmp course'.changes id ≡ change_of id outcome (cell_of cells id) (get nat_cmp course.changes id)) (change_other : (j : ℕ) → j ≢ id → get nat_cmp course'.changes j ≡ get nat_cmp course.changes j)
    (many_helds' : length helds' ≡ length rules) (held_other : (j : ℕ) → j ≢ id → held_of helds' cells' frame j ≡ held_of helds cells frame j)
    -- it came to what is computed, and holds its inputs' values, and its value is of its kind
    (comes : (graph_of rules frame).is_free id ≡ false → outcome ≡ computed (graph_of rules frame) (outcome_now course.lost cells) id)
    (keeps : (x : Input) → (graph_of rules frame).is_free id ≡ false → outcome ≡ Value x → values_of (map (outcome_now course.lost cells) (inputs_in frame id)) ≡ Some (held_of helds' cells' frame id))
    (kind : (x : Input) → outcome ≡ Value x → kind_of x ≡ trace.kinds id)
    (targets : (graph_of rules frame).is_free id ≡ true → outcome ≡ Value (trace.target id))
    (turn : steps' ≤ steps + cost (waits course.waiting (layer_of frame id) id) + 2 * cond (differs outcome (cell_of cells id)) (length (uses_in frame id)) 0) where
  g : Graph
  g = graph_of rules frame

  o : ℕ → Outcome
  o = outcome_now course.lost cells

  p : ℕ → Outcome
  p = outcome_now course'.lost cells'

  in_cells : id < length cells
  in_cells = let many = state.many_cells in omega (arith, lt, many)

  was : o id ≡ Value (cell_of cells id)
  unfolding o
  was = state.turns.beyond id lt now

  p_here : p id ≡ outcome
  unfolding p
  p_here = ap (λ (cs : List Input). lost_or (get nat_cmp course'.lost id) (cell_of cs id)) cells_are ∙ outcome_is outcome cells id (get nat_cmp course'.lost id) in_cells lost_here

  cell_other : (j : ℕ) → j ≢ id → cell_of cells' j ≡ cell_of cells j
  cell_other j ne = ap (λ (cs : List Input). cell_of cs j) cells_are ∙ other_cell outcome cells id j ne

  p_other : (j : ℕ) → j ≢ id → p j ≡ o j
  unfolding p o
  p_other j ne = ap (λ l. lost_or l (cell_of cells' j)) (lost_other j ne) ∙ ap (λ x. lost_or (get nat_cmp course.lost j) x) (cell_other j ne)

  told_p : IsTold (layer_of frame) (uses_in frame id) (cell_of cells id) (p id) u (waits course'.waiting)
  told_p = subst (λ q. IsTold (layer_of frame) (uses_in frame id) (cell_of cells id) q u (waits course'.waiting)) (sym p_here) told

  are : (j : ℕ) → places_in j (uses_in frame id) ≡ positions id (inputs_in frame j)
  are j = ok.shape.uses_are id j lt

  own : positions id (inputs_in frame id) ≡ []
  own = not_in_own (λ i. (i < length frame.inputs.items) × (layer_of frame i < layer_of frame id)) id (inputs_in frame id) (ok.shape.layers id lt) (λ h. absurd (omega (arith, h.1)))

  inside : (j : ℕ) → positions id (inputs_in frame j) ≢ [] → j < length frame.inputs.items
  inside j h = elim (leb_tells (length frame.inputs.items) j) [ inl a ↦ absurd (nonempty id _ h (ok.shape.outside j a.1)) | inr a ↦ a.1 ]

  up : (j : ℕ) → positions id (inputs_in frame j) ≢ [] → NotBefore first_front (layer_of frame) j
  up j h =
      let higher = at_position (λ i. (i < length frame.inputs.items) × (layer_of frame i < layer_of frame j)) id (inputs_in frame j) (ok.shape.layers j (inside j h)) h in
      omega (arith, higher.1)

  target_cell : (graph_of rules frame).is_free id ≡ true → cell_of cells' id ≡ trace.target id
  target_cell free = ap (λ (cs : List Input). cell_of cs id) (cells_are ∙ ap (with_outcome cells id) (targets free)) ∙ get_or-set_same cells id (trace.target id) (Int (pos 0)) in_cells

  turns_next : InTurn (graph_of rules frame) (layer_of frame) (cell_of cells') After (λ _. Unit {0}) (outcome_now course'.lost cells') (held_of helds' cells' frame) (waits course'.waiting)
  unfolding g o p
  turns_next =
      let r = next_turn g (layer_of frame) (uses_in frame) ok.shape (cell_of cells) Later After (λ _. Unit {0}) (λ _. Unit {0}) id o p (held_of helds cells frame) (held_of helds' cells' frame) (waits course.waiting) u (waits course'.waiting)
      state.turns lt now p_other held_other taken rest later_waiting later_users still (λ j h. h)
      (told_reached g (layer_of frame) id (uses_in frame id) are o p (cell_of cells id) was p_other u (waits course'.waiting) told_p (held_of helds cells frame))
      (λ f. p_here ∙ comes f) (λ x _ f e. keeps x f (sym p_here ∙ e)) in
      record {
        keyed = r.keyed;
        consistent = r.consistent;
        fits = r.fits;
        beyond = λ j l a. r.beyond j l a ∙ ap (λ y. Value y) (sym (cell_other j (still j a).1));
        early = r.early;
      }

  -- ---- what it costs
  diff : ℕ → Bool
  diff = differing course.lost cells trace.before

  diff' : ℕ → Bool
  diff' = differing course'.lost cells' trace.before

  was_same : diff id ≡ false
  unfolding diff
  was_same = state.same id lt now

  cell_before : cell_of cells id ≡ trace.before id
  unfolding diff o
  cell_before = same_value (cell_of cells id) (trace.before id) (sym (ap (λ q. differs q (trace.before id)) was) ∙ was_same)

  diff_here : diff' id ≡ differs (p id) (cell_of cells id)
  unfolding diff' p
  diff_here = ap (λ y. differs (p id) y) (sym cell_before)

  diff_other : (j : ℕ) → j ≢ id → diff' j ≡ diff j
  unfolding diff diff' p o
  diff_other j ne = ap (λ q. differs q (trace.before j)) (p_other j ne)

  emptied : waits course'.waiting (layer_of frame id) id ≡ None
  unfolding g
  emptied = told_leaves g (layer_of frame) id (uses_in frame id) are o p (cell_of cells id) was p_other u (waits course'.waiting) told_p own taken

  learned : ((diff' id ≡ false) × ((j : ℕ) → j ≢ id → waits course'.waiting (layer_of frame j) j ≡ waits course.waiting (layer_of frame j) j))
      ⊎ ((diff' id ≡ true) × ((j : ℕ) → j ≢ id → Tells (positions id (inputs_in frame j)) (waits course.waiting (layer_of frame j) j) (waits course'.waiting (layer_of frame j) j)))
  unfolding g
  learned = elim (told_tells g (layer_of frame) id (uses_in frame id) are o p (cell_of cells id) was p_other u (waits course'.waiting) told_p (λ j. waits course.waiting (layer_of frame j) j) (λ j ne. rest (layer_of frame j) j (λ _. ne))) [
    | inl a ↦ inl (diff_here ∙ a.0, a.1)
    | inr b ↦ inr (diff_here ∙ b.0, b.1)
  ]

  users_in : All (λ z. z.0.0 < length frame.inputs.items) (uses_in frame id)
  users_in = subst (λ k. All (λ z. z.0.0 < k) (uses_in frame id)) ok.layers (ok.users id)

  calm_later : (j : ℕ) → j ≢ id → waits course.waiting (layer_of frame j) j ≡ None → positions id (inputs_in frame j) ≢ [] → touched trace.moved diff (inputs_in frame) j ≡ false
  unfolding diff
  calm_later j ne e h = state.calm j (inside j h) (up j h) (still j (later_users j h)).0 e

  pub step : InCourse rules helds' frame trace cells' course' After steps'
  unfolding diff diff'
  step = record {
    turns = turns_next;
    many_cells = ap length cells_are ∙ length-with_outcome outcome cells id ∙ state.many_cells;
    many_helds = many_helds';
    kinded = λ j low. elim (eqb_tells j id) [
      | inl t ↦ subst (λ k. kind_of (cell_of cells' k) ≡ trace.kinds k) (sym t.1) (ap (λ (cs : List Input). kind_of (cell_of cs id)) cells_are ∙ kind_is outcome cells id (trace.kinds id) in_cells (state.kinded id lt) kind)
      | inr f ↦ ap kind_of (cell_other j f.1) ∙ state.kinded j low
    ];
    frees = λ j low free. elim (eqb_tells j id) [
      | inl t ↦ inr (subst (λ k. cell_of cells' k ≡ trace.target k) (sym t.1) (target_cell (subst (λ k. (graph_of rules frame).is_free k ≡ true) t.1 free)))
      | inr f ↦ elim (state.frees j low free) [ inl l ↦ inl (leaves j low free l f.1) | inr e ↦ inr (cell_other j f.1 ∙ e) ]
    ];
    found = λ j low free. elim (eqb_tells j id) [
      | inl t ↦ subst (λ k. get nat_cmp course'.lost k ≡ None) (sym t.1) (lost_here ∙ found_by outcome (trace.target id) (targets (subst (λ k. (graph_of rules frame).is_free k ≡ true) t.1 free)))
      | inr f ↦ lost_other j f.1 ∙ state.found j low free
    ];
    changes = λ j low. elim (eqb_tells j id) [
      | inl t ↦ subst (λ k. get nat_cmp course'.changes k ≡ changed_from trace.before (cell_of cells') k) (sym t.1)
          (change_here ∙ change_is outcome cells id (trace.before id) (get nat_cmp course.changes id) in_cells cell_before
          (state.changes id lt ∙ off (differs (Value (cell_of cells id)) (trace.before id)) _ (no_difference (cell_of cells id) (trace.before id) cell_before))
          ∙ ap (λ (cs : List Input). changed_from trace.before (cell_of cs) id) (sym cells_are))
      | inr f ↦ change_other j f.1 ∙ state.changes j low ∙ ap (λ x. cond (differs (Value x) (trace.before j)) (Some (changed_at j (trace.before j) x)) None) (sym (cell_other j f.1))
    ];
    no_changes = λ j high. change_other j (λ e. absurd (omega (arith, high, lt, e))) ∙ state.no_changes j high;
    no_lost = λ j high. lost_other j (λ e. absurd (omega (arith, high, lt, e))) ∙ state.no_lost j high;
    paid = paid_turn (length frame.inputs.items) id (inputs_in frame) (uses_in frame) trace.moved diff diff' (λ j. waits course.waiting (layer_of frame j) j) (λ j. waits course'.waiting (layer_of frame j) j)
        lt users_in are was_same diff_other emptied learned calm_later trace.base steps steps' state.paid
        (let shared : cond (diff' id) (length (uses_in frame id)) 0 ≡ cond (differs outcome (cell_of cells id)) (length (uses_in frame id)) 0 = ap (λ b. cond b (length (uses_in frame id)) 0) (diff_here ∙ ap (λ q. differs q (cell_of cells id)) p_here) in
        omega (arith, turn, shared));
    same = λ j low late. diff_other j (still j late).1 ∙ state.same j low (still j late).0;
    calm = λ j low high late e. calm_next (length frame.inputs.items) id (inputs_in frame) (uses_in frame) trace.moved diff diff' (λ j. waits course.waiting (layer_of frame j) j) (λ j. waits course'.waiting (layer_of frame j) j)
        lt users_in are was_same diff_other emptied learned calm_later j (still j late).1 e (λ we. state.calm j low high (still j late).0 we);
  }
