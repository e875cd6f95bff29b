-- A trial's turn is the turn of a commit that is only imagined.
use Rattle.std.proofs.Common.{◌≡◌, ◌≢◌, ◌⊎◌, inl, inr, ℕ, ◌+◌, ◌-◌, ◌*◌, ◌<◌, ◌≤◌, Bool, true, false, cond, nat_lt, ◌&&◌, List, [], ◌∷◌, map, length, slice_get, slice_index_or, Option, Some, None, IsSome, refl, sym, ap, ◌∙◌, subst, arith}
use Rattle.std.specs.BTreeMap.{get}
use Rattle.std.specs.Ordering.{nat_cmp}
use Rattle.std.proofs.lemmas.Bool.Decides.{leb_tells, nat_tests}
use Rattle.cbl_base.specs.Inputs.{kind_of}
use Rattle.cbl_base.specs.NodeLaw.{Rule}
use Rattle.cbl_base.specs.Changes.{AreChanges, after_changes}
use Rattle.cbl_base.specs.declared.input.Input.{Input}
use Rattle.cbl_base.specs.declared.input.Change.{Change}
use Rattle.cbl_base.specs.declared.faults.RunFault.{RunFault}
use Rattle.store_turns.specs.declared.frame.Frame.{Frame}
use Rattle.store_turns.specs.declared.outcome.Outcome.{Outcome}
use Rattle.store_turns.specs.declared.outcome.Outcome.TheVariants.{Value}
use Rattle.store_turns.specs.Meaning.{come_to, outcome_of, rule_value, the_one, is_empty, graph_of, inputs_in, layer_of, uses_in, values_of}
use Rattle.store_turns.specs.Waits.{Wait, waits, SameElsewhere}
use Rattle.store_turns.specs.Telling.{positions, places_in, IsTold}
use Rattle.store_turns.specs.Touch.{differs, cost}
use Rattle.store_turns.specs.Turns.{rank}
use Rattle.store_turns.proofs.Differs.{same_value}
use Rattle.store_turns.proofs.NextTurn.{at_position, not_in_own, nonempty}
use Rattle.store_build.specs.Frames.{cell_of}
use Rattle.store_build.specs.Kept.{IsKept}
use Rattle.inc_store.specs.declared.changed.NodeChange.{NodeChange}
use Rattle.inc_store.specs.Course.{with_outcome, lost_by, change_of, changed_at, turn_outcome, helds_after, NotBefore, first_front}
use Rattle.inc_store.specs.Moves.{moved_to, is_moved, trace_of}
use Rattle.inc_store.specs.Stores.{IsWithin}
use Rattle.inc_store.proofs.CourseStep.{not_lost}
use Rattle.inc_store.proofs.CourseTurn.{keyed, not_free, changes_here, one_here, kind, held_other, turn_step, limit_before, limit_after, limit_course}
use Rattle.trial.specs.declared.overlay.Overlay.{Overlay}
use Rattle.trial.specs.Overlays.{new_or, root_by, noted, asked}
use Rattle.trial.specs.Course.{Asked, InProbe, course_of}
use Rattle.trial.proofs.Roots.{still_roots}

pub not_below : (a b : ℕ) → nat_lt a b ≡ false → b ≤ a
not_below a b e = grind (arith, nat_tests)

pub is_below : (a b : ℕ) → nat_lt a b ≡ true → a < b
is_below a b e = grind (arith, nat_tests)

pub below_true : (a b : ℕ) → a < b → nat_lt a b ≡ true
below_true a b lt = grind (arith, nat_tests)

-- the new value is the imagined one
pub newest_by : (b : Bool) (n : ℕ) (x y : Input) → differs (Value y) x ≡ b → new_or (cond b (Some (changed_at n x y)) None) x ≡ y
newest_by true n x y e = refl
newest_by false n x y e = sym (same_value y x e)

pub newest_is : (c : Option NodeChange) (n : ℕ) (x y : Input) → c ≡ cond (differs (Value y) x) (Some (changed_at n x y)) None → new_or c x ≡ y
newest_is c n x y e = ap (λ d. new_or d x) e ∙ newest_by (differs (Value y) x) n x y refl

not_empty : (is : List ℕ) → is ≢ [] → is_empty is ≡ false
not_empty [] h = absurd (h refl)
not_empty (i ∷ is) h = refl

-- a defined variable has the value of the one id in its list
defined_same : (rules : List Rule) (helds : List (List Input)) (frame : Frame) (cells : List Input) → IsKept rules helds frame cells → (id i : ℕ) → id < length frame.inputs.items → nat_lt id frame.first ≡ true → inputs_in frame id ≡ i ∷ []
    → cell_of cells id ≡ cell_of cells i
defined_same rules helds frame cells kept id i lt cell one =
    value_is _ _ (kept.fresh.nodes id lt bound
    ∙ ap (λ is. come_to ((graph_of rules frame).op id) (values_of (map (λ j. Value (cell_of cells j)) is))) one
    ∙ ap (λ b. outcome_of (cond b (the_one (cell_of cells i ∷ [])) (rule_value (slice_get rules (id - frame.first)) (cell_of cells i ∷ [])))) cell)
  where
    value_is : (a b : Input) → Value a ≡ Value b → a ≡ b
    value_is a b e = cc

    bound : (graph_of rules frame).is_free id ≡ false
    bound = ap (λ is. nat_lt id frame.first && is_empty is) one ∙ no_both (nat_lt id frame.first)
      where
        no_both : (b : Bool) → (b && false) ≡ false
        no_both true = refl
        no_both false = refl

module _ (rules : List Rule) (nodes : List (List Input)) (frame : Frame) (cells : List Input) (kept : IsKept rules nodes frame cells) (ask : Asked) (v : Overlay) (front steps : ℕ)
    (state : InProbe rules frame cells ask v (NotBefore front (layer_of frame)) steps) (high : first_front ≤ front)
    (l id : ℕ) (x : Option (List Change)) (u : ℕ → ℕ → Wait)
    (first_in : waits v.waiting l id ≡ Some x)
    (least : (k i : ℕ) → IsSome (waits v.waiting k i) → (l < k) ⊎ ((l ≡ k) × (id ≤ i)))
    (taken : u l id ≡ None) (rest : SameElsewhere u (waits v.waiting) l id) where
  pub key : (l ≡ layer_of frame id) × (id < length frame.inputs.items) × (inputs_in frame id ≢ []) × (front ≤ rank (layer_of frame) id)
  key = keyed rules frame (trace_of cells ask.moves ask.base) kept.framed state.helds state.imagined (course_of v) front steps state.course high l id x u first_in least taken rest

  bound : (graph_of rules frame).is_free id ≡ false
  bound = not_free rules frame (trace_of cells ask.moves ask.base) kept.framed state.helds state.imagined (course_of v) front steps state.course high l id x u first_in least taken rest

  pub unlost : get nat_cmp v.lost id ≡ None
  unlost = not_lost (get nat_cmp v.lost id) (cell_of state.imagined id) (cell_of state.imagined id) (state.course.turns.beyond id key.1 key.3)

  own_cell : cell_of state.imagined id ≡ cell_of cells id
  own_cell = same_value (cell_of state.imagined id) (cell_of cells id) (sym (ap (λ q. differs q (cell_of cells id)) (state.course.turns.beyond id key.1 key.3)) ∙ state.course.same id key.1 key.3)

  held_here : nat_lt id frame.first ≡ false → slice_index_or state.helds (id - frame.first) [] ≡ map (cell_of cells) (inputs_in frame id)
  held_here past = sym (ap (λ b. cond b (cell_of state.imagined id ∷ []) (slice_index_or state.helds (id - frame.first) [])) past) ∙ state.held id key.1 bound key.3

  pub changes_asked : nat_lt id frame.first ≡ false → (cs : List Change) → x ≡ Some cs → AreChanges (map (cell_of cells) (inputs_in frame id)) cs
  changes_asked past cs e =
      subst (λ (h : List Input). AreChanges h cs) (held_here past)
      (changes_here rules frame (trace_of cells ask.moves ask.base) kept.framed state.helds state.imagined (course_of v) front steps state.course high l id x u first_in least taken rest past cs e)

  pub one_asked : nat_lt id frame.first ≡ true → (i : ℕ) × (inputs_in frame id ≡ i ∷ [])
  one_asked cell =
      let one = one_here rules frame (trace_of cells ask.moves ask.base) kept.framed state.helds state.imagined (course_of v) front steps state.course high l id x u first_in least taken rest cell in
      (one.0, one.1)

  -- what is asked of the store is what the imagined turn comes to
  asked_cell : (cs : List Change) → nat_lt id frame.first ≡ true → asked rules frame cells v id (Some cs) ≡ turn_outcome rules state.helds frame state.imagined id (Some cs)
  asked_cell cs cell =
      let one = one_here rules frame (trace_of cells ask.moves ask.base) kept.framed state.helds state.imagined (course_of v) front steps state.course high l id x u first_in least taken rest cell in
      let input : slice_index_or (inputs_in frame id) 0 0 ≡ one.0 = ap (λ is. slice_index_or is 0 0) one.1 in
      let new : new_or (get nat_cmp v.changes one.0) (cell_of cells one.0) ≡ cell_of state.imagined one.0 = newest_is (get nat_cmp v.changes one.0) one.0 (cell_of cells one.0) (cell_of state.imagined one.0) (state.course.changes one.0 one.2) in
      let told : new_or (get nat_cmp v.changes (slice_index_or (inputs_in frame id) 0 0)) (cell_of cells id) ≡ cell_of state.imagined (slice_index_or (inputs_in frame id) 0 0) =
      ap (λ i. new_or (get nat_cmp v.changes i) (cell_of cells id)) input ∙ ap (new_or (get nat_cmp v.changes one.0)) (defined_same rules nodes frame cells kept id one.0 key.1 cell one.1) ∙ new ∙ sym (ap (cell_of state.imagined) input) in
      ap (λ b. cond b (Value (new_or (get nat_cmp v.changes (slice_index_or (inputs_in frame id) 0 0)) (cell_of cells id))) (outcome_of (rule_value (slice_get rules (id - frame.first)) (after_changes (map (cell_of cells) (inputs_in frame id)) cs)))) cell
      ∙ ap (λ (y : Input). Value y) told
      ∙ sym (ap (λ b. cond b (Value (cell_of state.imagined (slice_index_or (inputs_in frame id) 0 0))) (outcome_of (rule_value (slice_get rules (id - frame.first)) (after_changes (slice_index_or state.helds (id - frame.first) []) cs)))) cell)

  asked_node : (cs : List Change) → nat_lt id frame.first ≡ false → asked rules frame cells v id (Some cs) ≡ turn_outcome rules state.helds frame state.imagined id (Some cs)
  asked_node cs past =
      ap (λ b. cond b (Value (new_or (get nat_cmp v.changes (slice_index_or (inputs_in frame id) 0 0)) (cell_of cells id))) (outcome_of (rule_value (slice_get rules (id - frame.first)) (after_changes (map (cell_of cells) (inputs_in frame id)) cs)))) past
      ∙ ap (λ (h : List Input). outcome_of (rule_value (slice_get rules (id - frame.first)) (after_changes h cs))) (sym (held_here past))
      ∙ sym (ap (λ b. cond b (Value (cell_of state.imagined (slice_index_or (inputs_in frame id) 0 0))) (outcome_of (rule_value (slice_get rules (id - frame.first)) (after_changes (slice_index_or state.helds (id - frame.first) []) cs)))) past)

  asked_is : asked rules frame cells v id x ≡ turn_outcome rules state.helds frame state.imagined id x
  asked_is = by x
    where
      by_place : (cs : List Change) (b : Bool) → nat_lt id frame.first ≡ b → asked rules frame cells v id (Some cs) ≡ turn_outcome rules state.helds frame state.imagined id (Some cs)
      by_place cs true e = asked_cell cs e
      by_place cs false e = asked_node cs e

      by : (y : Option (List Change)) → asked rules frame cells v id y ≡ turn_outcome rules state.helds frame state.imagined id y
      by None = refl
      by (Some cs) = by_place cs (nat_lt id frame.first) refl

  lower_users : (j : ℕ) → positions id (inputs_in frame j) ≢ [] → (j < length frame.inputs.items) × (NotBefore front (layer_of frame) j)
  lower_users j h =
      let inside : j < length frame.inputs.items = elim (leb_tells (length frame.inputs.items) j) [ inl a ↦ absurd (nonempty id _ h (kept.framed.shape.outside j a.1)) | inr a ↦ a.1 ] in
      let up = at_position (λ i. (i < length frame.inputs.items) × (layer_of frame i < layer_of frame j)) id (inputs_in frame j) (kept.framed.shape.layers j inside) h in
      let few = kept.framed.shape.few in
      let here = key.3 in
      (inside, omega (arith, up.0, up.1, few, here))

  module _ (outcome : Outcome) (came : outcome ≡ asked rules frame cells v id x) where
    pub kind_asked : (y : Input) → outcome ≡ Value y → kind_of y ≡ kind_of (cell_of cells id)
    kind_asked y is =
        kind rules frame (trace_of cells ask.moves ask.base) kept.framed state.helds state.imagined (course_of v) front steps state.course high l id x u first_in least taken rest
        outcome (helds_after frame id x state.helds) (with_outcome state.imagined id outcome) (course_of v) steps (came ∙ asked_is) refl refl y is

    pub limit_asked : (end : ℕ) → end ≤ steps + cost (Some x) + 2 * cond (differs outcome (cell_of cells id)) (length (uses_in frame id)) 0
        → IsWithin (graph_of rules frame) (cell_of cells) (moved_to ask.moves (cell_of cells)) (is_moved ask.moves) (uses_in frame) ask.base end
    limit_asked end turn = λ o meaning.
        limit_after rules frame (trace_of cells ask.moves ask.base) kept.framed state.helds state.imagined (course_of v) front steps state.course high l id x u first_in least taken rest
        outcome (helds_after frame id x state.helds) (with_outcome state.imagined id outcome) (course_of v) steps (came ∙ asked_is) refl refl o meaning end
        (let same : cond (differs outcome (cell_of state.imagined id)) (length (uses_in frame id)) 0 ≡ cond (differs outcome (cell_of cells id)) (length (uses_in frame id)) 0 = ap (λ c. cond (differs outcome c) (length (uses_in frame id)) 0) own_cell in
        omega (arith, turn, same))

    pub next : (root : Option (ℕ × RunFault)) (v' : Overlay) (steps' : ℕ)
        → root ≡ root_by id (lost_by outcome) (get nat_cmp v.roots id)
        → IsTold (layer_of frame) (uses_in frame id) (cell_of cells id) outcome u (waits v'.waiting)
        → get nat_cmp v'.lost id ≡ lost_by outcome → ((j : ℕ) → j ≢ id → get nat_cmp v'.lost j ≡ get nat_cmp v.lost j)
        → get nat_cmp v'.changes id ≡ change_of id outcome (cell_of cells id) (get nat_cmp v.changes id) → ((j : ℕ) → j ≢ id → get nat_cmp v'.changes j ≡ get nat_cmp v.changes j)
        → ((j : ℕ) → get nat_cmp v'.roots j ≡ noted (places_in j (uses_in frame id)) root (get nat_cmp v.roots j))
        → steps' ≤ steps + cost (Some x) + 2 * cond (differs outcome (cell_of cells id)) (length (uses_in frame id)) 0
        → InProbe rules frame cells ask v' (NotBefore (rank (layer_of frame) id + 1) (layer_of frame)) steps'
    next root v' steps' root_is told lost_here lost_other change_here change_other notes turn = record {
      imagined = with_outcome state.imagined id outcome;
      helds = helds_after frame id x state.helds;
      course = turn_step rules frame (trace_of cells ask.moves ask.base) kept.framed state.helds state.imagined (course_of v) front steps state.course high l id x u first_in least taken rest
          outcome (helds_after frame id x state.helds) (with_outcome state.imagined id outcome) (course_of v') steps' (came ∙ asked_is) refl refl
          (subst (λ c. IsTold (layer_of frame) (uses_in frame id) c outcome u (waits v'.waiting)) (sym own_cell) told) lost_here lost_other
          (subst (λ c. get nat_cmp v'.changes id ≡ change_of id outcome c (get nat_cmp v.changes id)) (sym own_cell) change_here) change_other
          (let same : cond (differs outcome (cell_of state.imagined id)) (length (uses_in frame id)) 0 ≡ cond (differs outcome (cell_of cells id)) (length (uses_in frame id)) 0 = ap (λ c. cond (differs outcome c) (length (uses_in frame id)) 0) own_cell in
          omega (arith, turn, same));
      held = λ j lt f late.
          held_other rules frame (trace_of cells ask.moves ask.base) kept.framed state.helds state.imagined (course_of v) front steps state.course high l id x u first_in least taken rest
          outcome (helds_after frame id x state.helds) (with_outcome state.imagined id outcome) (course_of v') steps' (came ∙ asked_is) refl refl j (λ e. itself j e late)
          ∙ state.held j lt f (let a = key.3 in omega (arith, a, late));
      roots = still_roots frame v.lost v'.lost v.roots v'.roots state.roots id (uses_in frame id) root lost_other unlost
          (root_is ∙ ap (λ q. root_by id q (get nat_cmp v.roots id)) (sym lost_here)) notes (λ j. kept.framed.shape.uses_are id j key.1)
          (not_in_own (λ i. (i < length frame.inputs.items) × (layer_of frame i < layer_of frame id)) id (inputs_in frame id) (kept.framed.shape.layers id key.1) (λ h. absurd (omega (arith, h.1))))
          (λ j h. let a = lower_users j h in not_lost (get nat_cmp v.lost j) (cell_of state.imagined j) (cell_of state.imagined j) (state.course.turns.beyond j a.0 a.1));
    }
      where
        itself : (j : ℕ) → j ≡ id → NotBefore (rank (layer_of frame) id + 1) (layer_of frame) j → ⊥
        itself j e late = absurd (let b : rank (layer_of frame) id + 1 ≤ rank (layer_of frame) id = subst (λ k. rank (layer_of frame) id + 1 ≤ rank (layer_of frame) k) e late in omega (arith, b))

  pub limit_popped : (end : ℕ) → end ≤ steps + cost (Some x) → IsWithin (graph_of rules frame) (cell_of cells) (moved_to ask.moves (cell_of cells)) (is_moved ask.moves) (uses_in frame) ask.base end
  limit_popped end le = λ o meaning.
      let a = limit_before rules frame (trace_of cells ask.moves ask.base) kept.framed state.helds state.imagined (course_of v) front steps state.course high l id x u first_in least taken rest o meaning in
      omega (arith, a, le)

  -- past the target, so nothing waits up to there
  pub past_all : (last : ℕ) → last < l * 4294967296 + id → (j : ℕ) → j < length frame.inputs.items → rank (layer_of frame) j ≤ last → waits v.waiting (layer_of frame j) j ≡ None
  past_all last past j lt low = by (waits v.waiting (layer_of frame j) j) refl
    where
      late : IsSome (waits v.waiting (layer_of frame j) j) → ⊥
      late h =
          let here = key in
          let few = kept.framed.shape.few in
          elim (least (layer_of frame j) j h) [
            | inl lower ↦ absurd (omega (arith, lower, past, low, lt, few, here.1))
            | inr same ↦ absurd (omega (arith, same.0, same.1, past, low))
          ]

      by : (w : Wait) → waits v.waiting (layer_of frame j) j ≡ w → w ≡ None
      by None e = refl
      by (Some y) e = absurd (late (subst (λ (z : Wait). IsSome z) (sym e) refl))

pub limit_state : (rules : List Rule) (nodes : List (List Input)) (frame : Frame) (cells : List Input) (kept : IsKept rules nodes frame cells) (ask : Asked) (v : Overlay) (front steps : ℕ)
    → InProbe rules frame cells ask v (NotBefore front (layer_of frame)) steps → first_front ≤ front → (end : ℕ) → end ≤ steps
    → IsWithin (graph_of rules frame) (cell_of cells) (moved_to ask.moves (cell_of cells)) (is_moved ask.moves) (uses_in frame) ask.base end
limit_state rules nodes frame cells kept ask v front steps state high end le = λ o meaning.
    let a = limit_course rules frame (trace_of cells ask.moves ask.base) kept.framed state.helds state.imagined (course_of v) front steps state.course high o meaning in
    omega (arith, a, le)
