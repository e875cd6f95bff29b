-- A trial's move is the move of a commit that is only imagined.
use Rattle.std.proofs.Common.{◌≡◌, ◌≢◌, inl, inr, ℕ, ℤ, ◌+◌, ◌-◌, ◌*◌, ◌<◌, ◌≤◌, Bool, true, false, cond, nat_eq, nat_lt, ◌||◌, List, [], ◌∷◌, length, slice_index_or, Option, Some, None, refl, sym, ap, ◌∙◌, subst, arith}
use Rattle.std.specs.BTreeMap.{get}
use Rattle.std.specs.Ordering.{nat_cmp}
use Rattle.std.proofs.lemmas.Bool.Decides.{eqb_tells, leb_tells}
use Rattle.cbl_base.specs.Inputs.{kind_of}
use Rattle.cbl_base.specs.NodeLaw.{Rule}
use Rattle.cbl_base.specs.declared.ids.VarId.{VarId}
use Rattle.cbl_base.specs.declared.input.Input.{Input}
use Rattle.cbl_base.specs.declared.input.Input.TheVariants.{Int}
use Rattle.store_turns.specs.declared.frame.Frame.{Frame}
use Rattle.store_turns.specs.declared.outcome.Outcome.TheVariants.{Value}
use Rattle.store_turns.specs.Meaning.{graph_of, inputs_in, layer_of, uses_in}
use Rattle.store_turns.specs.Waits.{waits}
use Rattle.store_turns.specs.Telling.{positions, places_in, IsTold}
use Rattle.store_turns.specs.Touch.{differs}
use Rattle.store_turns.proofs.Differs.{same_value}
use Rattle.store_turns.proofs.NextTurn.{nonempty}
use Rattle.store_build.specs.Frames.{cell_of}
use Rattle.store_build.specs.Kept.{IsKept}
use Rattle.inc_store.specs.Course.{with_outcome, lost_by, change_of, NotBefore, first_front}
use Rattle.inc_store.specs.Moves.{AreMoves, LaterThanMoves, moved_to, is_moved, trace_of}
use Rattle.inc_store.specs.Stores.{IsWithin}
use Rattle.inc_store.proofs.CourseStep.{not_lost, other_cell}
use Rattle.inc_store.proofs.MoveSteps.{higher, kind_move, limit_move, move_step, moves_over, started}
use Rattle.inc_store.proofs.NodeLists.{values_all}
use Rattle.trial.specs.declared.overlay.Overlay.{Overlay}
use Rattle.trial.specs.Overlays.{IsEmpty, noted, root_by}
use Rattle.trial.specs.Course.{Asked, InProbe, course_of}
use Rattle.trial.proofs.Roots.{still_roots}

module _ (rules : List Rule) (nodes : List (List Input)) (frame : Frame) (cells : List Input) (kept : IsKept rules nodes frame cells) (ask : Asked) (v : Overlay) (steps : ℕ)
    (m : VarId × ℤ) (ms : List (VarId × ℤ)) (are : AreMoves (graph_of rules frame) (m ∷ ms)) (state : InProbe rules frame cells ask v (LaterThanMoves frame (m ∷ ms)) steps) where
  later : LaterThanMoves frame (m ∷ ms) m.0.index
  later = inr (elim (eqb_tells m.0.index m.0.index) [ inl t ↦ ap (λ b. b || is_moved ms m.0.index) t.0 | inr f ↦ absurd (f.1 refl) ])

  own_cell : cell_of state.imagined m.0.index ≡ cell_of cells m.0.index
  own_cell = same_value (cell_of state.imagined m.0.index) (cell_of cells m.0.index) (sym (ap (λ q. differs q (cell_of cells m.0.index)) (state.course.turns.beyond m.0.index are.0 later)) ∙ state.course.same m.0.index are.0 later)

  pub inside : m.0.index < length frame.inputs.items
  inside = are.0

  pub kind_asked_move : (x : Input) → Value (Int m.1) ≡ Value x → kind_of x ≡ kind_of (cell_of cells m.0.index)
  kind_asked_move x e =
      kind_move rules frame (trace_of cells ask.moves ask.base) kept.framed state.helds state.imagined state.imagined (course_of v) (course_of v) steps steps m ms are state.course x e ∙ ap kind_of own_cell

  pub unlost_asked : get nat_cmp v.lost m.0.index ≡ None
  unlost_asked = state.course.found m.0.index are.0 are.1

  pub limit_one : moved_to ask.moves (cell_of cells) m.0.index ≡ Int m.1 → (end : ℕ)
      → end ≤ steps + 2 * cond (differs (Value (Int m.1)) (cell_of cells m.0.index)) (length (uses_in frame m.0.index)) 0
      → IsWithin (graph_of rules frame) (cell_of cells) (moved_to ask.moves (cell_of cells)) (is_moved ask.moves) (uses_in frame) ask.base end
  limit_one target end move = λ o meaning.
      limit_move rules frame (trace_of cells ask.moves ask.base) kept.framed state.helds state.imagined state.imagined (course_of v) (course_of v) steps steps m ms are state.course target o meaning end
      (let same : cond (differs (Value (Int m.1)) (cell_of state.imagined m.0.index)) (length (uses_in frame m.0.index)) 0 ≡ cond (differs (Value (Int m.1)) (cell_of cells m.0.index)) (length (uses_in frame m.0.index)) 0 = ap (λ c. cond (differs (Value (Int m.1)) c) (length (uses_in frame m.0.index)) 0) own_cell in
      omega (arith, move, same))

  not_self : (j : ℕ) → (graph_of rules frame).is_free j ≡ false → j ≢ m.0.index
  not_self j f e = never (sym (subst (λ k. (graph_of rules frame).is_free k ≡ true) (sym e) are.1) ∙ f)
    where
      never : true ≡ false → ⊥
      never e = cc

  before : (j : ℕ) → LaterThanMoves frame ms j → LaterThanMoves frame (m ∷ ms) j
  before j late = elim late [ inl hi ↦ inl hi | inr mv ↦ inr (ap (λ b. nat_eq m.0.index j || b) mv ∙ or_right (nat_eq m.0.index j)) ]
    where
      or_right : (b : Bool) → (b || true) ≡ true
      or_right true = refl
      or_right false = refl

  user_high : (j : ℕ) → positions m.0.index (inputs_in frame j) ≢ [] → (j < length frame.inputs.items) × NotBefore first_front (layer_of frame) j
  user_high j h =
      let inside : j < length frame.inputs.items = elim (leb_tells (length frame.inputs.items) j) [ inl a ↦ absurd (nonempty m.0.index _ h (kept.framed.shape.outside j a.1)) | inr a ↦ a.1 ] in
      (inside, higher rules frame (λ i. kind_of (cell_of cells i)) kept.framed j (nonempty m.0.index _ h) inside)

  pub one_move : (v' : Overlay) (steps' : ℕ) → moved_to ask.moves (cell_of cells) m.0.index ≡ Int m.1
      → IsTold (layer_of frame) (uses_in frame m.0.index) (cell_of cells m.0.index) (Value (Int m.1)) (waits v.waiting) (waits v'.waiting)
      → get nat_cmp v'.lost m.0.index ≡ lost_by (Value (Int m.1)) → ((j : ℕ) → j ≢ m.0.index → get nat_cmp v'.lost j ≡ get nat_cmp v.lost j)
      → get nat_cmp v'.changes m.0.index ≡ change_of m.0.index (Value (Int m.1)) (cell_of cells m.0.index) (get nat_cmp v.changes m.0.index) → ((j : ℕ) → j ≢ m.0.index → get nat_cmp v'.changes j ≡ get nat_cmp v.changes j)
      → ((j : ℕ) → get nat_cmp v'.roots j ≡ noted (places_in j (uses_in frame m.0.index)) None (get nat_cmp v.roots j))
      → steps' ≤ steps + 2 * cond (differs (Value (Int m.1)) (cell_of cells m.0.index)) (length (uses_in frame m.0.index)) 0
      → InProbe rules frame cells ask v' (LaterThanMoves frame ms) steps'
  one_move v' steps' target told lost_here lost_other change_here change_other notes move = record {
    imagined = with_outcome state.imagined m.0.index (Value (Int m.1));
    helds = state.helds;
    course = move_step rules frame (trace_of cells ask.moves ask.base) kept.framed state.helds state.imagined (with_outcome state.imagined m.0.index (Value (Int m.1))) (course_of v) (course_of v') steps steps' m ms are state.course target
        (subst (λ c. IsTold (layer_of frame) (uses_in frame m.0.index) c (Value (Int m.1)) (waits v.waiting) (waits v'.waiting)) (sym own_cell) told) refl lost_here lost_other
        (subst (λ c. get nat_cmp v'.changes m.0.index ≡ change_of m.0.index (Value (Int m.1)) c (get nat_cmp v.changes m.0.index)) (sym own_cell) change_here) change_other
        (let same : cond (differs (Value (Int m.1)) (cell_of state.imagined m.0.index)) (length (uses_in frame m.0.index)) 0 ≡ cond (differs (Value (Int m.1)) (cell_of cells m.0.index)) (length (uses_in frame m.0.index)) 0 = ap (λ c. cond (differs (Value (Int m.1)) c) (length (uses_in frame m.0.index)) 0) own_cell in
        omega (arith, move, same));
    held = λ j lt f late.
        ap (λ (c : Input). cond (nat_lt j frame.first) (c ∷ []) (slice_index_or state.helds (j - frame.first) [])) (other_cell (Value (Int m.1)) state.imagined m.0.index j (not_self j f))
        ∙ state.held j lt f (before j late);
    roots = still_roots frame v.lost v'.lost v.roots v'.roots state.roots m.0.index (uses_in frame m.0.index) None lost_other unlost_asked
        (sym (ap (λ q. root_by m.0.index q (get nat_cmp v.roots m.0.index)) lost_here)) notes (λ j. kept.framed.shape.uses_are m.0.index j are.0)
        (ap (positions m.0.index) (kept.framed.shape.bound m.0.index are.1))
        (λ j h. let a = user_high j h in not_lost (get nat_cmp v.lost j) (cell_of state.imagined j) (cell_of state.imagined j) (state.course.turns.beyond j a.0 (inl a.1)));
  }

-- ---- the start and the end of the moves
pub moves_done : (rules : List Rule) (frame : Frame) (cells : List Input) (ask : Asked) (v : Overlay) (steps steps' : ℕ) → steps' ≤ steps
    → InProbe rules frame cells ask v (LaterThanMoves frame []) steps → InProbe rules frame cells ask v (NotBefore first_front (layer_of frame)) steps'
moves_done rules frame cells ask v steps steps' le state = record {
  imagined = state.imagined;
  helds = state.helds;
  course = moves_over rules frame (trace_of cells ask.moves ask.base) state.helds state.imagined (course_of v) steps steps' le state.course;
  held = λ j lt f late. state.held j lt f (inl late);
  roots = state.roots;
}

first_of : (rules : List Rule) (nodes : List (List Input)) (frame : Frame) (cells : List Input) → IsKept rules nodes frame cells → (ask : Asked) (v : Overlay) → AreMoves (graph_of rules frame) ask.moves → 0 < length ask.moves → IsEmpty v
    → InProbe rules frame cells ask v (LaterThanMoves frame ask.moves) (ask.base + 2 * length ask.moves + 4)
first_of rules nodes frame cells kept ask v are some empty = record {
  imagined = cells;
  helds = nodes;
  course = started rules nodes frame cells kept ask.moves (course_of v) ask.base 4 (omega arith) are some empty.0 empty.1 empty.2;
  held = λ j lt f _. some_is (sym (kept.holds j lt f) ∙ values_all (cell_of cells) (inputs_in frame j));
  roots = record {
    among = λ j r e. none_some (get nat_cmp v.roots j) r (empty.3 j) e;
    least = λ j i r _ e. none_some None r refl (sym (ap (λ l. root_by i l (get nat_cmp v.roots i)) (empty.1 i)) ∙ e);
  };
}
  where
    some_is : {xs ys : List Input} → Some xs ≡ Some ys → xs ≡ ys
    some_is e = cc

    none_some : {A P : Type 0} (o : Option A) (x : A) → o ≡ None → o ≡ Some x → P
    none_some o x n s = absurd (never (sym n ∙ s))
      where
        never : {A : Type 0} {x : A} → None ≡ Some x → ⊥
        never e = cc

pub first_state : (rules : List Rule) (nodes : List (List Input)) (frame : Frame) (cells : List Input) → IsKept rules nodes frame cells → (ask : Asked) (v : Overlay) (ms : List (VarId × ℤ)) (base : ℕ) → ask.moves ≡ ms → ask.base ≡ base
    → AreMoves (graph_of rules frame) ms → 0 < length ms → IsEmpty v → InProbe rules frame cells ask v (LaterThanMoves frame ms) (base + 2 * length ms + 4)
first_state rules nodes frame cells kept ask v ms base em eb are some empty =
    subst (λ (k : List (VarId × ℤ)). InProbe rules frame cells ask v (LaterThanMoves frame k) (base + 2 * length k + 4)) em
    (subst (λ b. InProbe rules frame cells ask v (LaterThanMoves frame ask.moves) (b + 2 * length ask.moves + 4)) eb
    (first_of rules nodes frame cells kept ask v (subst (λ (k : List (VarId × ℤ)). AreMoves (graph_of rules frame) k) (sym em) are) (subst (λ (k : List (VarId × ℤ)). 0 < length k) (sym em) some) empty))
