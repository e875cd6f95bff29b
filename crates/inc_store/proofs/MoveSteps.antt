-- The moves of a commit.
use Rattle.std.proofs.Common.{◌≡◌, ◌≢◌, ◌⊎◌, inl, inr, ℕ, ℤ, zero, suc, ◌+◌, ◌-◌, ◌*◌, ◌<◌, ◌≤◌, Bool, true, false, cond, nat_eq, nat_lt, ◌||◌, List, [], ◌∷◌, map, length, drop, get_or, slice_index_or, Some, None, refl, sym, ap, ◌∙◌, subst, arith}
use Rattle.std.specs.BTreeMap.{get}
use Rattle.std.specs.Ordering.{nat_cmp}
use Rattle.std.specs.List.{list_any}
use Rattle.std.proofs.lemmas.Bool.Decides.{eqb_tells, leb_tells}
use Rattle.cbl_base.specs.Inputs.{InputKind, number_kind, kind_of}
use Rattle.cbl_base.specs.NodeLaw.{Rule}
use Rattle.cbl_base.specs.declared.ids.VarId.{VarId}
use Rattle.cbl_base.specs.declared.input.Input.{Input}
use Rattle.cbl_base.specs.declared.input.Input.TheVariants.{Int}
use Rattle.cbl_base.specs.declared.input.Change.{Change}
use Rattle.store_turns.specs.declared.frame.Frame.{Frame}
use Rattle.store_turns.specs.declared.outcome.Outcome.{Outcome}
use Rattle.store_turns.specs.declared.outcome.Outcome.TheVariants.{Value}
use Rattle.store_turns.specs.Meaning.{Graph, Each, IsMeaning, graph_of, inputs_in, layer_of, uses_in, come_to, values_of}
use Rattle.store_turns.specs.Waits.{waits}
use Rattle.store_turns.specs.Telling.{positions, to_come, NoneAtAny, IsTold}
use Rattle.store_turns.specs.Touch.{differs, sum_below, bit, cost, touch, touched}
use Rattle.store_turns.proofs.NextTurn.{none_or_some, not_some, nonempty}
use Rattle.store_turns.proofs.Differs.{no_difference, same_value}
use Rattle.store_turns.proofs.Budget.{sum_le, sum_add, sum_one, sum_none}
use Rattle.inc_store.specs.declared.course.Course.{Course}
use Rattle.store_build.specs.Frames.{cell_of, IsFrame}
use Rattle.inc_store.specs.Course.{with_outcome, lost_by, change_of, changed_at, outcome_now, lost_or, Trace, NotBefore, first_front, differing, InCourse}
use Rattle.inc_store.specs.Moves.{is_moved, moved_to, AreMoves, LaterThanMoves, trace_of}
use Rattle.store_build.specs.Kept.{IsKept}
use Rattle.inc_store.proofs.Limits.{limit_turn}
use Rattle.inc_store.proofs.CourseStep.{step, other_cell}

-- ---- lists of moves
drop_next : {A : Type 0} (xs : List A) (i : ℕ) (d : A) → i < length xs → drop i xs ≡ get_or xs i d ∷ drop (suc i) xs
drop_next [] i d lt = absurd (omega arith)
drop_next (x ∷ xs) zero d lt = refl
drop_next (x ∷ xs) (suc i) d lt = drop_next xs i d (omega arith)

pub drop_at : {A : Type 0} (xs : List A) (i : ℕ) (d : A) → i < length xs → drop i xs ≡ get_or xs i d ∷ drop (i + 1) xs
drop_at xs i d lt =
    let e : suc i ≡ i + 1 = omega arith in
    drop_next xs i d lt ∙ ap (λ k. get_or xs i d ∷ drop k xs) e

pub drop_all : {A : Type 0} (xs : List A) (i : ℕ) → length xs ≤ i → drop i xs ≡ []
drop_all [] zero le = refl
drop_all [] (suc i) le = refl
drop_all (x ∷ xs) zero le = absurd (omega (arith, le))
drop_all (x ∷ xs) (suc i) le = drop_all xs i (omega (arith, le))

pub moves_left : (g : Graph) (ms : List (VarId × ℤ)) (i : ℕ) → AreMoves g ms → AreMoves g (drop i ms)
moves_left g ms zero are = are
moves_left g [] (suc i) are = are
moves_left g (m ∷ ms) (suc i) are = moves_left g ms i are.3

eq_self : (n : ℕ) → nat_eq n n ≡ true
eq_self n = elim (eqb_tells n n) [ inl t ↦ t.0 | inr f ↦ absurd (f.1 refl) ]

eq_other : (a b : ℕ) → a ≢ b → nat_eq a b ≡ false
eq_other a b ne = elim (eqb_tells a b) [ inl t ↦ absurd (ne t.1) | inr f ↦ f.0 ]

or_right : (b : Bool) → (b || true) ≡ true
or_right true = refl
or_right false = refl

moved_in : (ms : List (VarId × ℤ)) (i : ℕ) (d : VarId × ℤ) → i < length ms → is_moved ms (get_or ms i d).0.index ≡ true
moved_in [] i d lt = absurd (omega arith)
moved_in (m ∷ ms) zero d lt = ap (λ b. b || is_moved ms m.0.index) (eq_self m.0.index)
moved_in (m ∷ ms) (suc i) d lt = ap (λ b. nat_eq m.0.index (get_or ms i d).0.index || b) (moved_in ms i d (omega arith)) ∙ or_right _

not_both : {P : Type 0} (b : Bool) → b ≡ true → b ≡ false → P
not_both b t f = absurd (differ (sym t ∙ f))
  where
    differ : true ≡ false → ⊥
    differ e = cc

pub target_at : (g : Graph) (ms : List (VarId × ℤ)) (before : ℕ → Input) (i : ℕ) (d : VarId × ℤ) → AreMoves g ms → i < length ms → moved_to ms before (get_or ms i d).0.index ≡ Int (get_or ms i d).1
target_at g [] before i d are lt = absurd (omega arith)
target_at g (m ∷ ms) before zero d are lt = ap (λ b. cond b (Int m.1) (moved_to ms before m.0.index)) (eq_self m.0.index)
target_at g (m ∷ ms) before (suc i) d are lt =
    ap (λ b. cond b (Int m.1) (moved_to ms before (get_or ms i d).0.index))
    (eq_other m.0.index (get_or ms i d).0.index (λ e. not_both (is_moved ms m.0.index) (subst (λ k. is_moved ms k ≡ true) (sym e) (moved_in ms i d (omega arith))) are.2))
    ∙ target_at g ms before i d are.3 (omega arith)

unmoved : (ms : List (VarId × ℤ)) (before : ℕ → Input) (j : ℕ) → is_moved ms j ≡ false → moved_to ms before j ≡ before j
unmoved [] before j e = refl
unmoved (m ∷ ms) before j e =
    elim (eqb_tells m.0.index j) [
      | inl t ↦ not_both _ (ap (λ b. b || is_moved ms j) t.0) e
      | inr f ↦ rw f.0 (unmoved ms before j (sym (ap (λ b. b || is_moved ms j) f.0) ∙ e))
    ]

moved_free : (g : Graph) (ms : List (VarId × ℤ)) (j : ℕ) → AreMoves g ms → is_moved ms j ≡ true → g.is_free j ≡ true
moved_free g [] j are e = absurd (cc)
moved_free g (m ∷ ms) j are e =
    elim (eqb_tells m.0.index j) [
      | inl t ↦ subst (λ k. g.is_free k ≡ true) t.1 are.1
      | inr f ↦ moved_free g ms j are.3 (sym (ap (λ b. b || is_moved ms j) f.0) ∙ e)
    ]

-- as many are moved as there are moves
many_moved : (g : Graph) (ms : List (VarId × ℤ)) → AreMoves g ms → length ms ≤ sum_below (λ j. bit (is_moved ms j)) g.size
many_moved g [] are = omega arith
many_moved g (m ∷ ms) are =
    let rest = many_moved g ms are.3 in
    let each = sum_le (λ j. cond (nat_eq j m.0.index) 1 0 + bit (is_moved ms j)) (λ j. bit (nat_eq m.0.index j || is_moved ms j)) g.size (λ j lt. one j) in
    let add = sum_add (λ j. cond (nat_eq j m.0.index) 1 0) (λ j. bit (is_moved ms j)) g.size in
    let single = sum_one m.0.index 1 g.size are.0 in
    omega (arith, rest, each, add, single)
  where
    one : (j : ℕ) → cond (nat_eq j m.0.index) 1 0 + bit (is_moved ms j) ≤ bit (nat_eq m.0.index j || is_moved ms j)
    one j = elim (eqb_tells j m.0.index) [
      | inl t ↦
          let zero_moved : bit (is_moved ms j) ≡ 0 = ap bit (ap (is_moved ms) t.1 ∙ are.2) in
          let there : bit (nat_eq m.0.index j || is_moved ms j) ≡ 1 = ap (λ b. bit (b || is_moved ms j)) (subst (λ k. nat_eq m.0.index k ≡ true) (sym t.1) (eq_self m.0.index)) in
          rw t.0 (omega (arith, zero_moved, there))
      | inr f ↦
          let same : bit (nat_eq m.0.index j || is_moved ms j) ≡ bit (is_moved ms j) = ap (λ b. bit (b || is_moved ms j)) (eq_other m.0.index j (λ e. f.1 (sym e))) in
          rw f.0 (omega (arith, same))
    ]

-- ---- above layer 0
up_list : (n k : ℕ) (layer : ℕ → ℕ) (is : List ℕ) → is ≢ [] → Each (λ i. (i < n) × (layer i < k)) is → 0 < k
up_list n k layer [] ne each = absurd (ne refl)
up_list n k layer (i ∷ is) ne each = let a = each.0.1 in omega (arith, a)

pub higher : (rules : List Rule) (frame : Frame) (kinds : ℕ → InputKind) → IsFrame rules frame kinds → (j : ℕ) → inputs_in frame j ≢ [] → j < length frame.inputs.items → NotBefore first_front (layer_of frame) j
higher rules frame kinds ok j ne lt = let a = up_list (length frame.inputs.items) (layer_of frame j) (layer_of frame) (inputs_in frame j) ne (ok.shape.layers j lt) in omega (arith, a)

-- ---- one move
module _ (rules : List Rule) (frame : Frame) (trace : Trace) (ok : IsFrame rules frame trace.kinds) (helds : List (List Input)) (cells cells' : List Input) (course course' : Course) (steps steps' : ℕ)
    (m : VarId × ℤ) (ms : List (VarId × ℤ)) (are : AreMoves (graph_of rules frame) (m ∷ ms)) (state : InCourse rules helds frame trace cells course (LaterThanMoves frame (m ∷ ms)) steps) where
  id : ℕ
  id = m.0.index

  pub in_frame : m.0.index < length frame.inputs.items
  in_frame = are.0

  number_cell : kind_of (cell_of cells m.0.index) ≡ number_kind
  number_cell = state.kinded m.0.index are.0 ∙ ok.kinded.free m.0.index are.0 are.1

  pub kind_move : (x : Input) → Value (Int m.1) ≡ Value x → kind_of x ≡ kind_of (cell_of cells m.0.index)
  kind_move x e = ap kind_of (sym (value_is (Int m.1) x e)) ∙ sym number_cell
    where
      value_is : (a b : Input) → Value a ≡ Value b → a ≡ b
      value_is a b e = cc

  never : waits course.waiting (layer_of frame id) id ≡ None
  unfolding id
  never = elim (none_or_some (waits course.waiting (layer_of frame m.0.index) m.0.index)) [
    | inl e ↦ e
    | inr h ↦ absurd ((state.turns.keyed (layer_of frame m.0.index) m.0.index h).2 (ok.shape.bound m.0.index are.1))
  ]

  inside : (j : ℕ) → positions id (inputs_in frame j) ≢ [] → j < length frame.inputs.items
  inside j h = elim (leb_tells (length frame.inputs.items) j) [ inl a ↦ absurd (nonempty id _ h (ok.shape.outside j a.1)) | inr a ↦ a.1 ]

  apart : (j : ℕ) → LaterThanMoves frame ms j → j ≢ id
  unfolding id
  apart j late e = elim late [
    | inl hi ↦ absurd (let bottom = ok.shape.lowest m.0.index are.1 in let few = ok.shape.few in let lt = are.0 in let h : first_front ≤ layer_of frame m.0.index * 4294967296 + m.0.index = subst (λ k. first_front ≤ layer_of frame k * 4294967296 + k) e hi in omega (arith, bottom, few, lt, h))
    | inr mv ↦ not_both (is_moved ms m.0.index) (subst (λ k. is_moved ms k ≡ true) e mv) are.2
  ]

  pub unlost_move : get nat_cmp course.lost m.0.index ≡ None
  unlost_move = state.found m.0.index are.0 are.1

  -- the steps of a move, whatever comes of it
  pub limit_move : trace.target m.0.index ≡ Int m.1 → (o' : ℕ → Outcome) → IsMeaning (graph_of rules frame) trace.target o' → (end : ℕ)
      → end ≤ steps + 2 * cond (differs (Value (Int m.1)) (cell_of cells m.0.index)) (length (uses_in frame m.0.index)) 0
      → end ≤ trace.base + 4 * touch trace.moved (λ j. differs (o' j) (trace.before j)) (inputs_in frame) (uses_in frame) (length frame.inputs.items)
  limit_move target o' meaning end move =
      let a = limit_turn rules frame trace ok helds cells course (LaterThanMoves frame (m ∷ ms)) steps state 4294967295
      (λ l i h. let k = state.turns.keyed l i h in let hi = higher rules frame trace.kinds ok i k.2 k.1 in omega (arith, hi))
      (λ j lt at f. inl (above_bottom j lt at))
      (λ i j lt free late lower under. absurd (omega (arith, lower, under)))
      o' meaning m.0.index are.0 later in
      let same : cond (differs (Value (Int m.1)) (cell_of cells m.0.index)) (length (uses_in frame m.0.index)) 0 ≡ cond (differs (o' m.0.index) (trace.before m.0.index)) (length (uses_in frame m.0.index)) 0 =
      ap (λ q. cond (differs q (cell_of cells m.0.index)) (length (uses_in frame m.0.index)) 0) (ap (λ x. Value x) (sym target) ∙ sym (meaning.cells m.0.index are.0 are.1))
      ∙ ap (λ c. cond (differs (o' m.0.index) c) (length (uses_in frame m.0.index)) 0) was_before in
      omega (arith, a, same, move)
    where
      later : LaterThanMoves frame (m ∷ ms) m.0.index
      later = inr (ap (λ b. b || is_moved ms m.0.index) (eq_self m.0.index))

      above_bottom : (j : ℕ) → j < length frame.inputs.items → 4294967295 ≤ layer_of frame j * 4294967296 + j → NotBefore first_front (layer_of frame) j
      above_bottom j lt at = let small = ok.small in omega (arith, lt, at, small)

      was_before : cell_of cells m.0.index ≡ trace.before m.0.index
      was_before = same_value (cell_of cells m.0.index) (trace.before m.0.index) (sym (ap (λ q. differs q (trace.before m.0.index)) (state.turns.beyond m.0.index are.0 later)) ∙ state.same m.0.index are.0 later)

  pub move_step : trace.target m.0.index ≡ Int m.1
      → IsTold (layer_of frame) (uses_in frame m.0.index) (cell_of cells m.0.index) (Value (Int m.1)) (waits course.waiting) (waits course'.waiting)
      → cells' ≡ with_outcome cells m.0.index (Value (Int m.1))
      → get nat_cmp course'.lost m.0.index ≡ lost_by (Value (Int m.1)) → ((j : ℕ) → j ≢ m.0.index → get nat_cmp course'.lost j ≡ get nat_cmp course.lost j)
      → get nat_cmp course'.changes m.0.index ≡ change_of m.0.index (Value (Int m.1)) (cell_of cells m.0.index) (get nat_cmp course.changes m.0.index) → ((j : ℕ) → j ≢ m.0.index → get nat_cmp course'.changes j ≡ get nat_cmp course.changes j)
      → steps' ≤ steps + 2 * cond (differs (Value (Int m.1)) (cell_of cells m.0.index)) (length (uses_in frame m.0.index)) 0
      → InCourse rules helds frame trace cells' course' (LaterThanMoves frame ms) steps'
  unfolding id
  move_step target told cells_are lost_here lost_other change_here change_other turn =
      step rules frame trace ok helds helds cells cells' course course' (LaterThanMoves frame (m ∷ ms)) (LaterThanMoves frame ms) steps steps' state
      m.0.index (Value (Int m.1)) are.0 (inr (ap (λ b. b || is_moved ms m.0.index) (eq_self m.0.index))) (waits course.waiting) never (λ l i _. refl)
      (λ l i h. let k = state.turns.keyed l i h in inl (higher rules frame trace.kinds ok i k.2 k.1))
      (λ j h. inl (higher rules frame trace.kinds ok j (nonempty id _ h) (inside j h)))
      (λ j late. (elim late [ inl hi ↦ inl hi | inr mv ↦ inr (ap (λ b. nat_eq m.0.index j || b) mv ∙ or_right _) ], apart j late))
      (λ j low free late ne. elim late [ inl hi ↦ inl hi | inr mv ↦ inr (sym (ap (λ b. b || is_moved ms j) (eq_other m.0.index j (λ e. ne (sym e)))) ∙ mv) ])
      told cells_are lost_here lost_other change_here change_other state.many_helds
      (λ j ne. ap (λ (c : Input). cond (nat_lt j frame.first) (c ∷ []) (slice_index_or helds (j - frame.first) [])) (ap (λ (cs : List Input). cell_of cs j) cells_are ∙ other_cell (Value (Int m.1)) cells m.0.index j ne))
      (λ f. not_both _ are.1 f) (λ x f e. not_both _ are.1 f)
      (λ x e. kind_move x e ∙ state.kinded m.0.index are.0)
      (λ _. ap (λ y. Value y) (sym target))
      (omega (arith, turn))

-- ---- what is later, said otherwise
pub said_otherwise : (rules : List Rule) (frame : Frame) (trace : Trace) (helds : List (List Input)) (cells : List Input) (course : Course) (L M : ℕ → Type 0) (steps steps' : ℕ)
    → ((j : ℕ) → L j → M j) → ((j : ℕ) → M j → L j) → steps' ≤ steps → InCourse rules helds frame trace cells course L steps → InCourse rules helds frame trace cells course M steps'
said_otherwise rules frame trace helds cells course L M steps steps' to from le state = record {
  turns = record {
    keyed = λ l i h. let k = state.turns.keyed l i h in (k.0, k.1, k.2, to i k.3);
    consistent = state.turns.consistent;
    fits = state.turns.fits;
    beyond = λ j lt a. state.turns.beyond j lt (from j a);
    early = λ i j lt a. state.turns.early i j lt (from i a);
  };
  many_cells = state.many_cells;
  many_helds = state.many_helds;
  kinded = state.kinded;
  frees = λ j low free. elim (state.frees j low free) [ inl l ↦ inl (to j l) | inr e ↦ inr e ];
  found = state.found;
  changes = state.changes;
  no_changes = state.no_changes;
  no_lost = state.no_lost;
  paid = let p = state.paid in omega (arith, p, le);
  same = λ j low a. state.same j low (from j a);
  calm = λ j low hi a. state.calm j low hi (from j a);
}

pub moves_over : (rules : List Rule) (frame : Frame) (trace : Trace) (helds : List (List Input)) (cells : List Input) (course : Course) (steps steps' : ℕ) → steps' ≤ steps
    → InCourse rules helds frame trace cells course (LaterThanMoves frame []) steps → InCourse rules helds frame trace cells course (NotBefore first_front (layer_of frame)) steps'
moves_over rules frame trace helds cells course steps steps' le state =
    said_otherwise rules frame trace helds cells course (LaterThanMoves frame []) (NotBefore first_front (layer_of frame)) steps steps' (λ j late. elim late [ inl hi ↦ hi | inr mv ↦ absurd (none_moved mv) ]) (λ j hi. inl hi) le state
  where
    none_moved : false ≡ true → ⊥
    none_moved e = cc

-- ---- the start
map_same : {A : Type 0} (f g : ℕ → A) (is : List ℕ) → ((i : ℕ) → f i ≡ g i) → map f is ≡ map g is
map_same f g [] h = refl
map_same f g (i ∷ is) h = ap (λ a. a ∷ map f is) (h i) ∙ ap (λ bs. g i ∷ bs) (map_same f g is h)

any_none : (d : ℕ → Bool) (is : List ℕ) → ((i : ℕ) → d i ≡ false) → list_any d is ≡ false
any_none d [] h = refl
any_none d (i ∷ is) h = ap (λ b. b || list_any d is) (h i) ∙ any_none d is h

pub started : (rules : List Rule) (helds : List (List Input)) (frame : Frame) (cells : List Input) (kept : IsKept rules helds frame cells) (ms : List (VarId × ℤ)) (course : Course) (base spare : ℕ)
    → spare ≤ 6 → AreMoves (graph_of rules frame) ms → 0 < length ms → ((l i : ℕ) → waits course.waiting l i ≡ None) → ((j : ℕ) → get nat_cmp course.lost j ≡ None) → ((j : ℕ) → get nat_cmp course.changes j ≡ None)
    → InCourse rules helds frame (trace_of cells ms base) cells course (LaterThanMoves frame ms) (base + 2 * length ms + spare)
started rules helds frame cells kept ms course base spare few are some none unlost unchanged = record {
  turns = record {
    keyed = λ l i h. absurd (not_some _ (none l i) h);
    consistent = λ j lt f _. now j ∙ kept.fresh.nodes j lt f ∙ sym (ap (λ os. come_to ((graph_of rules frame).op j) (values_of os)) (map_same (outcome_now course.lost cells) (λ i. Value (cell_of cells i)) (inputs_in frame j) now));
    fits = λ j x _ lt f _. rw (none (layer_of frame j) j, map_same (outcome_now course.lost cells) (λ i. Value (cell_of cells i)) (inputs_in frame j) now) (tt, kept.holds j lt f);
    beyond = λ j lt _. now j;
    early = λ i j lt _ ds e. subst (λ (es : List Change). NoneAtAny es (positions i (inputs_in frame j))) (some_same [] ds (sym (ap to_come (none (layer_of frame j) j)) ∙ e)) (none_any (positions i (inputs_in frame j)));
  };
  many_cells = kept.many_cells;
  many_helds = kept.many_helds;
  kinded = λ j low. refl;
  frees = λ j low free. by_move j (is_moved ms j) refl;
  found = λ j _ _. unlost j;
  changes = λ j low. unchanged j ∙ sym (ap (λ b. cond b (Some (changed_at j (cell_of cells j) (cell_of cells j))) None) (no_difference (cell_of cells j) (cell_of cells j) refl));
  no_changes = λ j _. unchanged j;
  no_lost = λ j _. unlost j;
  paid = paid;
  same = λ j low _. still j;
  calm = λ j low hi _ _. ap (λ b. b || list_any (differing course.lost cells (cell_of cells)) (inputs_in frame j)) (unmoved_high j low hi (is_moved ms j) refl) ∙ any_none _ (inputs_in frame j) still;
}
  where
    now : (j : ℕ) → outcome_now course.lost cells j ≡ Value (cell_of cells j)
    now j = ap (λ l. lost_or l (cell_of cells j)) (unlost j)

    still : (j : ℕ) → differing course.lost cells (cell_of cells) j ≡ false
    still j = ap (λ q. differs q (cell_of cells j)) (now j) ∙ no_difference (cell_of cells j) (cell_of cells j) refl

    some_same : (xs ys : List Change) → Some xs ≡ Some ys → xs ≡ ys
    some_same xs ys e = cc

    none_any : (ps : List ℕ) → NoneAtAny [] ps
    none_any [] = tt
    none_any (q ∷ ps) = (tt, none_any ps)

    by_move : (j : ℕ) (b : Bool) → is_moved ms j ≡ b → LaterThanMoves frame ms j ⊎ (cell_of cells j ≡ moved_to ms (cell_of cells) j)
    by_move j true e = inl (inr e)
    by_move j false e = inr (sym (unmoved ms (cell_of cells) j e))

    unmoved_high : (j : ℕ) → j < length frame.inputs.items → NotBefore first_front (layer_of frame) j → (b : Bool) → is_moved ms j ≡ b → b ≡ false
    unmoved_high j low hi true e = absurd (let bottom = kept.framed.shape.lowest j (moved_free (graph_of rules frame) ms j are e) in let few = kept.framed.shape.few in omega (arith, bottom, few, low, hi))
    unmoved_high j low hi false e = refl

    paid : base + 2 * length ms + spare + sum_below (λ j. cost (waits course.waiting (layer_of frame j) j)) (length frame.inputs.items)
        ≤ base + 4 * touch (is_moved ms) (differing course.lost cells (cell_of cells)) (inputs_in frame) (uses_in frame) (length frame.inputs.items)
    paid =
        let free = sum_none (λ j. cost (waits course.waiting (layer_of frame j) j)) (length frame.inputs.items) (λ j lt. ap cost (none (layer_of frame j) j)) in
        let many = many_moved (graph_of rules frame) ms are in
        let grown = sum_le (λ j. bit (is_moved ms j)) (λ j. bit (touched (is_moved ms) (differing course.lost cells (cell_of cells)) (inputs_in frame) j)) (length frame.inputs.items) (λ j lt. or_more (is_moved ms j) _) in
        omega (arith, free, many, grown, some, few)
      where
        or_more : (a b : Bool) → bit a ≤ bit (a || b)
        or_more true b = omega arith
        or_more false b = omega arith
