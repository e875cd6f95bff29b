-- The bound on the steps holds at every moment: what was touched so far is touched at the end.
use Rattle.std.proofs.Common.{◌≡◌, inl, inr, ℕ, zero, suc, ◌+◌, ◌*◌, ◌<◌, ◌≤◌, Bool, true, false, cond, nat_eq, ◌||◌, List, [], ◌∷◌, length, None, IsSome, refl, sym, ap, ◌∙◌, arith}
use Rattle.std.specs.List.{list_any}
use Rattle.std.proofs.lemmas.Bool.Decides.{eqb_tells, leb_tells}
use Rattle.cbl_base.specs.NodeLaw.{Rule}
use Rattle.cbl_base.specs.declared.ids.NodeId.{NodeId}
use Rattle.cbl_base.specs.declared.input.Input.{Input}
use Rattle.store_turns.specs.declared.frame.Frame.{Frame}
use Rattle.store_turns.specs.declared.outcome.Outcome.{Outcome}
use Rattle.store_turns.specs.declared.outcome.Outcome.TheVariants.{Value}
use Rattle.store_turns.specs.Meaning.{Each, IsMeaning, computed, graph_of, inputs_in, layer_of, uses_in}
use Rattle.store_turns.specs.Waits.{waits}
use Rattle.store_turns.specs.Touch.{differs, sum_below, bit, cost, touch, touched}
use Rattle.store_turns.specs.Turns.{rank}
use Rattle.store_turns.proofs.NextTurn.{none_or_some}
use Rattle.store_turns.proofs.Unique.{each_from, same_computed}
use Rattle.store_turns.proofs.Budget.{sum_le, sum_add, sum_one}
use Rattle.inc_store.specs.declared.course.Course.{Course}
use Rattle.store_build.specs.Frames.{cell_of, IsFrame}
use Rattle.inc_store.specs.Course.{lost_or, outcome_now, Trace, differing, InCourse}

-- ---- more that differs, more that is touched
or_le : (m a b : Bool) → bit a ≤ bit b → bit (m || a) ≤ bit (m || b)
or_le true a b h = omega arith
or_le false a b h = h

two_le : (a b c d : Bool) → bit a ≤ bit c → bit b ≤ bit d → bit (a || b) ≤ bit (c || d)
two_le true b true d h k = omega arith
two_le true b false d h k = absurd (omega (arith, h))
two_le false true true d h k = omega arith
two_le false false true d h k = omega arith
two_le false b false d h k = k

any_le : (d e : ℕ → Bool) (n : ℕ) (is : List ℕ) → ((j : ℕ) → j < n → bit (d j) ≤ bit (e j)) → Each (λ i. i < n) is → bit (list_any d is) ≤ bit (list_any e is)
any_le d e n [] h each = omega arith
any_le d e n (i ∷ is) h each = two_le (d i) (list_any d is) (e i) (list_any e is) (h i each.0) (any_le d e n is h each.1)

share_le : (a b : Bool) (k : ℕ) → bit a ≤ bit b → cond a k 0 ≤ cond b k 0
share_le true true k h = omega arith
share_le true false k h = absurd (omega (arith, h))
share_le false b k h = omega arith

module _ (moved d e : ℕ → Bool) (inputs : ℕ → List ℕ) (uses : ℕ → List (NodeId × ℕ)) (n : ℕ) (less : (j : ℕ) → j < n → bit (d j) ≤ bit (e j)) (low : (j : ℕ) → j < n → Each (λ i. i < n) (inputs j)) where
  touched_le : sum_below (λ j. bit (touched moved d inputs j)) n ≤ sum_below (λ j. bit (touched moved e inputs j)) n
  touched_le = sum_le (λ j. bit (touched moved d inputs j)) (λ j. bit (touched moved e inputs j)) n (λ j lt. or_le (moved j) (list_any d (inputs j)) (list_any e (inputs j)) (any_le d e n (inputs j) less (low j lt)))

  pub touch_le : touch moved d inputs uses n ≤ touch moved e inputs uses n
  touch_le =
      let a = touched_le in
      let b = sum_le (λ j. cond (d j) (length (uses j)) 0) (λ j. cond (e j) (length (uses j)) 0) n (λ j lt. share_le (d j) (e j) (length (uses j)) (less j lt)) in
      omega (arith, a, b)

  -- and with an id that doesn't differ yet
  pub touch_more : (id : ℕ) → id < n → d id ≡ false → touch moved d inputs uses n + cond (e id) (length (uses id)) 0 ≤ touch moved e inputs uses n
  touch_more id lt off =
      let a = touched_le in
      let b = sum_le (λ j. cond (d j) (length (uses j)) 0 + cond (nat_eq j id) (cond (e id) (length (uses id)) 0) 0) (λ j. cond (e j) (length (uses j)) 0) n (λ j low. one j low) in
      let c = sum_add (λ j. cond (d j) (length (uses j)) 0) (λ j. cond (nat_eq j id) (cond (e id) (length (uses id)) 0) 0) n in
      let f = sum_one id (cond (e id) (length (uses id)) 0) n lt in
      omega (arith, a, b, c, f)
    where
      one : (j : ℕ) → j < n → cond (d j) (length (uses j)) 0 + cond (nat_eq j id) (cond (e id) (length (uses id)) 0) 0 ≤ cond (e j) (length (uses j)) 0
      one j low = elim (eqb_tells j id) [
        | inl t ↦
            let z : cond (d j) (length (uses j)) 0 ≡ 0 = ap (λ b. cond b (length (uses j)) 0) (ap d t.1 ∙ off) in
            let s : cond (e j) (length (uses j)) 0 ≡ cond (e id) (length (uses id)) 0 = ap (λ i. cond (e i) (length (uses i)) 0) t.1 in
            rw t.0 (omega (arith, z, s))
        | inr f ↦ let h = share_le (d j) (e j) (length (uses j)) (less j low) in rw f.0 (omega (arith, h))
      ]

sum_at : (f : ℕ → ℕ) (i n : ℕ) → i < n → f i ≤ sum_below f n
sum_at f i n lt =
    let a = sum_le (λ j. cond (nat_eq j i) (f i) 0) f n (λ j low. elim (eqb_tells j i) [ inl t ↦ let s : f j ≡ f i = ap f t.1 in rw t.0 (omega (arith, s)) | inr g ↦ rw g.0 (omega arith) ]) in
    let b = sum_one i (f i) n lt in
    omega (arith, a, b)

module _ (rules : List Rule) (frame : Frame) (trace : Trace) (ok : IsFrame rules frame trace.kinds) (helds : List (List Input)) (cells : List Input) (course : Course) (Later : ℕ → Type 0) (steps : ℕ)
    (state : InCourse rules helds frame trace cells course Later steps)
    -- what is below the bound doesn't wait, what is from there on is later, and free cells below a node have moved
    (bound : ℕ) (waiting : (l i : ℕ) → IsSome (waits course.waiting l i) → bound ≤ rank (layer_of frame) i)
    (late : (j : ℕ) → j < length frame.inputs.items → bound ≤ rank (layer_of frame) j → (graph_of rules frame).is_free j ≡ false → Later j)
    (ready : (i j : ℕ) → i < length frame.inputs.items → (graph_of rules frame).is_free i ≡ true → Later i → layer_of frame i < layer_of frame j → rank (layer_of frame) j ≤ bound → ⊥)
    (o' : ℕ → Outcome) (meaning : IsMeaning (graph_of rules frame) trace.target o') where
  o : ℕ → Outcome
  o = outcome_now course.lost cells

  low : (j : ℕ) → j < length frame.inputs.items → Each (λ i. i < length frame.inputs.items) (inputs_in frame j)
  low j lt = each_from (λ i. (i < length frame.inputs.items) × (layer_of frame i < layer_of frame j)) (λ i. i < length frame.inputs.items) (inputs_in frame j) (λ i h. h.0) (ok.shape.layers j lt)

  moved_free : (j : ℕ) → j < length frame.inputs.items → (graph_of rules frame).is_free j ≡ true → cell_of cells j ≡ trace.target j → o j ≡ o' j
  unfolding o
  moved_free j lt free e = ap (λ l. lost_or l (cell_of cells j)) (state.found j lt free) ∙ ap (λ x. Value x) e ∙ sym (meaning.cells j lt free)

  -- an input of what is not above the bound is what it comes to, where that is known of nodes
  input_known : (i j : ℕ) → i < length frame.inputs.items → layer_of frame i < layer_of frame j → rank (layer_of frame) j ≤ bound → ((graph_of rules frame).is_free i ≡ false → o i ≡ o' i) → o i ≡ o' i
  input_known i j lt lower under known = by_free ((graph_of rules frame).is_free i) refl
    where
      by_free : (b : Bool) → (graph_of rules frame).is_free i ≡ b → o i ≡ o' i
      by_free true e = elim (state.frees i lt e) [ inl l ↦ absurd (ready i j lt e l lower under) | inr s ↦ moved_free i lt e s ]
      by_free false e = known e

  from_known : (j : ℕ) → j < length frame.inputs.items → (graph_of rules frame).is_free j ≡ false → waits course.waiting (layer_of frame j) j ≡ None
      → ((i : ℕ) → i < length frame.inputs.items → layer_of frame i < layer_of frame j → o i ≡ o' i) → o j ≡ o' j
  unfolding o
  from_known j lt f none known =
      state.turns.consistent j lt f none
      ∙ same_computed (graph_of rules frame) (outcome_now course.lost cells) o' j
      (each_from (λ i. (i < length frame.inputs.items) × (layer_of frame i < layer_of frame j)) (λ i. outcome_now course.lost cells i ≡ o' i) (inputs_in frame j) (λ i h. known i h.0 h.1) (ok.shape.layers j lt))
      ∙ sym (meaning.nodes j lt f)

  not_waiting : (j : ℕ) → rank (layer_of frame) j < bound → waits course.waiting (layer_of frame j) j ≡ None
  not_waiting j under = elim (none_or_some (waits course.waiting (layer_of frame j) j)) [ inl none ↦ none | inr some ↦ absurd (let a = waiting (layer_of frame j) j some in omega (arith, a, under)) ]

  lower_rank : (i j : ℕ) → i < length frame.inputs.items → layer_of frame i < layer_of frame j → rank (layer_of frame) i < rank (layer_of frame) j
  lower_rank i j lt lower = let few = ok.shape.few in omega (arith, lt, lower, few)

  sure : (d j : ℕ) → j < length frame.inputs.items → layer_of frame j < d → rank (layer_of frame) j < bound → (graph_of rules frame).is_free j ≡ false → o j ≡ o' j
  sure zero j lt below under f = absurd (omega (arith, below))
  sure (suc d) j lt below under f =
      from_known j lt f (not_waiting j under)
      (λ i li lower. input_known i j li lower (omega (arith, under)) (λ e. sure d i li (omega (arith, lower, below)) (let a = lower_rank i j li lower in omega (arith, a, under)) e))

  less : (j : ℕ) → j < length frame.inputs.items → bit (differing course.lost cells trace.before j) ≤ bit (differs (o' j) (trace.before j))
  unfolding o
  less j lt = by_free ((graph_of rules frame).is_free j) refl
    where
      equal : o j ≡ o' j → bit (differing course.lost cells trace.before j) ≤ bit (differs (o' j) (trace.before j))
      equal e = let s : bit (differs (outcome_now course.lost cells j) (trace.before j)) ≡ bit (differs (o' j) (trace.before j)) = ap (λ q. bit (differs q (trace.before j))) e in omega (arith, s)

      nothing : Later j → bit (differing course.lost cells trace.before j) ≤ bit (differs (o' j) (trace.before j))
      nothing l = let z : bit (differing course.lost cells trace.before j) ≡ 0 = ap bit (state.same j lt l) in omega (arith, z)

      by_free : (b : Bool) → (graph_of rules frame).is_free j ≡ b → bit (differing course.lost cells trace.before j) ≤ bit (differs (o' j) (trace.before j))
      by_free true e = elim (state.frees j lt e) [ inl l ↦ nothing l | inr s ↦ equal (moved_free j lt e s) ]
      by_free false e = elim (leb_tells bound (rank (layer_of frame) j)) [ inl a ↦ nothing (late j lt a.1 e) | inr a ↦ equal (sure (suc (layer_of frame j)) j lt (omega arith) a.1 e) ]

  pub limit_now : steps ≤ trace.base + 4 * touch trace.moved (λ j. differs (o' j) (trace.before j)) (inputs_in frame) (uses_in frame) (length frame.inputs.items)
  limit_now =
      let a = touch_le trace.moved (differing course.lost cells trace.before) (λ j. differs (o' j) (trace.before j)) (inputs_in frame) (uses_in frame) (length frame.inputs.items) less low in
      let b = state.paid in
      omega (arith, a, b)

  -- the turn of an id, whatever comes of it
  pub limit_turn : (id : ℕ) → id < length frame.inputs.items → Later id
      → steps + cost (waits course.waiting (layer_of frame id) id) + 4 * cond (differs (o' id) (trace.before id)) (length (uses_in frame id)) 0
      ≤ trace.base + 4 * touch trace.moved (λ j. differs (o' j) (trace.before j)) (inputs_in frame) (uses_in frame) (length frame.inputs.items)
  limit_turn id lt later =
      let a = touch_more trace.moved (differing course.lost cells trace.before) (λ j. differs (o' j) (trace.before j)) (inputs_in frame) (uses_in frame) (length frame.inputs.items) less low id lt (state.same id lt later) in
      let b = state.paid in
      let c = sum_at (λ j. cost (waits course.waiting (layer_of frame j) j)) id (length frame.inputs.items) lt in
      omega (arith, a, b, c)

  -- what an id at the bound computes is what it comes to
  pub outcome_final : (id : ℕ) → id < length frame.inputs.items → rank (layer_of frame) id ≤ bound → (graph_of rules frame).is_free id ≡ false → computed (graph_of rules frame) (outcome_now course.lost cells) id ≡ o' id
  unfolding o
  outcome_final id lt at f =
      same_computed (graph_of rules frame) (outcome_now course.lost cells) o' id
      (each_from (λ i. (i < length frame.inputs.items) × (layer_of frame i < layer_of frame id)) (λ i. outcome_now course.lost cells i ≡ o' i) (inputs_in frame id)
      (λ i h. input_known i id h.0 h.1 at (λ e. sure (layer_of frame id) i h.0 h.1 (let a = lower_rank i id h.0 h.1 in omega (arith, a, at)) e)) (ok.shape.layers id lt))
      ∙ sym (meaning.nodes id lt f)
