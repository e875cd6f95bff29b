-- When nothing waits up to the target, all up to there have come to what they come to after the moves.
use Rattle.std.proofs.Common.{◌≡◌, inl, inr, ℕ, ◌+◌, ◌<◌, ◌≤◌, Bool, true, false, List, length, Option, None, IsSome, refl, sym, ap, ◌∙◌, subst, arith}
use Rattle.std.specs.BTreeMap.{BTreeMap, get}
use Rattle.std.specs.Ordering.{nat_cmp}
use Rattle.std.proofs.lemmas.Bool.Decides.{leb_tells}
use Rattle.cbl_base.specs.Inputs.{kind_of}
use Rattle.cbl_base.specs.NodeLaw.{Rule}
use Rattle.cbl_base.specs.declared.input.Input.{Input}
use Rattle.cbl_base.specs.declared.faults.RunFault.{RunFault}
use Rattle.store_turns.specs.declared.frame.Frame.{Frame}
use Rattle.store_turns.specs.declared.outcome.Outcome.{Outcome}
use Rattle.store_turns.specs.declared.outcome.Outcome.TheVariants.{Value}
use Rattle.store_turns.specs.Meaning.{IsMeaning, graph_of, layer_of}
use Rattle.store_turns.specs.Waits.{waits}
use Rattle.store_turns.specs.Turns.{rank}
use Rattle.store_turns.proofs.NextTurn.{not_some}
use Rattle.store_build.specs.Frames.{cell_of}
use Rattle.store_build.specs.Kept.{IsKept}
use Rattle.inc_store.specs.declared.changed.NodeChange.{NodeChange}
use Rattle.inc_store.specs.Course.{lost_or, outcome_now, NotBefore, first_front}
use Rattle.inc_store.specs.Moves.{moved_to, trace_of}
use Rattle.inc_store.proofs.Limits.{outcome_final}
use Rattle.trial.specs.declared.overlay.Overlay.{Overlay}
use Rattle.trial.specs.Overlays.{new_or}
use Rattle.trial.specs.Course.{Asked, InProbe, IsKnown, course_of}
use Rattle.trial.proofs.Imagined.{newest_is}

module _ (rules : List Rule) (nodes : List (List Input)) (frame : Frame) (cells : List Input) (kept : IsKept rules nodes frame cells) (ask : Asked) (v : Overlay) (front steps : ℕ)
    (state : InProbe rules frame cells ask v (NotBefore front (layer_of frame)) steps) (high : first_front ≤ front)
    (target : ℕ)
    (none : (j : ℕ) → j < length frame.inputs.items → rank (layer_of frame) j ≤ rank (layer_of frame) target → waits v.waiting (layer_of frame j) j ≡ None) where
  never_late : (j : ℕ) → j < length frame.inputs.items → (graph_of rules frame).is_free j ≡ true → NotBefore front (layer_of frame) j → ⊥
  never_late j lt free late = absurd (let bottom = kept.framed.shape.lowest j free in let few = kept.framed.shape.few in omega (arith, bottom, few, lt, late, high))

  waiting : (l i : ℕ) → IsSome (waits v.waiting l i) → rank (layer_of frame) target + 1 ≤ rank (layer_of frame) i
  waiting l i h =
      let k = state.course.turns.keyed l i h in
      elim (leb_tells (rank (layer_of frame) target + 1) (rank (layer_of frame) i)) [
        | inl a ↦ a.1
        | inr a ↦ absurd (not_some (waits v.waiting (layer_of frame i) i) (none i k.1 (let b = a.1 in omega (arith, b))) (subst (λ m. IsSome (waits v.waiting m i)) k.0 h))
      ]

  new_is : (j : ℕ) → j < length frame.inputs.items → new_or (get nat_cmp v.changes j) (cell_of cells j) ≡ cell_of state.imagined j
  new_is j lt = newest_is (get nat_cmp v.changes j) j (cell_of cells j) (cell_of state.imagined j) (state.course.changes j lt)

  late_waiting : (l i : ℕ) → IsSome (waits v.waiting l i) → front ≤ rank (layer_of frame) i
  late_waiting l i h = (state.course.turns.keyed l i h).3

  come : (o : ℕ → Outcome) → IsMeaning (graph_of rules frame) (moved_to ask.moves (cell_of cells)) o → (j : ℕ) → j < length frame.inputs.items → rank (layer_of frame) j ≤ rank (layer_of frame) target → outcome_now v.lost state.imagined j ≡ o j
  come o meaning j lt low = by ((graph_of rules frame).is_free j) refl
    where
      by : (b : Bool) → (graph_of rules frame).is_free j ≡ b → outcome_now v.lost state.imagined j ≡ o j
      by true free = elim (state.course.frees j lt free) [
        | inl late ↦ absurd (never_late j lt free late)
        | inr e ↦ ap (λ q. lost_or q (cell_of state.imagined j)) (state.course.found j lt free) ∙ ap (λ y. Value y) e ∙ sym (meaning.cells j lt free)
      ]
      by false bound =
          state.course.turns.consistent j lt bound (none j lt low)
          ∙ elim (leb_tells front (rank (layer_of frame) target + 1)) [
            | inl a ↦ outcome_final rules frame (trace_of cells ask.moves ask.base) kept.framed state.helds state.imagined (course_of v) (NotBefore front (layer_of frame)) steps state.course
                (rank (layer_of frame) target + 1) waiting (λ i _ at _. let near = a.1 in omega (arith, at, near)) (λ i k li free late _ _. never_late i li free late) o meaning j lt (omega (arith, low)) bound
            | inr a ↦ outcome_final rules frame (trace_of cells ask.moves ask.base) kept.framed state.helds state.imagined (course_of v) (NotBefore front (layer_of frame)) steps state.course
                front late_waiting (λ i _ at _. at) (λ i k li free late _ _. never_late i li free late) o meaning j lt (let past = a.1 in omega (arith, low, past)) bound
          ]

  pub stopped : (lost : BTreeMap ℕ (Option RunFault)) (changes : BTreeMap ℕ NodeChange) (roots : BTreeMap ℕ (ℕ × RunFault)) → lost ≡ v.lost → changes ≡ v.changes → roots ≡ v.roots
      → IsKnown rules frame cells ask lost changes roots target
  stopped lost changes roots el ec er =
      subst (λ q. IsKnown rules frame cells ask q changes roots target) (sym el)
      (subst (λ q. IsKnown rules frame cells ask v.lost q roots target) (sym ec)
      (subst (λ q. IsKnown rules frame cells ask v.lost v.changes q target) (sym er) (record {
        known = λ o meaning j lt low. ap (λ y. lost_or (get nat_cmp v.lost j) y) (new_is j lt) ∙ come o meaning j lt low;
        kinded = λ j lt. ap kind_of (new_is j lt) ∙ state.course.kinded j lt;
        are_roots = state.roots;
      })))
