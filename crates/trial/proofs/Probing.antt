-- What is asked of the part that a target stands on, and what the store's answer is then.
use Rattle.std.proofs.Common.{◌≡◌, inl, inr, ℕ, ℤ, pos, ◌<◌, Bool, true, false, not, List, [], ◌∷◌, length, Result, Ok, Err, IfOk, IfErr, refl, sym, subst, arith}
use Rattle.cbl_base.specs.Inputs.{number_kind, kind_of}
use Rattle.cbl_base.specs.NodeLaw.{Rule}
use Rattle.cbl_base.specs.declared.ids.NodeId.{NodeId}
use Rattle.cbl_base.specs.declared.ids.VarId.{VarId}
use Rattle.cbl_base.specs.declared.input.Input.{Input}
use Rattle.store_turns.specs.declared.frame.Cone.{Cone}
use Rattle.store_turns.specs.declared.frame.Frame.{Frame}
use Rattle.store_turns.specs.Cones.{StandsOn, IsCone, has}
use Rattle.store_turns.specs.Meaning.{Each, Graph, is_empty, graph_of, inputs_in, uses_in}
use Rattle.store_build.specs.Frames.{cell_of}
use Rattle.store_build.proofs.LaidLemmas.{if_ok}
use Rattle.store_build.specs.Kept.{IsKept}
use Rattle.inc_store.specs.Moves.{AreMoves, moved_to, is_moved}
use Rattle.inc_store.specs.Stores.{IsWithin}
use Rattle.trial.specs.declared.fault.DifferenceFault.{DifferenceFault}
use Rattle.trial.specs.declared.fault.DifferenceFault.TheVariants.{Node, Difference, NoMemory}
use Rattle.trial.specs.Differences.{IsDifference, IsRefusal, IsStopped, fault_at}
use Rattle.trial.specs.Parts.{Query, IsPart, IsPaid, IsWithinBelow, part_graph, value_in, after_in, moves_of}
use Rattle.trial.proofs.PartCones.{closed_is, target_is}
use Rattle.trial.proofs.PartEnds.{difference_of, stopped_of, unmoved, within_of, below_within}
use Rattle.trial.proofs.PartFrames.{part_of, is_part}
use Rattle.trial.proofs.PartMoves.{are_moves}

-- the fault of a difference, told at the target
pub refused : (g : Graph) (now after : ℕ → Input) (target : NodeId) (stop : DifferenceFault) → IsStopped g now after target.0 stop → IsRefusal g now after target.0 (fault_at target stop)
refused g now after target (Node node fault) h = inl h
refused g now after target (Difference fault) h = inr (refl, h.0, h.1, h.2, h.3)
refused g now after target NoMemory h = tt

if_err : {A E : Type 0} {P Q : E → Type 0} (r : Result A E) → IfErr r P → ((e : E) → P e → Q e) → IfErr r Q
if_err (Ok x) h f = tt
if_err (Err e) h f = f e h

pub none_of : {A : Type 0} (xs : List A) → not (is_empty xs) ≡ false → xs ≡ []
none_of [] e = refl
none_of (x ∷ xs) e = absurd (cc)

pub some_of : {A : Type 0} (xs : List A) → not (is_empty xs) ≡ true → 0 < length xs
some_of [] e = absurd (cc)
some_of (x ∷ xs) e = omega arith

module _ (rules : List Rule) (helds : List (List Input)) (frame : Frame) (cells : List Input) (kept : IsKept rules helds frame cells) (ms : List (VarId × ℤ))
    (cone : Cone) (of : IsCone (inputs_in frame) (length frame.inputs.items) cone) (lt : cone.target < length frame.inputs.items) (members : List Bool) (is : members ≡ cone.members.items) where
  closed : (id : ℕ) → id < length frame.inputs.items → has members id ≡ true → Each (λ i. has members i ≡ true) (inputs_in frame id)
  closed = subst (λ bs. (id : ℕ) → id < length frame.inputs.items → has bs id ≡ true → Each (λ i. has bs i ≡ true) (inputs_in frame id)) (sym is)
      (closed_is (inputs_in frame) (length frame.inputs.items) cone of)

  pub member : has members cone.target ≡ true
  member = subst (λ bs. has bs cone.target ≡ true) (sym is) (target_is (inputs_in frame) (length frame.inputs.items) cone of)

  exact : (j : ℕ) → j < length frame.inputs.items → has members j ≡ true → StandsOn (inputs_in frame) cone.target j
  exact = subst (λ bs. (j : ℕ) → j < length frame.inputs.items → has bs j ≡ true → StandsOn (inputs_in frame) cone.target j) (sym is) of.stands

  pub part_is : IsPart rules frame cells (has members) (part_of (has members) rules helds frame cells)
  part_is = is_part rules helds frame cells kept (has members) closed

  pub moves_are : AreMoves (graph_of rules frame) ms → AreMoves (part_graph (part_of (has members) rules helds frame cells)) (moves_of (has members) ms)
  moves_are are = are_moves (has members) rules frame cells (part_of (has members) rules helds frame cells) part_is ms are

  pub nothing_moved : moves_of (has members) ms ≡ [] → kind_of (cell_of cells cone.target) ≡ number_kind → IsDifference (graph_of rules frame) (cell_of cells) (moved_to ms (cell_of cells)) cone.target (pos 0)
  nothing_moved none number = unmoved rules helds frame cells kept (has members) closed (part_of (has members) rules helds frame cells) part_is ms cone.target lt member none number

  -- what is asked, and where the steps begin
  abbrev pub asked_of : ℕ → Query
  asked_of base = record { part = part_of (has members) rules helds frame cells; ask = record { moves = moves_of (has members) ms; base = base } }

  module _ (base : ℕ) where
    pub difference_told : (r : Result ℤ DifferenceFault) → IfOk r (λ d. IsDifference (part_graph (asked_of base).part) (value_in (asked_of base).part) (after_in (asked_of base)) cone.target d)
        → IfOk r (λ d. IsDifference (graph_of rules frame) (cell_of cells) (moved_to ms (cell_of cells)) cone.target d)
    difference_told r h = if_ok r h (λ d e. difference_of rules helds frame cells kept (has members) closed (part_of (has members) rules helds frame cells) part_is ms cone.target lt member d e)

    pub stopped_told : (r : Result ℤ DifferenceFault) → IfErr r (λ stop. IsStopped (part_graph (asked_of base).part) (value_in (asked_of base).part) (after_in (asked_of base)) cone.target stop)
        → IfErr r (λ stop. IsStopped (graph_of rules frame) (cell_of cells) (moved_to ms (cell_of cells)) cone.target stop)
    stopped_told r h = if_err r h (λ stop e. stopped_of rules helds frame cells kept (has members) closed (part_of (has members) rules helds frame cells) part_is ms cone.target lt member stop e)

    pub steps_told : (steps : ℕ) → IsPaid (asked_of base) steps → IsWithin (graph_of rules frame) (cell_of cells) (moved_to ms (cell_of cells)) (is_moved ms) (uses_in frame) base steps
    steps_told steps paid = within_of rules helds frame cells kept (has members) closed (part_of (has members) rules helds frame cells) part_is ms base steps paid

    pub below_told : (steps : ℕ) → IsPaid (asked_of base) steps
        → IsWithinBelow (graph_of rules frame) cone.target (cell_of cells) (moved_to ms (cell_of cells)) (is_moved ms) (uses_in frame) base steps
    below_told steps paid = below_within rules helds frame cells kept (has members) closed (part_of (has members) rules helds frame cells) part_is ms base steps paid cone.target exact
