-- What holds between the turns of a trial: it goes as a commit would that made the same moves, in cells
-- and nodes that are only imagined.
use Rattle.std.specs.Prelude.{◌≡◌, ℕ, ℤ, ◌<◌, ◌≤◌, false, List, length, map, Option, Some}
use Rattle.std.specs.BTreeMap.{BTreeMap, get}
use Rattle.std.specs.Ordering.{nat_cmp}
use Rattle.cbl_base.specs.Inputs.{kind_of}
use Rattle.cbl_base.specs.NodeLaw.{Rule}
use Rattle.cbl_base.specs.declared.ids.VarId.{VarId}
use Rattle.cbl_base.specs.declared.input.Input.{Input}
use Rattle.cbl_base.specs.declared.faults.RunFault.{RunFault}
use Rattle.store_turns.specs.declared.frame.Frame.{Frame}
use Rattle.store_turns.specs.declared.outcome.Outcome.{Outcome}
use Rattle.store_turns.specs.Cones.{Among}
use Rattle.store_turns.specs.Meaning.{IsMeaning, graph_of, inputs_in, layer_of}
use Rattle.store_turns.specs.Turns.{rank}
use Rattle.store_build.specs.Frames.{cell_of, held_of}
use Rattle.inc_store.specs.declared.changed.NodeChange.{NodeChange}
use Rattle.inc_store.specs.declared.course.Course.{Course}
use Rattle.inc_store.specs.Course.{InCourse, lost_or}
use Rattle.inc_store.specs.Moves.{moved_to, trace_of}
use Rattle.trial.specs.declared.overlay.Overlay.{Overlay}
use Rattle.trial.specs.Overlays.{new_or, root_in}

-- the course of that commit
abbrev pub course_of : Overlay → Course
course_of v = record { waiting = v.waiting; lost = v.lost; changes = v.changes }

-- what is asked, and the steps before
pub record Asked : Type 0 where
  pub moves : List (VarId × ℤ)
  pub base : ℕ

-- of each id is noted the least failing one on which its inputs stand, of those that are lost so far
pub record AreRoots (frame : Frame) (lost : BTreeMap ℕ (Option RunFault)) (roots : BTreeMap ℕ (ℕ × RunFault)) : Type 0 where
  pub among : (j : ℕ) (r : ℕ × RunFault) → get nat_cmp roots j ≡ Some r → (i : ℕ) × Among i (inputs_in frame j) × (root_in lost roots i ≡ Some r)
  pub least : (j i : ℕ) (r : ℕ × RunFault) → Among i (inputs_in frame j) → root_in lost roots i ≡ Some r → (s : ℕ × RunFault) × (get nat_cmp roots j ≡ Some s) × (s.0 ≤ r.0)

-- between two turns: the nodes hold their inputs' values now, as far as they are later
pub record InProbe (rules : List Rule) (frame : Frame) (cells : List Input) (ask : Asked) (v : Overlay) (Later : ℕ → Type 0) (steps : ℕ) : Type 0 where
  pub imagined : List Input
  pub helds : List (List Input)
  pub course : InCourse rules helds frame (trace_of cells ask.moves ask.base) imagined (course_of v) Later steps
  pub held : (j : ℕ) → j < length frame.inputs.items → (graph_of rules frame).is_free j ≡ false → Later j → held_of helds imagined frame j ≡ map (cell_of cells) (inputs_in frame j)
  pub roots : AreRoots frame v.lost v.roots

-- what an id came to
abbrev pub outcome_in : List Input → BTreeMap ℕ (Option RunFault) → BTreeMap ℕ NodeChange → ℕ → Outcome
outcome_in cells lost changes j = lost_or (get nat_cmp lost j) (new_or (get nat_cmp changes j) (cell_of cells j))

-- up to the target all ids have come to what they come to after the moves
pub record IsKnown (rules : List Rule) (frame : Frame) (cells : List Input) (ask : Asked) (lost : BTreeMap ℕ (Option RunFault)) (changes : BTreeMap ℕ NodeChange) (roots : BTreeMap ℕ (ℕ × RunFault)) (target : ℕ) : Type 0 where
  pub known : (o : ℕ → Outcome) → IsMeaning (graph_of rules frame) (moved_to ask.moves (cell_of cells)) o → (j : ℕ) → j < length frame.inputs.items → rank (layer_of frame) j ≤ rank (layer_of frame) target → outcome_in cells lost changes j ≡ o j
  pub kinded : (j : ℕ) → j < length frame.inputs.items → kind_of (new_or (get nat_cmp changes j) (cell_of cells j)) ≡ kind_of (cell_of cells j)
  pub are_roots : AreRoots frame lost roots
