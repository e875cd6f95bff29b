-- What a store is, and what a commit makes of it.
use Rattle.std.specs.Prelude.{ℕ, suc, ◌+◌, ◌*◌, ◌≤◌, Bool, cond, List, [], ◌∷◌}
use Rattle.cbl_base.specs.NodeLaw.{Rule}
use Rattle.cbl_base.specs.declared.ids.NodeId.{NodeId}
use Rattle.cbl_base.specs.declared.input.Input.{Input}
use Rattle.store_turns.specs.declared.outcome.Outcome.{Outcome}
use Rattle.store_turns.specs.declared.outcome.Outcome.TheVariants.{Value}
use Rattle.store_turns.specs.declared.frame.Frame.{Frame}
use Rattle.store_turns.specs.Meaning.{Graph, IsMeaning, graph_of, uses_in}
use Rattle.store_turns.specs.Touch.{differs, touch}
use Rattle.inc_store.specs.Course.{Trace, changed_at}
use Rattle.inc_store.specs.declared.changed.NodeChange.{NodeChange}

-- the ids whose values are others, in order, with the old and the new value
abbrev pub changes_between : ℕ → List Input → List Input → List NodeChange
changes_between id [] news = []
changes_between id (x ∷ xs) [] = []
changes_between id (x ∷ xs) (y ∷ ys) = cond (differs (Value y) x) (changed_at id x y ∷ changes_between (suc id) xs ys) (changes_between (suc id) xs ys)

-- from the steps before to those after are at most four times what is touched, where the free cells get
-- these values: what ids come to is the meaning over them
abbrev pub IsWithin : Graph → (ℕ → Input) → (ℕ → Input) → (ℕ → Bool) → (ℕ → List (NodeId × ℕ)) → ℕ → ℕ → Type 0
IsWithin g before free moved uses base steps =
    (o : ℕ → Outcome) → IsMeaning g free o → steps ≤ base + 4 * touch moved (λ j. differs (o j) (before j)) g.inputs uses g.size

-- the same of a commit over these rules, by what it is measured by
abbrev pub IsInTime : List Rule → Frame → Trace → ℕ → Type 0
IsInTime rules frame trace steps = IsWithin (graph_of rules frame) trace.before trace.target trace.moved (uses_in frame) trace.base steps
