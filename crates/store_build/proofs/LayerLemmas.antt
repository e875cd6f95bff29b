-- Layer by layer.
use Rattle.std.proofs.Common.{◌≡◌, ℕ, ◌+◌, ◌<◌, ◌≤◌, List, length, get_or, subst, inl, inr, arith, All, Vec}
use Rattle.std.specs.List.{Contains}
use Rattle.std.specs.declared.alloc.Global.{Global}
use Rattle.std.proofs.lemmas.Bool.{cases_lt}
use Rattle.cbl_base.specs.NodeLaw.{Rule}
use Rattle.cbl_base.specs.declared.input.Input.{Input}
use Rattle.store_turns.specs.declared.frame.Frame.{Frame}
use Rattle.store_turns.specs.Meaning.{AreLayers, Each, graph_of, inputs_in, layer_of}
use Rattle.store_turns.proofs.Unique.{each_from}
use Rattle.store_build.specs.declared.groups.Item.{Item}
use Rattle.store_build.specs.declared.building.Building.{Building}
use Rattle.store_build.specs.Lists.{list_in}
use Rattle.store_build.specs.Groups.{IsItem, IsGrouped, ids_in}
use Rattle.store_build.specs.Aims.{Aim}
use Rattle.store_build.specs.Building.{HasCome, IsFinished}
use Rattle.store_build.proofs.GroupLemmas.{in_past}

module _ {N : Type 0} (rule : N → Rule) (held : N → List Input) (ready : N → Type 0) (aim : Aim) (frame : Frame) (layers : AreLayers (graph_of aim.rules frame) (layer_of frame)) (groups : List (Vec (Item N) Global))
    (grouped : IsGrouped rule aim.rules frame.first frame.layers.items (length frame.inputs.items) groups) where
  -- the inputs of what stands in a layer have come to their outcomes
  pub inputs_came : (b : Building N) (l : ℕ) → ((k : ℕ) → k < length frame.inputs.items → layer_of frame k < l → IsFinished rule held ready aim frame b k)
      → All (λ i. IsItem rule aim.rules frame.first i × (i.id < length frame.inputs.items) × Each (HasCome aim.outcome b.outcomes.items) (inputs_in frame i.id)) (list_in groups l)
  inputs_came b l done = λ k d lt.
      let p = grouped.each l k d lt in (
        p.0,
        p.1,
        each_from (λ i. (i < length frame.inputs.items) × (layer_of frame i < layer_of frame (get_or (list_in groups l) k d).id)) (HasCome aim.outcome b.outcomes.items) (inputs_in frame (get_or (list_in groups l) k d).id)
            (λ i h. (done i h.0 (subst (λ (m : ℕ). layer_of frame i < m) p.2 h.1)).0) (layers (get_or (list_in groups l) k d).id p.1),
      )

  pub layer_more : (old new : Building N) (l : ℕ) → ((k : ℕ) → IsFinished rule held ready aim frame old k → IsFinished rule held ready aim frame new k) → ((k : ℕ) → Contains (ids_in (list_in groups l)) k → IsFinished rule held ready aim frame new k)
      → ((k : ℕ) → k < length frame.inputs.items → layer_of frame k < l → IsFinished rule held ready aim frame old k) → (k : ℕ) → k < length frame.inputs.items → layer_of frame k < l + 1 → IsFinished rule held ready aim frame new k
  layer_more old new l kept here done k lt low = elim (cases_lt (layer_of frame k) l) [
    | inl below ↦ kept k (done k lt below)
    | inr at ↦ (let e : layer_of frame k ≡ l = omega (arith, low, at) in here k (subst (λ (m : ℕ). Contains (ids_in (list_in groups m)) k) e (grouped.all k lt)))
  ]

  pub all_layers : (b : Building N) (l : ℕ) → length groups ≤ l → ((k : ℕ) → k < length frame.inputs.items → layer_of frame k < l → IsFinished rule held ready aim frame b k) → (k : ℕ) → k < length frame.inputs.items → IsFinished rule held ready aim frame b k
  all_layers b l le done k lt = elim (cases_lt (layer_of frame k) l) [
    | inl below ↦ done k lt below
    | inr past ↦ (let c = subst (λ (xs : List (Item N)). Contains (ids_in xs) k) (in_past groups (layer_of frame k) (omega (arith, le, past))) (grouped.all k lt) in let l = c.1 in absurd (omega (arith, l)))
  ]
