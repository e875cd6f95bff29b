-- The steps of a change to another model over the same graph, by what it touches of the models.
use Rattle.std.proofs.Common.{ℕ, ℤ, suc, ◌+◌, ◌*◌, ◌<◌, ◌≤◌, All, List, subst}
use Rattle.cbl_base.specs.NodeLaw.{Rule}
use Rattle.cbl_base.specs.declared.ids.NodeId.{NodeId}
use Rattle.cbl_base.specs.declared.ids.VarId.{VarId}
use Rattle.cbl_base.specs.declared.input.Input.{Input}
use Rattle.inc_store.specs.Moves.{is_moved, moved_to}
use Rattle.inc_store.specs.Views.{graph_in, value_at}
use Rattle.inc_store.specs.declared.store.Store.{Store}
use Rattle.store_build.specs.Aims.{start_of}
use Rattle.store_build.proofs.Existence.{exists}
use Rattle.store_turns.specs.Meaning.{Graph, IsMeaning, layer_of, outcome_at, uses_in}
use Rattle.store_turns.specs.declared.outcome.Outcome.{Outcome}
use Rattle.store_turns.specs.declared.outcome.Outcome.TheVariants.{Value}
use Rattle.graph_values.specs.Members.{numbers_of}
use Rattle.graph_values.proofs.Stores.{meaning_assigned}
use Rattle.model_store.specs.ModelStores.{AreFewSteps, IsStoreOf}
use Rattle.model_store.specs.Settings.{numbers_in, users_in}
use Rattle.model_store.specs.Weights.{AreWeightMoves, Weighing}
use Rattle.model_store.proofs.WeightStores.{changed_assigned}
use Rattle.store_laws.specs.ModelTouch.{AreUses, IsWhole, model_touch}
use Rattle.store_laws.proofs.Touches.{touch_same}

module _ {N : Type 0} (rule : N → Rule) (held : N → List Input) (ready : N → Type 0) (w : Weighing) (s : Store N) (is : IsStoreOf rule held ready w.setting s) (ms : List (VarId × ℤ)) (changes : AreWeightMoves w (graph_in rule s) ms) where
  abbrev g : Graph
  g = graph_in rule s

  abbrev a : List ℤ
  a = w.setting.assignment

  -- what the ids come to once the cells are moved
  pub moved_meaning : (o : ℕ → Outcome) → IsMeaning g (moved_to ms (value_at s)) o → IsMeaning g (start_of (numbers_of w.model a)) o
  moved_meaning o meant = meaning_assigned g (numbers_of w.model a) (moved_to ms (value_at s)) o (changed_assigned rule held ready w s is ms changes) meant

  pub weight_steps : IsWhole (users_in w.setting) w.setting.model g → IsWhole (users_in w.setting) w.model g → (base steps : ℕ) → AreFewSteps rule s ms base steps → steps ≤ base + 4 * model_touch (users_in w.setting) w.setting.model a w.model a (is_moved ms)
  weight_steps whole same base steps few =
      let framed = is.usable.2.framed in
      let o : ℕ → Outcome = λ id. outcome_at g (moved_to ms (value_at s)) (suc (layer_of s.frame id)) id in
      let meant : IsMeaning g (moved_to ms (value_at s)) o = exists g (layer_of s.frame) framed.shape.layers (moved_to ms (value_at s)) in
      let fresh = meaning_assigned g (numbers_in w.setting) (λ j. value_at s j) (λ j. Value (value_at s j)) is.assigned is.usable.2.fresh in
      let uses : AreUses g (uses_in s.frame) = record { are = framed.shape.uses_are; within = λ id. subst (λ (n : ℕ). All (λ (u : NodeId × ℕ). u.0.0 < n) (uses_in s.frame id)) framed.layers (framed.users id) } in
      let touches = touch_same (users_in w.setting) w.setting.model w.model g whole same a a is.given changes.given (value_at s) fresh o (moved_meaning o meant) (uses_in s.frame) uses (is_moved ms) in
      subst (λ (n : ℕ). steps ≤ base + 4 * n) touches (few o meant)
