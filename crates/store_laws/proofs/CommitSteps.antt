-- The steps of a commit, by what its moves touch of the model.
use Rattle.std.proofs.Common.{◌≡◌, ℕ, ℤ, suc, ◌+◌, ◌*◌, ◌<◌, ◌≤◌, All, List, map, ap, ◌∙◌, subst}
use Rattle.cbl_base.specs.NodeLaw.{Rule}
use Rattle.cbl_base.specs.declared.ids.NodeId.{NodeId}
use Rattle.cbl_base.specs.declared.ids.VarId.{VarId}
use Rattle.cbl_base.specs.declared.input.Input.{Input}
use Rattle.inc_store.specs.Moves.{is_moved, moved_to}
use Rattle.inc_store.specs.Views.{KeepsNodes, graph_in, value_at}
use Rattle.inc_store.specs.declared.store.Store.{Store}
use Rattle.store_build.proofs.Existence.{exists}
use Rattle.store_turns.specs.Meaning.{Graph, IsMeaning, graph_of, layer_of, outcome_at, uses_in}
use Rattle.store_turns.specs.declared.frame.Frame.{Frame}
use Rattle.store_turns.specs.declared.outcome.Outcome.{Outcome}
use Rattle.store_turns.specs.declared.outcome.Outcome.TheVariants.{Value}
use Rattle.graph_values.specs.Members.{numbers_of}
use Rattle.graph_values.proofs.Stores.{meaning_assigned}
use Rattle.model_store.specs.ModelStores.{AreFewSteps, IsStoreOf}
use Rattle.model_store.specs.Settings.{AreOfVariables, Setting, numbers_after, numbers_in, users_in}
use Rattle.model_store.proofs.StoreLemmas.{given_after as model_given_after, moves_assigned}
use Rattle.store_laws.specs.ModelTouch.{AreUses, IsWhole, model_touch}
use Rattle.store_laws.proofs.Touches.{touch_same}

-- a store that keeps its nodes keeps its graph
pub same_graph : {N : Type 0} (rule : N → Rule) (old new : Store N) → KeepsNodes rule old new → graph_in rule new ≡ graph_in rule old
same_graph rule old new keeps = ap (λ (rs : List Rule). graph_of rs new.frame) keeps.0 ∙ ap (λ (f : Frame). graph_of (map rule old.nodes.items) f) keeps.1

module _ {N : Type 0} (rule : N → Rule) (held : N → List Input) (ready : N → Type 0) (setting : Setting) (s : Store N) (is : IsStoreOf rule held ready setting s) (ms : List (VarId × ℤ)) (own : AreOfVariables setting.model ms) where
  abbrev g : Graph
  g = graph_in rule s

  abbrev after : List ℤ
  after = numbers_after ms setting.assignment

  pub commit_steps : IsWhole (users_in setting) setting.model g → (base steps : ℕ) → AreFewSteps rule s ms base steps → steps ≤ base + 4 * model_touch (users_in setting) setting.model setting.assignment setting.model after (is_moved ms)
  commit_steps same base steps few =
      let framed = is.usable.2.framed in
      let o : ℕ → Outcome = λ id. outcome_at g (moved_to ms (value_at s)) (suc (layer_of s.frame id)) id in
      let meant : IsMeaning g (moved_to ms (value_at s)) o = exists g (layer_of s.frame) framed.shape.layers (moved_to ms (value_at s)) in
      let fresh = meaning_assigned g (numbers_in setting) (λ j. value_at s j) (λ j. Value (value_at s j)) is.assigned is.usable.2.fresh in
      let moved' = meaning_assigned g (numbers_of setting.model after) (moved_to ms (value_at s)) o (moves_assigned rule held ready setting s is ms own) meant in
      let uses : AreUses g (uses_in s.frame) = record { are = framed.shape.uses_are; within = λ id. subst (λ (n : ℕ). All (λ (u : NodeId × ℕ). u.0.0 < n) (uses_in s.frame id)) framed.layers (framed.users id) } in
      let touches = touch_same (users_in setting) setting.model setting.model g same same setting.assignment after is.given (model_given_after setting ms is.given) (value_at s) fresh o moved' (uses_in s.frame) uses (is_moved ms) in
      subst (λ (n : ℕ). steps ≤ base + 4 * n) touches (few o meant)
