-- A store of a model, after moves of cells that make it one of another model over the same graph.
use Rattle.std.proofs.Common.{◌≡◌, ℕ, ℤ, ◌<◌, true, List, map, Ok, Err, sym, ap, ◌∙◌, subst}
use Rattle.std.specs.Prelude.{Result, OnOk}
use Rattle.cbl_base.specs.NodeLaw.{Rule}
use Rattle.cbl_base.specs.declared.ids.VarId.{VarId}
use Rattle.cbl_base.specs.declared.input.Input.{Input}
use Rattle.graph_values.specs.Links.{AreAssigned}
use Rattle.graph_values.specs.Members.{numbers_of}
use Rattle.graph_values.specs.Totals.{HoldsModel}
use Rattle.graph_values.proofs.Stores.{stop_fault}
use Rattle.inc_store.specs.Moves.{moved_to}
use Rattle.inc_store.specs.Views.{IsUsable, KeepsNodes, count_of, graph_in, value_at}
use Rattle.inc_store.specs.declared.store.Store.{Store}
use Rattle.store_build.specs.Aims.{start_of}
use Rattle.store_build.specs.Stops.{IsStop}
use Rattle.store_build.specs.declared.parts.StoreFault.{StoreFault}
use Rattle.store_turns.specs.Meaning.{graph_of}
use Rattle.store_turns.specs.declared.frame.Frame.{Frame}
use Rattle.term_model.specs.declared.model.Model.{Model}
use Rattle.model_store.specs.ModelStores.{IsFaultOf, IsStoreOf}
use Rattle.model_store.specs.Settings.{Setting, numbers_in, users_in}
use Rattle.model_store.specs.Weights.{AreWeightMoves, Weighing, weighed}
use Rattle.model_store.proofs.StoreLemmas.{free_within, start_moved}

module _ {N : Type 0} (rule : N → Rule) (held : N → List Input) (ready : N → Type 0) (w : Weighing) (s : Store N) (is : IsStoreOf rule held ready w.setting s) (ms : List (VarId × ℤ)) (changes : AreWeightMoves w (graph_in rule s) ms) where
  abbrev setting : Setting
  setting = w.setting

  abbrev M : Model
  M = w.model

  -- a free cell has its number of the other model
  pub changed_assigned : AreAssigned (graph_in rule s) (numbers_of M setting.assignment) (moved_to ms (value_at s))
  changed_assigned = λ id lt free.
      start_moved (numbers_in setting) (value_at s) id ms (is.assigned id lt free) (free_within rule held ready setting s is id free)
      ∙ ap (λ ns. start_of ns id) (sym changes.numbers)

  pub changed_fault : (stop : StoreFault) → IsStop (graph_in rule s) (moved_to ms (value_at s)) stop → IsFaultOf (weighed w) stop
  changed_fault stop first =
      stop_fault (users_in setting) M setting.assignment setting.total changes.given.formed changes.given.acyclic changes.given.long (graph_in rule s) (moved_to ms (value_at s)) stop changes.holds changed_assigned first

  changed_kept : (new : Store N) → IsUsable rule held ready new → KeepsNodes rule s new
      → ((j : ℕ) → j < count_of s → (graph_in rule s).is_free j ≡ true → value_at new j ≡ moved_to ms (value_at s) j) → IsStoreOf rule held ready (weighed w) new
  changed_kept new usable keeps moved =
      let same : graph_in rule new ≡ graph_in rule s = ap (λ (rs : List Rule). graph_of rs new.frame) keeps.0 ∙ ap (λ (f : Frame). graph_of (map rule s.nodes.items) f) keeps.1 in
      record {
        given = changes.given;
        usable = usable;
        cells = ap (λ (f : Frame). f.first) keeps.1 ∙ is.cells ∙ sym changes.cells;
        holds = subst (λ g. HoldsModel (users_in setting) M g setting.total) (sym same) changes.holds;
        assigned = subst (λ g. AreAssigned g (numbers_of M setting.assignment) (value_at new)) (sym same) (λ id lt free. moved id lt free ∙ changed_assigned id lt free);
      }

  pub changed_result : {A : Type 0} (new : Store N) (r : Result A StoreFault) → OnOk r (IsUsable rule held ready new) → OnOk r (KeepsNodes rule s new)
      → OnOk r ((j : ℕ) → j < count_of s → (graph_in rule s).is_free j ≡ true → value_at new j ≡ moved_to ms (value_at s) j) → OnOk r (IsStoreOf rule held ready (weighed w) new)
  changed_result new (Ok a) usable keeps moved = changed_kept new usable keeps moved
  changed_result new (Err stop) usable keeps moved = tt
