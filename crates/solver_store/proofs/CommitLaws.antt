-- What a commit leaves closed, and what it tells.
use Rattle.std.proofs.Common.{◌≡◌, ℕ, ℤ, ◌+◌, ◌<◌, ◌≤◌, List, length, Some, sym, ap, ◌∙◌, subst, slice_get, arith}
use Rattle.std.specs.Prelude.{filter_map, pos, unwrap_or}
use Rattle.std.specs.List.{range_with_len}
use Rattle.std.specs.Option.{option_map}
use Rattle.std.proofs.lemmas.Option.{unwrap_or-slice_get}
use Rattle.cbl_base.specs.NodeLaw.{Rule}
use Rattle.cbl_base.specs.declared.ids.VarId.{VarId}
use Rattle.cbl_base.specs.declared.input.Input.{Input}
use Rattle.cbl_base.specs.declared.input.Input.TheVariants.{Int}
use Rattle.graph_values.specs.Links.{IsModelStop}
use Rattle.graph_values.specs.Members.{variables_of}
use Rattle.graph_values.specs.WholeGraphs.{total_id}
use Rattle.graph_values.proofs.Stores.{meaning_assigned}
use Rattle.inc_store.specs.Moves.{moved_to}
use Rattle.inc_store.specs.Stores.{changes_between}
use Rattle.inc_store.specs.Views.{KeepsNodes, graph_in, value_at}
use Rattle.inc_store.specs.declared.store.Store.{Store}
use Rattle.model_nodes.specs.StopPlaces.{IsBehind}
use Rattle.model_store.specs.ModelStores.{IsFaultOf, IsStoreOf, StopsMoved}
use Rattle.model_store.specs.Settings.{AreOfVariables, Setting, after, numbers_after, users_in}
use Rattle.model_store.proofs.StoreLemmas.{given_after, moves_assigned}
use Rattle.model_values.specs.declared.wholes.Whole.{Whole}
use Rattle.solver_models.specs.Changes.{change_between}
use Rattle.solver_models.specs.KeptChanges.{change_in}
use Rattle.solver_models.proofs.ListLaws.{filter_range, range_at, slice_map, slice_within}
use Rattle.store_build.specs.Frames.{cell_of}
use Rattle.store_build.specs.declared.parts.StoreFault.{StoreFault}
use Rattle.store_build.specs.declared.parts.StoreFault.TheVariants.{Node, NoMemory}
use Rattle.store_laws.specs.ModelTouch.{IsWhole}
use Rattle.store_laws.proofs.Tells.{fails_behind}
use Rattle.store_turns.specs.Meaning.{inputs_in}
use Rattle.store_turns.specs.declared.frame.Frame.{Frame}
use Rattle.term_model.specs.declared.model.Model.{Model}
use Rattle.solver_store.specs.Closed.{IsClosed, vars_in}
use Rattle.solver_store.specs.FreeMoves.{AreFree}
use Rattle.solver_store.specs.ToldChanges.{variable_changes}
use Rattle.store_shares.specs.Made.{IsOrdered, IsSharesOf}
use Rattle.model_nodes.specs.Making.{ArePlaces}
use Rattle.graph_values.specs.Graphs.{id_of}
use Rattle.solver_store.specs.NodeRules.{AreRules}
use Rattle.solver_store.specs.declared.closed.Closed.{Closed}
use Rattle.solver_store.proofs.ChangesCut.{changes_cut}
use Rattle.solver_store.proofs.OwnMoves.{of_variables}

module _ {N : Type 0} (rule : N → Rule) (held : N → List Input) (ready : N → Type 0) (setting : Setting) (ms : List (VarId × ℤ)) (free : AreFree setting.model ms) where
  abbrev M : Model
  M = setting.model

  own : AreOfVariables M ms
  own = of_variables M ms free

  -- a fault of a commit is a node's
  pub stops_behind : (s : Store N) → IsStoreOf rule held ready setting s → IsWhole (users_in setting) M (graph_in rule s) → (stop : StoreFault) → StopsMoved rule s ms stop → IsBehind M stop
  stops_behind s is whole (Node node fault) first =
      let meant = meaning_assigned (graph_in rule s) _ (moved_to ms (value_at s)) first.outcome (moves_assigned rule held ready setting s is ms own) first.meaning in (
        fails_behind (users_in setting) M (numbers_after ms setting.assignment) (given_after setting ms is.given) (graph_in rule s) is.holds.terms first.outcome meant node.0 fault first.here.1,
        (let lt = first.here.0 in let size = whole.size in omega (arith, lt, size)),
      )
  stops_behind s is whole NoMemory first = tt

  pub fault_there : (stop : StoreFault) → setting.total ≡ total_id M → IsFaultOf (after ms setting) stop → IsModelStop (users_in setting) M (numbers_after ms setting.assignment) (total_id M) stop
  fault_there stop e h = subst (λ (total : Whole → ℕ). IsModelStop (users_in setting) M (numbers_after ms setting.assignment) total stop) e h

  -- what is closed stays closed
  pub closed_after : (old new : Closed N) → IsClosed rule held ready setting old → new.places.items ≡ old.places.items → new.shares ≡ old.shares → KeepsNodes rule old.store new.store → IsStoreOf rule held ready (after ms setting) new.store → IsWhole (users_in setting) M (graph_in rule new.store) →
      IsClosed rule held ready (after ms setting) new
  closed_after old new is places shares keeps store whole = record {
    given = (given_after setting ms is.given.0, is.given.1);
    total = is.total;
    store = store;
    whole = whole;
    rules = subst (AreRules (users_in setting) M) (sym keeps.0) is.rules;
    short = λ id. subst (λ (f : Frame). length (inputs_in f id) ≤ 4294967296) (sym keeps.1) (is.short id);
    placed = ap length places ∙ is.placed;
    places = subst (ArePlaces M) (sym places) is.places;
    ordered = subst IsOrdered (sym shares) is.ordered;
    shares = subst (IsSharesOf M (id_of M)) (sym shares) is.shares;
  }

-- ---- the changes
cell_there : (cells : List Input) (i : ℕ) → i < length cells → slice_get cells i ≡ Some (cell_of cells i)
cell_there cells i lt =
    let found = slice_within cells i lt in
    found.1 ∙ ap Some (sym (sym (unwrap_or-slice_get cells i (Int (pos 0))) ∙ ap (λ o. unwrap_or o (Int (pos 0))) found.1))

var_there : {N : Type 0} (M : Model) (c : Closed N) (i : ℕ) → i < variables_of M → slice_get (vars_in M c) i ≡ Some (value_at c.store i)
var_there M c i lt =
    slice_map (value_at c.store) (range_with_len 0 (variables_of M)) i ∙ ap (option_map (value_at c.store)) (range_at 0 (variables_of M) i lt)
    ∙ ap (λ j. Some (value_at c.store j)) (let z : 0 + i ≡ i = omega arith in z)

pub told_changes : {N : Type 0} (solver : ℕ) (M : Model) (old new : Closed N) (olds news : List Input) → olds ≡ old.store.cells → news ≡ new.store.cells → variables_of M ≤ length olds → length news ≡ length olds
    → variable_changes solver (variables_of M) (changes_between 0 olds news) ≡ filter_map (change_in solver (vars_in M old) (vars_in M new)) (range_with_len 0 (variables_of M))
told_changes solver M old new olds news e f few same =
    changes_cut solver (variables_of M) olds news few same
    ∙ filter_range (change_in solver olds news) (change_in solver (vars_in M old) (vars_in M new)) 0 (variables_of M) (λ i le lt.
    ap (λ o. change_between (record { solver = solver; index = i }) o (slice_get news i))
    (cell_there olds i (omega (arith, lt, few)) ∙ ap (λ cs. Some (cell_of cs i)) e ∙ sym (var_there M old i (omega (arith, lt))))
    ∙ ap (change_between (record { solver = solver; index = i }) (slice_get (vars_in M old) i))
    (cell_there news i (omega (arith, lt, few, same)) ∙ ap (λ cs. Some (cell_of cs i)) f ∙ sym (var_there M new i (omega (arith, lt)))))
