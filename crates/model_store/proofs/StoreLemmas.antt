-- A store of what is given for a model holds the model, and has its values or its fault, from the start and after moves.
use Rattle.std.proofs.Common.{pos, arith, nat_lt, ◌≡◌, ℕ, ℤ, ◌<◌, true, false, Bool, nat_eq, List, [], ◌∷◌, ◌++◌, map, length, Vec, Ok, Err, refl, sym, ap, ◌∙◌, subst}
use Rattle.std.specs.Prelude.{slice_set, Result, IsOk, IsErr, IfOk, IfErr, OnOk}
use Rattle.std.specs.declared.alloc.Global.{Global}
use Rattle.std.proofs.lemmas.Bool.{eqb-true, eqb-false, ltb-true, cond-true, cond-false, and_parts}
use Rattle.std.proofs.lemmas.List.{get_or-set_other, length-set, set-append_left}
use Rattle.std.proofs.lemmas.Grind.{get_or-set_at}
use Rattle.cbl_base.specs.NodeLaw.{Rule}
use Rattle.cbl_base.specs.declared.ids.NodeId.{NodeId}
use Rattle.cbl_base.specs.declared.ids.VarId.{VarId}
use Rattle.cbl_base.specs.declared.input.Input.{Input}
use Rattle.cbl_base.specs.declared.input.Input.TheVariants.{Int}
use Rattle.graph_values.specs.Links.{AreAssigned}
use Rattle.graph_values.specs.Members.{cells_of, variables_of, weights_of}
use Rattle.graph_values.specs.Outcomes.{IsGiven}
use Rattle.graph_values.specs.Totals.{HoldsModel}
use Rattle.graph_values.proofs.Stores.{kept_values, meaning_assigned, model_links_hold, stop_fault}
use Rattle.graph_values.proofs.TakenLinks.{all_take}
use Rattle.graph_values.proofs.WeightCells.{length_numbers}
use Rattle.inc_store.specs.Moves.{moved_to}
use Rattle.inc_store.specs.Views.{IsUsable, KeepsNodes, count_of, first_of, graph_in, value_at}
use Rattle.inc_store.specs.declared.store.Store.{Store}
use Rattle.model_values.specs.Fresh.{Fresh}
use Rattle.model_values.specs.declared.failure.Failure.{Failure}
use Rattle.store_build.specs.Aims.{Takes, graph_over, start_of}
use Rattle.store_build.specs.Stops.{IsStop}
use Rattle.store_build.specs.declared.parts.StoreFault.{StoreFault}
use Rattle.store_build.specs.declared.parts.StoreFault.TheVariants.{Node, NoMemory}
use Rattle.store_turns.specs.Meaning.{Graph, IsMeaning, graph_of, inputs_in, is_empty}
use Rattle.store_turns.specs.declared.frame.Frame.{Frame}
use Rattle.store_turns.specs.declared.outcome.Outcome.{Outcome}
use Rattle.term_model.specs.declared.model.Model.{Model}
use Rattle.model_store.specs.ModelStores.{Agrees, IsFaultOf, IsStoreOf, values_in}
use Rattle.model_store.specs.Settings.{AreNodesOf, AreOfVariables, AreStartsOf, IsSetting, Setting, after, fresh_in, numbers_after, numbers_in, users_in}

-- ---- the numbers after moves
pub length-numbers_after : (ms : List (VarId × ℤ)) (a : List ℤ) → length (numbers_after ms a) ≡ length a
length-numbers_after [] a = refl
length-numbers_after (m ∷ ms) a = length-set (numbers_after ms a) m.0.index m.1 ∙ length-numbers_after ms a

pub given_after : (setting : Setting) (ms : List (VarId × ℤ)) → IsGiven setting.model setting.assignment → IsGiven setting.model (numbers_after ms setting.assignment)
given_after setting ms given = record {
  formed = given.formed;
  acyclic = given.acyclic;
  long = length-numbers_after ms setting.assignment ∙ given.long;
}

-- moves of variables leave the weights behind them
pub numbers_before : (M : Model) (a ws : List ℤ) (ms : List (VarId × ℤ)) → length a ≡ variables_of M → AreOfVariables M ms → numbers_after ms (a ++ ws) ≡ numbers_after ms a ++ ws
numbers_before M a ws [] long own = refl
numbers_before M a ws (m ∷ ms) long own =
    let low = own.0 in
    let same = length-numbers_after ms a in
    ap (λ ns. slice_set ns m.0.index m.1) (numbers_before M a ws ms long own.1) ∙ set-append_left (numbers_after ms a) ws m.0.index m.1 (omega (arith, low, same, long))

-- a cell that held a number holds the one after the moves
pub start_moved : (a : List ℤ) (free : ℕ → Input) (id : ℕ) (ms : List (VarId × ℤ)) → free id ≡ start_of a id → id < length a → moved_to ms free id ≡ start_of (numbers_after ms a) id
start_moved a free id [] is lt = is
start_moved a free id (m ∷ ms) is lt = by (nat_eq m.0.index id) refl (start_moved a free id ms is lt)
  where
    by : (b : Bool) → nat_eq m.0.index id ≡ b → moved_to ms free id ≡ start_of (numbers_after ms a) id → moved_to (m ∷ ms) free id ≡ start_of (numbers_after (m ∷ ms) a) id
    by true e before =
        let same : id ≡ m.0.index = sym (eqb-true m.0.index id e) in
        cond-true (nat_eq m.0.index id) (Int m.1) (moved_to ms free id) e
        ∙ ap (λ x. Int x) (sym (get_or-set_at (numbers_after ms a) m.0.index id m.1 (pos 0) same (let long = length-numbers_after ms a in omega (arith, lt, long, same))))
    by false e before =
        cond-false (nat_eq m.0.index id) (Int m.1) (moved_to ms free id) e ∙ before
        ∙ ap (λ x. Int x) (sym (get_or-set_other (numbers_after ms a) m.0.index id m.1 (pos 0) (λ same. eqb-false m.0.index id e (sym same))))

-- ---- what is given for a model
module _ (setting : Setting) (rules : List Rule) (start : List ℤ) (inputs : List (Vec NodeId Global)) (nodes : AreNodesOf setting rules inputs) (starts : AreStartsOf setting rules start inputs) where
  abbrev given_graph : Graph
  given_graph = graph_over rules (length start) inputs

  pub given_takes : IsSetting setting → (o : ℕ → Outcome) → IsMeaning given_graph (start_of start) o → Takes rules (length start) inputs o
  given_takes is o meaning =
      let own : IsMeaning (graph_over rules (cells_of setting.model) inputs) (start_of (numbers_in setting)) o =
      subst (λ (n : ℕ). IsMeaning (graph_over rules n inputs) (start_of (numbers_in setting)) o) starts.0 (meaning_assigned given_graph (numbers_in setting) (start_of start) o starts.1 meaning) in
      subst (λ (n : ℕ). Takes rules n inputs o) (sym starts.0)
      (all_take setting.viol_of setting.viol_at setting.model setting.assignment is.0.formed is.0.acyclic is.0.long is.1 rules inputs setting.total nodes.0 nodes.1 o own)

  given_holds : HoldsModel (users_in setting) setting.model given_graph setting.total
  given_holds =
      subst (λ (n : ℕ). HoldsModel (users_in setting) setting.model (graph_over rules n inputs) setting.total) (sym starts.0)
      (model_links_hold (users_in setting) setting.model rules inputs setting.total nodes.0)

  pub given_fault : IsGiven setting.model setting.assignment → (stop : StoreFault) → IsStop given_graph (start_of start) stop → IsFaultOf setting stop
  given_fault given stop first =
      stop_fault (users_in setting) setting.model setting.assignment setting.total given.formed given.acyclic given.long given_graph (start_of start) stop given_holds starts.1 first

-- ---- what a store of the model answers
module _ {N : Type 0} (rule : N → Rule) (held : N → List Input) (ready : N → Type 0) where
  -- one that was built of it
  built : (setting : Setting) (rules : List Rule) (start : List ℤ) (inputs : List (Vec NodeId Global)) → AreNodesOf setting rules inputs → AreStartsOf setting rules start inputs → IsGiven setting.model setting.assignment
      → (s : Store N) → IsUsable rule held ready s → first_of s ≡ length start → graph_in rule s ≡ graph_over rules (length start) inputs
      → ((j : ℕ) → j < length inputs → (graph_over rules (length start) inputs).is_free j ≡ true → value_at s j ≡ start_of start j) → IsStoreOf rule held ready setting s
  built setting rules start inputs nodes starts given s usable first graph free = record {
    given = given;
    usable = usable;
    cells = first ∙ starts.0;
    holds = subst (λ (g : Graph). HoldsModel (users_in setting) setting.model g setting.total) (sym graph) (given_holds setting rules start inputs nodes starts);
    assigned = subst (λ (g : Graph). AreAssigned g (numbers_in setting) (value_at s)) (sym graph) (λ id lt is. free id lt is ∙ starts.1 id lt is);
  }

  pub built_result : (setting : Setting) (rules : List Rule) (start : List ℤ) (inputs : List (Vec NodeId Global)) → AreNodesOf setting rules inputs → AreStartsOf setting rules start inputs → IsGiven setting.model setting.assignment
      → (r : Result (Store N) StoreFault) → IfOk r (λ s. IsUsable rule held ready s) → IfOk r (λ s. first_of s ≡ length start) → IfOk r (λ s. graph_in rule s ≡ graph_over rules (length start) inputs)
      → IfOk r (λ s. (j : ℕ) → j < length inputs → (graph_over rules (length start) inputs).is_free j ≡ true → value_at s j ≡ start_of start j) → IfOk r (λ s. IsStoreOf rule held ready setting s)
  built_result setting rules start inputs nodes starts given (Ok s) usable first graph free = built setting rules start inputs nodes starts given s usable first graph free
  built_result setting rules start inputs nodes starts given (Err stop) usable first graph free = tt

  -- its values are the model's
  pub has_values : (setting : Setting) (s : Store N) → IsStoreOf rule held ready setting s → fresh_in setting ≡ Ok (values_in setting s)
  has_values setting s is =
      kept_values (users_in setting) setting.model setting.assignment setting.total is.given.formed is.given.acyclic is.given.long (map rule s.nodes.items) (map held s.nodes.items) s.frame s.cells is.holds is.assigned is.usable.2

  -- ---- after moves
  -- a free cell is a variable's or a weight's
  pub free_within : (setting : Setting) (s : Store N) → IsStoreOf rule held ready setting s → (id : ℕ) → (graph_in rule s).is_free id ≡ true → id < length (numbers_in setting)
  free_within setting s is id free =
      let below : id < s.frame.first = ltb-true id s.frame.first (and_parts (nat_lt id s.frame.first) (is_empty (inputs_in s.frame id)) free).0 in
      let first = is.cells in
      let long = length_numbers setting.model setting.assignment is.given.long in
      omega (arith, below, first, long)

  pub moves_assigned : (setting : Setting) (s : Store N) → IsStoreOf rule held ready setting s → (ms : List (VarId × ℤ)) → AreOfVariables setting.model ms → AreAssigned (graph_in rule s) (numbers_in (after ms setting)) (moved_to ms (value_at s))
  moves_assigned setting s is ms own = λ id lt free.
      start_moved (numbers_in setting) (value_at s) id ms (is.assigned id lt free) (free_within setting s is id free)
      ∙ ap (λ ns. start_of ns id) (numbers_before setting.model setting.assignment (weights_of setting.model) ms is.given.long own)

  pub moves_fault : (setting : Setting) (s : Store N) → IsStoreOf rule held ready setting s → (ms : List (VarId × ℤ)) → AreOfVariables setting.model ms → (stop : StoreFault) → IsStop (graph_in rule s) (moved_to ms (value_at s)) stop → IsFaultOf (after ms setting) stop
  moves_fault setting s is ms own stop first =
      let given = given_after setting ms is.given in
      stop_fault (users_in setting) setting.model (numbers_after ms setting.assignment) setting.total given.formed given.acyclic given.long (graph_in rule s) (moved_to ms (value_at s)) stop is.holds (moves_assigned setting s is ms own) first

  moves_kept : (setting : Setting) (old new : Store N) → IsStoreOf rule held ready setting old → (ms : List (VarId × ℤ)) → AreOfVariables setting.model ms → IsUsable rule held ready new → KeepsNodes rule old new
      → ((j : ℕ) → j < count_of old → (graph_in rule old).is_free j ≡ true → value_at new j ≡ moved_to ms (value_at old) j) → IsStoreOf rule held ready (after ms setting) new
  moves_kept setting old new is ms own usable keeps moved =
      let same : graph_in rule new ≡ graph_in rule old = ap (λ (rs : List Rule). graph_of rs new.frame) keeps.0 ∙ ap (λ (f : Frame). graph_of (map rule old.nodes.items) f) keeps.1 in
      record {
        given = given_after setting ms is.given;
        usable = usable;
        cells = ap (λ (f : Frame). f.first) keeps.1 ∙ is.cells;
        holds = subst (λ (g : Graph). HoldsModel (users_in setting) setting.model g setting.total) (sym same) is.holds;
        assigned = subst (λ (g : Graph). AreAssigned g (numbers_in (after ms setting)) (value_at new)) (sym same) (λ id lt free. moved id lt free ∙ moves_assigned setting old is ms own id lt free);
      }

  pub moves_result : {A : Type 0} (setting : Setting) (old new : Store N) → IsStoreOf rule held ready setting old → (ms : List (VarId × ℤ)) → AreOfVariables setting.model ms → (r : Result A StoreFault) → OnOk r (IsUsable rule held ready new) → OnOk r (KeepsNodes rule old new)
      → OnOk r ((j : ℕ) → j < count_of old → (graph_in rule old).is_free j ≡ true → value_at new j ≡ moved_to ms (value_at old) j) → OnOk r (IsStoreOf rule held ready (after ms setting) new)
  moves_result setting old new is ms own (Ok a) usable keeps moved = moves_kept setting old new is ms own usable keeps moved
  moves_result setting old new is ms own (Err stop) usable keeps moved = tt

-- ---- an answer agrees with the model
pub agrees : {A : Type 0} (setting : Setting) (values : A → Fresh) (r : Result A StoreFault) → IfOk r (λ a. fresh_in setting ≡ Ok (values a)) → IfErr r (λ stop. IsFaultOf setting stop) → Agrees r (fresh_in setting)
agrees setting values (Ok a) ok err = subst (λ (f : Result Fresh Failure). IsOk f) (sym ok) refl
agrees setting values (Err (Node node fault)) ok err = subst (λ (f : Result Fresh Failure). IsErr f) (sym err.fresh) refl
agrees setting values (Err NoMemory) ok err = tt
