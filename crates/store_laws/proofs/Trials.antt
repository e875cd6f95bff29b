-- A trial may be asked of a store that holds a model: the moves are of free cells, and the target is a number.
use Rattle.std.proofs.Common.{◌≡◌, ◌≢◌, inl, inr, ℕ, ℤ, suc, ◌+◌, ◌*◌, ◌<◌, ◌≤◌, All, Bool, true, false, cond, nat_lt, ◌||◌, List, [], Option, Some, None, is_some, Result, Ok, Err, refl, sym, ap, ◌∙◌, subst, arith}
use Rattle.std.specs.Prelude.{nat_eq, IfOk, IfErr}
use Rattle.std.specs.Option.{option_and_then}
use Rattle.std.proofs.lemmas.Bool.{and_parts, ltb-true}
use Rattle.cbl_base.specs.Inputs.{kind_of, number_kind}
use Rattle.cbl_base.specs.NodeLaw.{Rule}
use Rattle.cbl_base.specs.NumberRule.{NumberRule}
use Rattle.cbl_base.specs.declared.ids.VarId.{VarId}
use Rattle.cbl_base.specs.declared.input.Input.{Input}
use Rattle.cbl_base.specs.declared.input.Input.TheVariants.{Int}
use Rattle.inc_store.specs.Moves.{AreMoves, is_moved, moved_to}
use Rattle.inc_store.specs.Views.{count_of, graph_in, value_at}
use Rattle.inc_store.specs.declared.store.Store.{Store}
use Rattle.model_values.specs.Delta.{delta_of, moved, moves_defined}
use Rattle.model_values.specs.VarOutcomes.{outcome_of_var}
use Rattle.model_values.specs.Wholes.{IsOf, place_of, sum_in}
use Rattle.model_values.specs.declared.deltas.Move.{Move}
use Rattle.model_values.specs.declared.deltas.Move.TheVariants.{Assign, Swap}
use Rattle.model_values.specs.declared.failure.Failure.{Failure}
use Rattle.model_values.specs.declared.wholes.Whole.{Whole}
use Rattle.store_build.proofs.GatherLemmas.{before_first}
use Rattle.cbl_base.specs.declared.ids.NodeId.{NodeId}
use Rattle.inc_store.specs.Stores.{IsWithin}
use Rattle.store_build.proofs.Existence.{exists}
use Rattle.store_turns.specs.Meaning.{Graph, IsMeaning, is_empty, inputs_in, layer_of, outcome_at, uses_in}
use Rattle.store_turns.specs.declared.outcome.Outcome.{Outcome}
use Rattle.store_turns.specs.declared.outcome.Outcome.TheVariants.{Value, Fails, Missing}
use Rattle.term_count.proofs.PlaceLaws.{both}
use Rattle.term_model.specs.Definitions.{definition_of, term_of}
use Rattle.term_model.specs.declared.model.Model.{Model}
use Rattle.trial.specs.Differences.{IsDifference, IsStopped}
use Rattle.trial.specs.declared.fault.DifferenceFault.{DifferenceFault}
use Rattle.graph_values.specs.Graphs.{HoldsTerms, inputs_of, inputs_of_cell, inputs_of_node, term_at}
use Rattle.graph_values.specs.Members.{cells_of, numbers_of, variables_of}
use Rattle.graph_values.specs.Totals.{came_repeat, came_total}
use Rattle.graph_values.proofs.ModelTotals.{repeat_is, total_is}
use Rattle.graph_values.proofs.Stores.{meaning_assigned}
use Rattle.model_store.specs.ModelStores.{IsStoreOf}
use Rattle.model_store.specs.Settings.{Setting, numbers_in, users_in}
use Rattle.store_laws.specs.Deltas.{HasFreeCells, IsMoveOf, IsProper, IsTarget, IsTold}
use Rattle.store_laws.specs.ModelTouch.{AreUses, IsWhole, model_touch}
use Rattle.store_laws.proofs.Tells.{assigned_after, given_after, told}
use Rattle.store_laws.proofs.Touches.{touch_same}

none_of : (o : Option ℕ) → is_some o ≡ false → o ≡ None
none_of None e = refl
none_of (Some d) e = let c : true ≡ false = e in cc

neither : (a b : Bool) → (a || b) ≡ false → (a ≡ false) × (b ≡ false)
neither true b e = let c : true ≡ false = e in cc
neither false b e = (refl, e)

not_same : (i j : ℕ) → i ≢ j → nat_eq i j ≡ false
not_same i j ne = by (nat_eq i j) refl
  where
    by : (b : Bool) → nat_eq i j ≡ b → b ≡ false
    by true e = absurd (ne (grind (arith, e)))
    by false e = refl

-- ---- moves
module _ (users : ℕ → NumberRule) (M : Model) (g : Graph) (holds : HoldsTerms users M g) where
  free_var : (i : ℕ) → i < variables_of M → definition_of M i ≡ None → g.is_free i ≡ true
  free_var i lt none =
      let inputs : inputs_of M i ≡ [] =
      ap (λ b. cond b (inputs_of_cell M (option_and_then (term_of M.defs.items) (definition_of M i))) (inputs_of_node M (term_at M i))) (before_first i (cells_of M) (omega (arith, lt)))
      ∙ ap (λ e. inputs_of_cell M (option_and_then (term_of M.defs.items) e)) none in
      holds.free i (omega (arith, lt)) ∙ both (nat_lt i (cells_of M)) (is_empty (inputs_of M i)) (before_first i (cells_of M) (omega (arith, lt))) (ap is_empty inputs)

  there : (i : ℕ) → i < variables_of M → i < g.size
  there i lt = let size = holds.size in omega (arith, lt, size)

  are_moves : (a : List ℤ) (move : Move) (ms : List (VarId × ℤ)) → IsMoveOf a move ms → IsProper M move → moves_defined M move ≡ false → AreMoves g ms
  are_moves a (Assign var value) ms is own free =
      subst (λ ns. AreMoves g ns) (sym is.2)
      (subst (λ i. i < g.size) (sym is.1) (there var own), ap g.is_free is.1 ∙ free_var var own (none_of (definition_of M var) free), refl, tt)
  are_moves a (Swap left right) ms is own free =
      let parts = neither (is_some (definition_of M left)) (is_some (definition_of M right)) free in
      subst (λ ns. AreMoves g ns) (sym is.4) (
        subst (λ i. i < g.size) (sym is.2) (there right own.1),
        ap g.is_free is.2 ∙ free_var right own.1 (none_of (definition_of M right) parts.1),
        ap (λ b. b || false) (not_same is.1.index is.0.index (λ e. own.2 (sym is.3 ∙ e ∙ is.2))),
        (subst (λ i. i < g.size) (sym is.3) (there left own.0), ap g.is_free is.3 ∙ free_var left own.0 (none_of (definition_of M left) parts.0), refl, tt),
      )

-- ---- the target
total_number : (q : Option (Result ℤ Failure)) (x : Input) → Value x ≡ came_total q → kind_of x ≡ number_kind
total_number (Some (Ok z)) x e = ap kind_of (same x (Int z) e)
  where
    same : (x y : Input) → Value x ≡ Value y → x ≡ y
    same x y e = cc
total_number (Some (Err f)) x e = let c : Value x ≡ Fails f.fault = e in cc
total_number None x e = let c : Value x ≡ Missing = e in cc

repeat_number : (q : Option (Result ℤ Failure)) (x : Input) → Value x ≡ came_repeat q → kind_of x ≡ number_kind
repeat_number (Some (Ok z)) x e = ap kind_of (same x (Int z) e)
  where
    same : (x y : Input) → Value x ≡ Value y → x ≡ y
    same x y e = cc
repeat_number (Some (Err f)) x e = let c : Value x ≡ Missing = e in cc
repeat_number None x e = let c : Value x ≡ Missing = e in cc

module _ {N : Type 0} (rule : N → Rule) (held : N → List Input) (ready : N → Type 0) (setting : Setting) (s : Store N) (is : IsStoreOf rule held ready setting s) (whole : Whole) (own : IsOf setting.model whole) (target : ℕ)
    (aim : IsTarget (graph_in rule s) setting.total whole target) where
  abbrev M : Model
  M = setting.model

  abbrev g : Graph
  g = graph_in rule s

  pub target_within : target < count_of s
  target_within = elim aim [
    | inl same ↦ subst (λ t. t < count_of s) (sym same) (is.holds.totals whole own).within
    | inr again ↦ again.0
  ]

  meaning : IsMeaning g (λ j. value_at s j) (λ j. Value (value_at s j))
  meaning = is.usable.2.fresh

  pub target_number : kind_of (value_at s target) ≡ number_kind
  target_number =
      let fresh = meaning_assigned g (numbers_in setting) (λ j. value_at s j) (λ j. Value (value_at s j)) is.assigned meaning in
      let total = is.holds.totals whole own in
      elim aim [
        | inl same ↦ total_number (sum_in (users_in setting) M (outcome_of_var (users_in setting) M setting.assignment) whole (place_of M whole)) (value_at s target)
            (ap (λ t. Value (value_at s t)) same ∙ total_is (users_in setting) M setting.assignment is.given.formed is.given.acyclic is.given.long g is.holds.terms (λ j. Value (value_at s j)) fresh whole (setting.total whole) total (place_of M whole))
        | inr again ↦ repeat_number (sum_in (users_in setting) M (outcome_of_var (users_in setting) M setting.assignment) whole (place_of M whole)) (value_at s target)
            (repeat_is (users_in setting) M setting.assignment is.given.formed is.given.acyclic is.given.long g is.holds.terms (λ j. Value (value_at s j)) fresh whole (setting.total whole) total (place_of M whole) target again)
      ]

  free_cells : HasFreeCells M g
  free_cells id lt free =
      let low : id < s.frame.first = ltb-true id s.frame.first (and_parts (nat_lt id s.frame.first) (is_empty (inputs_in s.frame id)) free).0 in
      let first = is.cells in
      omega (arith, low, first)

  module _ (move : Move) (ms : List (VarId × ℤ)) (of : IsMoveOf setting.assignment move ms) (proper : IsProper M move) (undefined : moves_defined M move ≡ false) where
    pub may_move : AreMoves g ms
    may_move = are_moves (users_in setting) M g is.holds.terms setting.assignment move ms of proper undefined

    pub store_told : (result : Result ℤ DifferenceFault) → IfOk result (λ d. IsDifference g (value_at s) (moved_to ms (value_at s)) target d) → IfErr result (λ stop. IsStopped g (value_at s) (moved_to ms (value_at s)) target stop) →
        IsTold M setting.total (delta_of (users_in setting) M setting.assignment whole move) result
    store_told result ok err =
        told (users_in setting) M g setting.total is.holds whole own target aim setting.assignment is.given (value_at s) is.assigned free_cells move proper undefined ms of result ok err

    -- the steps, by what the move touches of the model
    pub model_steps : IsWhole (users_in setting) M g → (base steps : ℕ) → IsWithin g (value_at s) (moved_to ms (value_at s)) (is_moved ms) (uses_in s.frame) base steps →
        steps ≤ base + 4 * model_touch (users_in setting) M setting.assignment M (moved setting.assignment move) (is_moved ms)
    model_steps same base steps within =
        let framed = is.usable.2.framed in
        let o : ℕ → Outcome = λ id. outcome_at g (moved_to ms (value_at s)) (suc (layer_of s.frame id)) id in
        let meant : IsMeaning g (moved_to ms (value_at s)) o = exists g (layer_of s.frame) framed.shape.layers (moved_to ms (value_at s)) in
        let fresh = meaning_assigned g (numbers_in setting) (λ j. value_at s j) (λ j. Value (value_at s j)) is.assigned meaning in
        let moved' = meaning_assigned g (numbers_of M (moved setting.assignment move)) (moved_to ms (value_at s)) o (assigned_after M g setting.assignment (value_at s) free_cells is.given.long is.assigned move ms of proper) meant in
        let uses : AreUses g (uses_in s.frame) = record { are = framed.shape.uses_are; within = λ id. subst (λ (n : ℕ). All (λ (u : NodeId × ℕ). u.0.0 < n) (uses_in s.frame id)) framed.layers (framed.users id) } in
        let touches = touch_same (users_in setting) M M g same same setting.assignment (moved setting.assignment move) is.given (given_after M g setting.assignment (value_at s) free_cells is.given.long is.assigned move ms of is.given)
        (value_at s) fresh o moved' (uses_in s.frame) uses (is_moved ms) in
        subst (λ (n : ℕ). steps ≤ base + 4 * n) touches (within o meant)
