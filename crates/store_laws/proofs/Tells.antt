-- What a trial tells at the target of a system or an objective is the model's delta.
use Rattle.std.proofs.Common.{◌≡◌, inl, inr, ℕ, ℤ, pos, ◌-ℤ◌, ◌<◌, ◌≤◌, false, List, ◌++◌, length, Result, Ok, Err, sym, ap, ◌∙◌, subst, arith}
use Rattle.std.proofs.lemmas.Bool.{cases_lt}
use Rattle.std.specs.Prelude.{if◌then◌else◌, slice_set, slice_index_or, IfOk, IfErr}
use Rattle.cbl_base.specs.Arithmetic.{exact}
use Rattle.cbl_base.specs.NumberRule.{NumberRule}
use Rattle.cbl_base.specs.declared.faults.RunFault.{RunFault}
use Rattle.cbl_base.specs.declared.faults.RunFault.TheVariants.{DefinedVariable}
use Rattle.cbl_base.specs.declared.ids.VarId.{VarId}
use Rattle.cbl_base.specs.declared.input.Input.{Input}
use Rattle.cbl_base.specs.declared.input.Input.TheVariants.{Int}
use Rattle.inc_store.specs.Moves.{moved_to}
use Rattle.model_values.specs.Asked.{answer_of}
use Rattle.model_values.specs.Delta.{delta_of, difference, moved, moves_defined, value_of}
use Rattle.model_values.specs.VarOutcomes.{outcome_of_var}
use Rattle.model_values.specs.Wholes.{IsOf}
use Rattle.model_values.specs.declared.asked.AskStop.{AskStop}
use Rattle.model_values.specs.declared.asked.AskStop.TheVariants.{Run, Fault}
use Rattle.model_values.specs.declared.deltas.Move.{Move}
use Rattle.model_values.specs.declared.deltas.Move.TheVariants.{Assign, Swap}
use Rattle.model_values.specs.declared.wholes.Whole.{Whole}
use Rattle.store_build.specs.Aims.{start_of}
use Rattle.store_turns.specs.Meaning.{Graph, IsMeaning}
use Rattle.store_turns.specs.declared.outcome.Outcome.{Outcome}
use Rattle.store_turns.specs.declared.outcome.Outcome.TheVariants.{Value, Fails}
use Rattle.term_model.specs.declared.model.Model.{Model}
use Rattle.trial.specs.Differences.{AreNumbers, FailsBelow, IsDifference, IsStopped}
use Rattle.trial.specs.declared.fault.DifferenceFault.{DifferenceFault}
use Rattle.trial.specs.declared.fault.DifferenceFault.TheVariants.{Node, Difference, NoMemory}
use Rattle.graph_values.specs.Links.{AreAssigned}
use Rattle.graph_values.specs.Graphs.{HoldsTerms}
use Rattle.graph_values.specs.Members.{cells_of, numbers_of, variables_of, weights_of}
use Rattle.graph_values.specs.Outcomes.{IsGiven, fresh_at}
use Rattle.graph_values.specs.Totals.{HoldsModel}
use Rattle.graph_values.proofs.FirstFailing.{var_fails}
use Rattle.graph_values.proofs.FreshMeaning.{at_var, at_weight}
use Rattle.graph_values.proofs.Held.{same_fresh}
use Rattle.graph_values.proofs.Stores.{meaning_assigned}
use Rattle.graph_values.proofs.WeightCells.{length_numbers}
use Rattle.model_store.specs.Settings.{AreOfVariables, numbers_after}
use Rattle.model_store.proofs.StoreLemmas.{length-numbers_after, numbers_before, start_moved}
use Rattle.store_laws.specs.Deltas.{HasFreeCells, IsFailureAt, IsMoveOf, IsProper, IsTarget, IsTold}
use Rattle.store_laws.proofs.Failing.{repeat_fails, repeat_has, whole_fails, whole_value}

-- ---- the numbers after a move
-- the moves of a change are of variables
pub of_variables : (M : Model) (a : List ℤ) (change : Move) (ms : List (VarId × ℤ)) → IsMoveOf a change ms → IsProper M change → AreOfVariables M ms
of_variables M a (Assign var value) ms is own = subst (λ ns. AreOfVariables M ns) (sym is.2) (subst (λ i. i < variables_of M) (sym is.1) own, tt)
of_variables M a (Swap left right) ms is own =
    subst (λ ns. AreOfVariables M ns) (sym is.4) (subst (λ i. i < variables_of M) (sym is.2) own.1, (subst (λ i. i < variables_of M) (sym is.3) own.0, tt))

moved_numbers : (a : List ℤ) (move : Move) (ms : List (VarId × ℤ)) → IsMoveOf a move ms → numbers_after ms a ≡ moved a move
moved_numbers a (Assign var value) ms is = ap (λ ns. numbers_after ns a) is.2 ∙ ap (λ i. slice_set a i value) is.1
moved_numbers a (Swap left right) ms is =
    ap (λ ns. numbers_after ns a) is.4
    ∙ ap (λ i. slice_set (slice_set a is.1.index (slice_index_or a right (pos 0))) i (slice_index_or a left (pos 0))) is.2
    ∙ ap (λ i. slice_set (slice_set a i (slice_index_or a right (pos 0))) right (slice_index_or a left (pos 0))) is.3

length_moved : (a : List ℤ) (move : Move) (ms : List (VarId × ℤ)) → IsMoveOf a move ms → length (moved a move) ≡ length a
length_moved a move ms is = ap (λ ns. length ns) (sym (moved_numbers a move ms is)) ∙ length-numbers_after ms a

module _ (M : Model) (g : Graph) (a : List ℤ) (free : ℕ → Input) (cells : HasFreeCells M g) (long : length a ≡ length M.vars.items) (assigned : AreAssigned g (numbers_of M a) free) (move : Move) (ms : List (VarId × ℤ)) (is : IsMoveOf a move ms) where
  pub assigned_after : IsProper M move → AreAssigned g (numbers_of M (moved a move)) (moved_to ms free)
  assigned_after proper id lt is-free =
      let low = cells id lt is-free in
      let count = length_numbers M a long in
      start_moved (numbers_of M a) free id ms (assigned id lt is-free) (omega (arith, low, count))
      ∙ ap (λ ns. start_of ns id) (numbers_before M a (weights_of M) ms long (of_variables M a move ms is proper) ∙ ap (λ ns. ns ++ weights_of M) (moved_numbers a move ms is))

  pub given_after : IsGiven M a → IsGiven M (moved a move)
  given_after given = record { formed = given.formed; acyclic = given.acyclic; long = length_moved a move ms is ∙ given.long }

-- ---- no cell fails
module _ (users : ℕ → NumberRule) (M : Model) (a : List ℤ) (given : IsGiven M a) (g : Graph) (holds : HoldsTerms users M g) (o : ℕ → Outcome) (meaning : IsMeaning g (start_of (numbers_of M a)) o) where
  cell_never : (id : ℕ) (fault : RunFault) → id < cells_of M → o id ≡ Fails fault → ⊥
  cell_never id fault lt e = elim (cases_lt id (variables_of M)) [
    | inl var ↦ var_fails users (outcome_of_var users M a) id fault (sym (fresh id lt ∙ at_var users M a id var) ∙ e)
    | inr weight ↦ (let c : Value (start_of (numbers_of M a) id) ≡ Fails fault = sym (fresh id lt ∙ at_weight users M a id (omega (arith, weight)) lt) ∙ e in cc)
  ]
    where
      fresh : (id : ℕ) → id < cells_of M → o id ≡ fresh_at users M a id
      fresh id lt = same_fresh users M a given.formed given.acyclic given.long g holds o meaning id (omega (arith, lt))

  -- so an id that fails is a node's
  pub fails_behind : (id : ℕ) (fault : RunFault) → o id ≡ Fails fault → cells_of M ≤ id
  fails_behind id fault e = elim (cases_lt id (cells_of M)) [ inl low ↦ absurd (cell_never id fault low e) | inr high ↦ omega (arith, high) ]

-- ---- in a graph that holds the model
module _ (users : ℕ → NumberRule) (M : Model) (g : Graph) (id_of_total : Whole → ℕ) (holds : HoldsModel users M g id_of_total) (whole : Whole) (there : IsOf M whole) (target : ℕ) (is : IsTarget g id_of_total whole target) where
  -- what the target comes to is the whole's value
  pub has_value : (a : List ℤ) → IsGiven M a → (free : ℕ → Input) → AreAssigned g (numbers_of M a) free → (o : ℕ → Outcome) → IsMeaning g free o → (x : ℤ) → o target ≡ Value (Int x) → value_of users M a whole ≡ Ok x
  has_value a given free assigned o meaning x e =
      let own = meaning_assigned g (numbers_of M a) free o assigned meaning in
      elim is [
        | inl same ↦ whole_value users M a given.formed given.acyclic given.long g id_of_total holds o own whole there x (ap o (sym same) ∙ e)
        | inr again ↦ repeat_has users M a given.formed given.acyclic given.long g id_of_total holds o own whole there target again x e
      ]

  -- and where an id on which it stands fails, the least of these is the whole's failure
  pub has_failure : (a : List ℤ) → IsGiven M a → (free : ℕ → Input) → AreAssigned g (numbers_of M a) free → (o : ℕ → Outcome) → IsMeaning g free o → (id : ℕ) (fault : RunFault) → FailsBelow g o target id fault → IsFailureAt users M a id_of_total whole id fault
  has_failure a given free assigned o meaning id fault first =
      let own = meaning_assigned g (numbers_of M a) free o assigned meaning in
      elim is [
        | inl same ↦ whole_fails users M a given.formed given.acyclic given.long g id_of_total holds o own whole there id fault (subst (λ t. FailsBelow g o t id fault) same first)
        | inr again ↦ whole_fails users M a given.formed given.acyclic given.long g id_of_total holds o own whole there id fault
            (repeat_fails users M a given.formed given.acyclic given.long g id_of_total holds o own whole there target again id fault first)
      ]

  -- ---- the delta
  module _ (a : List ℤ) (given : IsGiven M a) (free : ℕ → Input) (assigned : AreAssigned g (numbers_of M a) free) (cells : HasFreeCells M g) (move : Move) (proper : IsProper M move) (undefined : moves_defined M move ≡ false) (ms : List (VarId × ℤ)) (of : IsMoveOf a move ms) where
    abbrev after : List ℤ
    after = moved a move

    abbrev answer : Result ℤ AskStop
    answer = delta_of users M a whole move

    answer_is : answer ≡ difference (value_of users M after whole) (value_of users M a whole)
    answer_is = ap (λ b. if b then Err (Run DefinedVariable) else difference (value_of users M after whole) (value_of users M a whole)) undefined

    given' : IsGiven M after
    given' = given_after M g a free cells given.long assigned move ms of given

    assigned' : AreAssigned g (numbers_of M after) (moved_to ms free)
    assigned' = assigned_after M g a free cells given.long assigned move ms of proper

    from_numbers : (x y : ℤ) → AreNumbers g free (moved_to ms free) target x y → answer ≡ answer_of (exact (y -ℤ x))
    from_numbers x y n =
        answer_is
        ∙ ap (λ r. difference r (value_of users M a whole)) (has_value after given' (moved_to ms free) assigned' n.outcome_after n.meaning_after y n.has)
        ∙ ap (difference (Ok y)) (has_value a given free assigned n.outcome n.meaning x n.had)

    told_difference : (d : ℤ) → IsDifference g free (moved_to ms free) target d → answer ≡ Ok d
    told_difference d h = from_numbers h.0 h.1 h.2 ∙ ap answer_of h.3

    told_stop : (stop : DifferenceFault) → IsStopped g free (moved_to ms free) target stop → IsTold M id_of_total answer (Err stop)
    told_stop (Node node fault) h =
        let f = has_failure after given' (moved_to ms free) assigned' h.0 h.1 node.0 fault h.2 in
        let own = meaning_assigned g (numbers_of M after) (moved_to ms free) h.0 assigned' h.1 in
        (fails_behind users M after given' g holds.terms h.0 own node.0 fault h.2.here, f.failure.place, f.place, answer_is ∙ ap (λ r. difference r (value_of users M a whole)) f.value ∙ ap (λ e. Err (Fault f.failure.place e)) f.fault)
    told_stop (Difference fault) h = from_numbers h.0 h.1 h.2 ∙ ap answer_of h.3
    told_stop NoMemory h = tt

    pub told : (result : Result ℤ DifferenceFault) → IfOk result (λ d. IsDifference g free (moved_to ms free) target d) → IfErr result (λ stop. IsStopped g free (moved_to ms free) target stop) → IsTold M id_of_total answer result
    told (Ok d) ok err = told_difference d ok
    told (Err stop) ok err = told_stop stop err
