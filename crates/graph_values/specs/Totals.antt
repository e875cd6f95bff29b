-- A graph that holds all of a model: the ids of its graph, and behind them the totals of the systems and then those
-- of the objectives, in order of declaration. A total takes the values of its members in order of posting, and behind
-- them their weights, a system's each from its cell, an objective's each from a constant. All other ids behind the terms
-- are of nodes that never fail, as constants and the repeats of totals. A rule of this project.
use Rattle.std.specs.Prelude.{◌≡◌, ℕ, ℤ, ◌+◌, ◌<◌, ◌≤◌, ◌⊎◌, false, List, [], ◌∷◌, ◌++◌, length, map, Option, Some, None, Result, Ok, Err}
use Rattle.std.specs.List.{range_with_len}
use Rattle.cbl_base.specs.Inputs.{number_of}
use Rattle.cbl_base.specs.NumberRule.{NumberRule}
use Rattle.cbl_base.specs.declared.faults.RunFault.{RunFault}
use Rattle.cbl_base.specs.declared.input.Input.{Input}
use Rattle.cbl_base.specs.declared.input.Input.TheVariants.{Int}
use Rattle.cbl_base.specs.declared.place.Place.{Place}
use Rattle.cbl_violations.specs.Violations.Repeat.{repeat}
use Rattle.cbl_violations.specs.Violations.WeightedTotal.{weighted_total}
use Rattle.model_values.specs.Fresh.{Fresh, fresh_of}
use Rattle.model_values.specs.VarOutcomes.{outcome_of_var}
use Rattle.model_values.specs.Wholes.{IsOf, place_of as place_of_whole, sum_in}
use Rattle.model_values.specs.declared.failure.Failure.{Failure}
use Rattle.model_values.specs.declared.wholes.Whole.{Whole}
use Rattle.model_values.specs.declared.wholes.Whole.TheVariants.{System, Objective}
use Rattle.store_build.specs.Aims.{start_of}
use Rattle.store_turns.specs.Meaning.{Graph, IsMeaning}
use Rattle.store_turns.specs.declared.outcome.Outcome.{Outcome}
use Rattle.store_turns.specs.declared.outcome.Outcome.TheVariants.{Value, Fails, Missing}
use Rattle.term_model.specs.declared.model.Model.{Model}
use Rattle.term_model.specs.declared.posting.Side.TheVariants.{Systems, Objectives}
use Rattle.graph_values.specs.Graphs.{HoldsTerms, count_of, id_of}
use Rattle.graph_values.specs.LeastFaults.{place_at}
use Rattle.graph_values.specs.Members.{members_before, members_of, numbers_of, variables_of}

-- systems stand before objectives, each in order of declaration
abbrev pub Precedes : Whole → Whole → Type 0
Precedes (System s) (System t) = s < t
Precedes (System s) (Objective o) = Unit {0}
Precedes (Objective o) (System s) = ⊥
Precedes (Objective o) (Objective p) = o < p

-- ids whose nodes take nothing and have these numbers
abbrev pub IsConstant : Graph → ℕ → ℤ → Type 0
IsConstant g id x = (id < g.size) × (g.is_free id ≡ false) × (g.inputs id ≡ []) × (g.op id [] ≡ Ok (Int x))

abbrev pub AreConstants : Graph → List ℕ → List ℤ → Type 0
AreConstants g [] [] = Unit {0}
AreConstants g [] (x ∷ xs) = ⊥
AreConstants g (id ∷ ids) [] = ⊥
AreConstants g (id ∷ ids) (x ∷ xs) = IsConstant g id x × AreConstants g ids xs

-- the cells of the weights of a system's members; and where the constants of an objective's may stand, which is behind
-- the subterms
abbrev pub weight_ids : Model → Whole → List ℕ
weight_ids M (System s) = range_with_len (variables_of M + length (members_before M Systems s)) (length (members_of M (System s)))
weight_ids M (Objective o) = range_with_len (count_of M + length (members_before M Objectives o)) (length (members_of M (Objective o)))

-- the ids of the weights of a total's members
abbrev pub AreWeights : Model → Graph → Whole → List ℕ → Type 0
AreWeights M g (System s) ids = ids ≡ weight_ids M (System s)
AreWeights M g (Objective o) ids = AreConstants g ids (map (λ m. m.weight) (members_of M (Objective o)))

pub record IsTotal (M : Model) (g : Graph) (whole : Whole) (id : ℕ) : Type 0 where
  pub behind : count_of M ≤ id
  pub within : id < g.size
  pub bound : g.is_free id ≡ false
  pub weights : List ℕ
  pub weighed : AreWeights M g whole weights
  pub inputs : g.inputs id ≡ map (λ m. id_of M m.term) (members_of M whole) ++ weights
  pub op : (xs : List Input) → g.op id xs ≡ (weighted_total (length (members_of M whole))).value xs

abbrev pub NeverFails : Graph → ℕ → Type 0
NeverFails g id = (xs : List Input) (fault : RunFault) → g.op id xs ≡ Err fault → ⊥

-- a graph holds a model, with the total of each system and objective at this id
pub record HoldsModel (users : ℕ → NumberRule) (M : Model) (g : Graph) (id_of_total : Whole → ℕ) : Type 0 where
  pub terms : HoldsTerms users M g
  pub totals : (whole : Whole) → IsOf M whole → IsTotal M g whole (id_of_total whole)
  pub order : (one other : Whole) → IsOf M one → IsOf M other → Precedes one other → id_of_total one < id_of_total other
  pub others : (id : ℕ) → count_of M ≤ id → id < g.size → ((whole : Whole) × IsOf M whole × (id ≡ id_of_total whole)) ⊎ NeverFails g id

-- what a total comes to: nothing where a member has no value
abbrev pub came_total : Option (Result ℤ Failure) → Outcome
came_total (Some (Ok z)) = Value (Int z)
came_total (Some (Err failure)) = Fails failure.fault
came_total None = Missing

abbrev pub MeansTotals : (ℕ → NumberRule) → Model → List ℤ → Graph → (Whole → ℕ) → Type 0
MeansTotals users M a g id_of_total = (o : ℕ → Outcome) (whole : Whole) → IsMeaning g (start_of (numbers_of M a)) o → IsOf M whole →
    o (id_of_total whole) ≡ came_total (sum_in users M (outcome_of_var users M a) whole (place_of_whole M whole))

-- a node that repeats another id's number, and what it comes to where that is a total
abbrev pub IsRepeat : Graph → ℕ → ℕ → Type 0
IsRepeat g id other = (id < g.size) × (g.is_free id ≡ false) × (g.inputs id ≡ other ∷ []) × ((xs : List Input) → g.op id xs ≡ repeat.value xs)

abbrev pub came_repeat : Option (Result ℤ Failure) → Outcome
came_repeat (Some (Ok z)) = Value (Int z)
came_repeat (Some (Err failure)) = Missing
came_repeat None = Missing

abbrev pub MeansRepeats : (ℕ → NumberRule) → Model → List ℤ → Graph → (Whole → ℕ) → Type 0
MeansRepeats users M a g id_of_total = (o : ℕ → Outcome) (whole : Whole) (id : ℕ) → IsMeaning g (start_of (numbers_of M a)) o → IsOf M whole → IsRepeat g id (id_of_total whole) →
    o id ≡ came_repeat (sum_in users M (outcome_of_var users M a) whole (place_of_whole M whole))

-- the model's values, from the value of each id
abbrev pub values_at : Model → (Whole → ℕ) → (ℕ → Input) → Fresh
values_at M id_of_total x = record {
  vars = map x (range_with_len 0 (length M.vars.items));
  systems = map (λ s. number_of (x (id_of_total (System s)))) (range_with_len 0 (length M.systems.items));
  objectives = map (λ o. number_of (x (id_of_total (Objective o)))) (range_with_len 0 (length M.objectives.items));
}

-- an id's subterm stands at this place, or its system or objective was declared there
abbrev pub IsAt : Model → (Whole → ℕ) → ℕ → Place → Type 0
IsAt M id_of_total id place = ((id < count_of M) × (place_at M id ≡ Some place)) ⊎ ((whole : Whole) × IsOf M whole × (id ≡ id_of_total whole) × (place_of_whole M whole ≡ place))

-- the model has this fault, at the id's place
pub record IsFaultAt (users : ℕ → NumberRule) (M : Model) (a : List ℤ) (id_of_total : Whole → ℕ) (id : ℕ) (found : RunFault) : Type 0 where
  pub failure : Failure
  pub fresh : fresh_of users M a ≡ Err failure
  pub fault : failure.fault ≡ found
  pub place : IsAt M id_of_total id failure.place
