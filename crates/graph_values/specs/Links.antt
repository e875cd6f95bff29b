-- What a store is given for a model: a cell for each variable and for each weight of a system's member, a list of inputs
-- for each id, and a rule for each node behind the cells, those of the subterms first. A rule of this project.
use Rattle.std.specs.Prelude.{IsTrue, ◌≡◌, ◌⊎◌, ℕ, ℤ, ◌-◌, ◌<◌, ◌≤◌, true, List, [], ◌∷◌, ◌++◌, length, map, Some, Vec, slice_get, Result, Ok, Err}
use Rattle.cbl_base.specs.Inputs.{InputKind}
use Rattle.cbl_base.specs.NodeLaw.{Rule}
use Rattle.cbl_base.specs.NumberRule.{NumberRule}
use Rattle.cbl_base.specs.declared.faults.RunFault.{RunFault}
use Rattle.cbl_base.specs.declared.ids.NodeId.{NodeId}
use Rattle.cbl_base.specs.declared.input.Input.{Input}
use Rattle.cbl_base.specs.declared.input.Input.TheVariants.{Int, Set}
use Rattle.cbl_operations.specs.RuleOf.{rule_of}
use Rattle.cbl_violations.specs.Violations.Repeat.{repeat}
use Rattle.cbl_violations.specs.Violations.WeightedTotal.{weighted_total}
use Rattle.model_values.specs.Wholes.{IsOf}
use Rattle.model_values.specs.declared.wholes.Whole.{Whole}
use Rattle.model_values.specs.declared.wholes.Whole.TheVariants.{System, Objective}
use Rattle.store_build.specs.Aims.{start_of}
use Rattle.store_build.specs.Lists.{list_in}
use Rattle.store_build.specs.declared.parts.StoreFault.{StoreFault}
use Rattle.store_build.specs.declared.parts.StoreFault.TheVariants.{Node, NoMemory}
use Rattle.store_turns.specs.Meaning.{Graph, ids_of}
use Rattle.term_graph.specs.declared.head.Head.{Head}
use Rattle.term_graph.specs.declared.head.Head.TheVariants.{Const, ConstSet, Op as Operation}
use Rattle.term_model.specs.Subterms.{distinct_subterms}
use Rattle.term_model.specs.declared.model.Model.{Model}
use Rattle.term_model.specs.declared.term.Term.{Term}
use Rattle.term_model.specs.declared.term.Term.TheViews.{out-Term}
use Rattle.graph_values.specs.Graphs.{count_of, id_of, inputs_of, value_by}
use Rattle.graph_values.specs.Members.{cells_of, members_of}
use Rattle.graph_values.specs.Taken.{takes_by}
use Rattle.graph_values.specs.Totals.{IsFaultAt, Precedes, weight_ids}

-- what a node with this head gives of its inputs' values
abbrev pub value_of_head : (ℕ → NumberRule) → Head → List Input → Result Input RunFault
value_of_head users (Const x) xs = Ok (Int x)
value_of_head users (ConstSet s) xs = Ok (Set s)
value_of_head users (Operation op) xs = (rule_of users op).value xs

-- the inputs are those of the model's graph, and each subterm's rule gives what its own operation gives
pub record AreLinks {Z : Type 0} (users : ℕ → NumberRule) (M : Model) (given : List Rule) (lists : List (Vec NodeId Z)) : Type 0 where
  pub count : count_of M ≤ length lists
  pub inputs : (id : ℕ) → id < count_of M → ids_of (list_in lists id) ≡ inputs_of M id
  pub rules : (k : ℕ) (t : Term) → slice_get (distinct_subterms M) k ≡ Some t → (rule : Rule) × (slice_get given k ≡ Some rule) × ((xs : List Input) → rule.value xs ≡ value_by users (out-Term t) xs)

-- the rule of an id behind the cells gives this
abbrev pub Gives : Model → List Rule → ℕ → (List Input → Result Input RunFault) → Type 0
Gives M given id value = (rule : Rule) × (slice_get given (id - cells_of M) ≡ Some rule) × ((xs : List Input) → rule.value xs ≡ value xs)

module _ {Z : Type 0} where
  -- ids whose nodes take nothing and have these numbers
  abbrev pub IsNumber : Model → List Rule → List (Vec NodeId Z) → ℕ → ℤ → Type 0
  IsNumber M given lists id x = (cells_of M ≤ id) × (id < length lists) × (ids_of (list_in lists id) ≡ []) × Gives M given id (λ _. Ok (Int x))

  abbrev pub AreNumbers : Model → List Rule → List (Vec NodeId Z) → List ℕ → List ℤ → Type 0
  AreNumbers M given lists [] [] = Unit {0}
  AreNumbers M given lists [] (x ∷ xs) = ⊥
  AreNumbers M given lists (id ∷ ids) [] = ⊥
  AreNumbers M given lists (id ∷ ids) (x ∷ xs) = IsNumber M given lists id x × AreNumbers M given lists ids xs

  -- the weights of a system's members are its cells, those of an objective's are such nodes
  abbrev pub AreWeighed : Model → List Rule → List (Vec NodeId Z) → Whole → List ℕ → Type 0
  AreWeighed M given lists (System s) ids = ids ≡ weight_ids M (System s)
  AreWeighed M given lists (Objective o) ids = AreNumbers M given lists ids (map (λ m. m.weight) (members_of M (Objective o)))

  -- a total takes its members, and behind them their weights
  pub record IsTotalLink (M : Model) (given : List Rule) (lists : List (Vec NodeId Z)) (whole : Whole) (id : ℕ) : Type 0 where
    pub behind : count_of M ≤ id
    pub within : id < length lists
    pub weights : List ℕ
    pub weighed : AreWeighed M given lists whole weights
    pub inputs : ids_of (list_in lists id) ≡ map (λ m. id_of M m.term) (members_of M whole) ++ weights
    pub rule : Gives M given id ((weighted_total (length (members_of M whole))).value)

  -- and behind the terms there are such totals, systems first, and else only nodes that never fail
  pub record AreModelLinks (users : ℕ → NumberRule) (M : Model) (given : List Rule) (lists : List (Vec NodeId Z)) (id_of_total : Whole → ℕ) : Type 0 where
    pub terms : AreLinks users M given lists
    pub totals : (whole : Whole) → IsOf M whole → IsTotalLink M given lists whole (id_of_total whole)
    pub order : (one other : Whole) → IsOf M one → IsOf M other → Precedes one other → id_of_total one < id_of_total other
    pub others : (id : ℕ) → count_of M ≤ id → id < length lists →
        ((whole : Whole) × IsOf M whole × (id ≡ id_of_total whole)) ⊎ ((rule : Rule) × (slice_get given (id - cells_of M) ≡ Some rule) × ((xs : List Input) (fault : RunFault) → rule.value xs ≡ Err fault → ⊥))

module _ {Z : Type 0} where
  -- an id behind the terms is a total's, or takes nothing, or repeats a total
  abbrev pub IsOther : Model → List (Vec NodeId Z) → (Whole → ℕ) → ℕ → Rule → Type 0
  IsOther M lists id_of_total id rule =
      ((whole : Whole) × IsOf M whole × (id ≡ id_of_total whole))
      ⊎ (((ids_of (list_in lists id) ≡ []) × IsTrue (rule.takes [])) ⊎ ((whole : Whole) × IsOf M whole × (ids_of (list_in lists id) ≡ id_of_total whole ∷ []) × ((kinds : List InputKind) → IsTrue (repeat.takes kinds) → IsTrue (rule.takes kinds))))

  -- each rule takes what its subterm's operation takes, or a total, or a repeat
  pub record AreTakers (users : ℕ → NumberRule) (M : Model) (given : List Rule) (lists : List (Vec NodeId Z)) (id_of_total : Whole → ℕ) : Type 0 where
    pub terms : (k : ℕ) (t : Term) (rule : Rule) → slice_get (distinct_subterms M) k ≡ Some t → slice_get given k ≡ Some rule → (kinds : List InputKind) → IsTrue (takes_by users (out-Term t) kinds) → IsTrue (rule.takes kinds)
    pub totals : (whole : Whole) (rule : Rule) → IsOf M whole → slice_get given (id_of_total whole - cells_of M) ≡ Some rule → (kinds : List InputKind) → IsTrue ((weighted_total (length (members_of M whole))).takes kinds) → IsTrue (rule.takes kinds)
    pub others : (id : ℕ) (rule : Rule) → count_of M ≤ id → slice_get given (id - cells_of M) ≡ Some rule → IsOther M lists id_of_total id rule

-- the free cells hold these numbers
abbrev pub AreAssigned : Graph → List ℤ → (ℕ → Input) → Type 0
AreAssigned g a free = (id : ℕ) → id < g.size → g.is_free id ≡ true → free id ≡ start_of a id

-- a store's fault is the model's, at the id's place
abbrev pub IsModelStop : (ℕ → NumberRule) → Model → List ℤ → (Whole → ℕ) → StoreFault → Type 0
IsModelStop users M a id_of_total (Node node fault) = IsFaultAt users M a id_of_total node.0 fault
IsModelStop users M a id_of_total NoMemory = Unit {0}
