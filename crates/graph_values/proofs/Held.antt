-- A graph that holds a model's terms means what the model's graph means.
use Rattle.std.proofs.Common.{◌≡◌, ℕ, ℤ, ◌<◌, List, length, map, Option, Some, None, Result, refl, ap, ◌∙◌, arith}
use Rattle.cbl_base.specs.NumberRule.{NumberRule}
use Rattle.cbl_base.specs.declared.faults.RunFault.{RunFault}
use Rattle.cbl_base.specs.declared.input.Input.{Input}
use Rattle.store_build.specs.Aims.{start_of}
use Rattle.store_turns.specs.Meaning.{Graph, IsMeaning, come_to, outcome_of as ran, values_of}
use Rattle.store_turns.specs.declared.outcome.Outcome.{Outcome}
use Rattle.store_turns.proofs.Unique.{unique}
use Rattle.term_model.specs.Definitions.{IsAcyclic}
use Rattle.term_model.specs.Wellformed.{IsWellFormed}
use Rattle.term_model.specs.declared.model.Model.{Model}
use Rattle.graph_values.specs.Graphs.{HoldsTerms, count_of, model_graph}
use Rattle.graph_values.specs.Outcomes.{fresh_at}
use Rattle.graph_values.specs.Members.{numbers_of}
use Rattle.graph_values.proofs.FreshMeaning.{fresh_is_meaning}
use Rattle.graph_values.proofs.Levels.{are_layers, layer_by}

pub same_come : (op other : List Input → Result Input RunFault) (v : Option (List Input)) → ((xs : List Input) → op xs ≡ other xs) → come_to op v ≡ come_to other v
same_come op other (Some xs) same = ap ran (same xs)
same_come op other None same = refl

module _ (users : ℕ → NumberRule) (M : Model) (g : Graph) (holds : HoldsTerms users M g) (free : ℕ → Input) (o : ℕ → Outcome) (meaning : IsMeaning g free o) where
  within : (id : ℕ) → id < count_of M → id < g.size
  within id lt = let le = holds.size in omega (arith, lt, le)

  pub held_meaning : IsMeaning (model_graph users M) free o
  held_meaning = record {
    cells = λ id lt is. meaning.cells id (within id lt) (holds.free id lt ∙ is);
    nodes = λ id lt is. meaning.nodes id (within id lt) (holds.free id lt ∙ is) ∙ ap (λ is'. come_to (g.op id) (values_of (map o is'))) (holds.inputs id lt)
        ∙ same_come (g.op id) ((model_graph users M).op id) (values_of (map o ((model_graph users M).inputs id))) (λ xs. holds.ops id xs lt);
  }

-- so its ids come to what evaluating the model afresh gives
module _ (users : ℕ → NumberRule) (M : Model) (a : List ℤ) (formed : IsWellFormed M) (acyclic : IsAcyclic M) (long : length a ≡ length M.vars.items) (g : Graph) (holds : HoldsTerms users M g) (o : ℕ → Outcome) (meaning : IsMeaning g (start_of (numbers_of M a)) o) where
  pub same_fresh : (id : ℕ) → id < count_of M → o id ≡ fresh_at users M a id
  same_fresh =
      unique (model_graph users M) (layer_by M acyclic) (are_layers users M formed acyclic) (start_of (numbers_of M a)) o (fresh_at users M a) (held_meaning users M g holds (start_of (numbers_of M a)) o meaning) (fresh_is_meaning users M a formed acyclic long)
