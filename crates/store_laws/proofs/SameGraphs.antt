-- A graph that is the model's with its totals holds the model.
use Rattle.std.proofs.Common.{◌≡◌, ◌⊎◌, inl, inr, ℕ, ℤ, ◌<◌, List, [], ◌∷◌, map, sym, ◌∙◌, arith}
use Rattle.cbl_base.specs.NumberRule.{NumberRule}
use Rattle.model_values.specs.Wholes.{IsOf}
use Rattle.model_values.specs.declared.wholes.Whole.{Whole}
use Rattle.model_values.specs.declared.wholes.Whole.TheVariants.{System, Objective}
use Rattle.store_turns.specs.Meaning.{Graph}
use Rattle.term_model.specs.declared.model.Model.{Model}
use Rattle.graph_values.specs.Graphs.{count_of}
use Rattle.graph_values.specs.Members.{members_of}
use Rattle.graph_values.specs.Totals.{AreConstants, AreWeights, HoldsModel, IsConstant, IsTotal, NeverFails}
use Rattle.graph_values.specs.WholeGraphs.{total_id, whole_graph}
use Rattle.graph_values.proofs.Wholes.{whole_holds}
use Rattle.store_laws.specs.ModelTouch.{IsWhole, many_nodes}

module _ (users : ℕ → NumberRule) (M : Model) (g : Graph) (is : IsWhole users M g) where
  abbrev w : Graph
  w = whole_graph users M

  abbrev held : HoldsModel users M w (total_id M)
  held = whole_holds users M

  there : (id : ℕ) → id < many_nodes M → id < g.size
  there id lt = let size = is.size in omega (arith, size, lt)

  constant : (id : ℕ) (x : ℤ) → IsConstant w id x → IsConstant g id x
  constant id x c = let lt = there id c.0 in (lt, is.free id lt ∙ c.1, is.inputs id lt ∙ c.2, is.ops id [] lt ∙ c.3)

  constants : (ids : List ℕ) (xs : List ℤ) → AreConstants w ids xs → AreConstants g ids xs
  constants [] [] c = tt
  constants [] (x ∷ xs) c = absurd c
  constants (id ∷ ids) [] c = absurd c
  constants (id ∷ ids) (x ∷ xs) c = (constant id x c.0, constants ids xs c.1)

  weights : (whole : Whole) (ids : List ℕ) → AreWeights M w whole ids → AreWeights M g whole ids
  weights (System s) ids are = are
  weights (Objective o) ids are = constants ids (map (λ m. m.weight) (members_of M (Objective o))) are

  total : (whole : Whole) (id : ℕ) → IsTotal M w whole id → IsTotal M g whole id
  total whole id t =
      let lt = there id t.within in
      record {
        behind = t.behind;
        within = lt;
        bound = is.free id lt ∙ t.bound;
        weights = t.weights;
        weighed = weights whole t.weights t.weighed;
        inputs = is.inputs id lt ∙ t.inputs;
        op = λ xs. is.ops id xs lt ∙ t.op xs;
      }

  low : (id : ℕ) → id < count_of M → id < g.size
  low id lt = let size = held.terms.size in there id (omega (arith, size, lt))

  pub holds_whole : HoldsModel users M g (total_id M)
  holds_whole = record {
    terms = record {
      size = (let size = held.terms.size in let same = is.size in omega (arith, size, same));
      inputs = λ id lt. is.inputs id (low id lt) ∙ held.terms.inputs id lt;
      free = λ id lt. is.free id (low id lt) ∙ held.terms.free id lt;
      ops = λ id xs lt. is.ops id xs (low id lt) ∙ held.terms.ops id xs lt;
    };
    totals = λ whole own. total whole (total_id M whole) (held.totals whole own);
    order = held.order;
    others = λ id le lt. by id lt (held.others id le (let size = is.size in omega (arith, size, lt)));
  }
    where
      by : (id : ℕ) → id < g.size → ((whole : Whole) × IsOf M whole × (id ≡ total_id M whole)) ⊎ NeverFails w id → ((whole : Whole) × IsOf M whole × (id ≡ total_id M whole)) ⊎ NeverFails g id
      by id lt (inl h) = inl h
      by id lt (inr h) = inr (λ xs fault e. h xs fault (sym (is.ops id xs lt) ∙ e))
