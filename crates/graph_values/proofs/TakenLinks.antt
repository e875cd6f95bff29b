-- Over what a store is given for a model each rule takes what its inputs come to.
use Rattle.std.proofs.Common.{◌≡◌, ◌⊎◌, inl, inr, ℕ, ℤ, ◌+◌, ◌-◌, ◌<◌, ◌≤◌, List, [], Some, None, IsTrue, Option, Vec, length, get_or, map, sym, ap, ◌∙◌, subst, slice_get, arith}
use Rattle.std.proofs.lemmas.Bool.{cases_lt}
use Rattle.std.proofs.lemmas.Option.{slice_get_cases}
use Rattle.cbl_base.specs.Inputs.{kinds_of}
use Rattle.cbl_base.specs.NodeLaw.{Rule}
use Rattle.cbl_base.specs.declared.ids.NodeId.{NodeId}
use Rattle.cbl_base.specs.declared.input.Input.{Input}
use Rattle.model_values.specs.declared.wholes.Whole.{Whole}
use Rattle.store_build.specs.Aims.{Takes, graph_over, start_of}
use Rattle.store_build.specs.Lists.{list_in}
use Rattle.store_turns.specs.Meaning.{IsMeaning, ids_of, values_of}
use Rattle.store_turns.specs.declared.outcome.Outcome.{Outcome}
use Rattle.term_model.specs.Definitions.{IsAcyclic}
use Rattle.term_model.specs.Subterms.{distinct_subterms}
use Rattle.term_model.specs.Users.{user_rules}
use Rattle.term_model.specs.Wellformed.{HasDefinedSets, IsWellFormed}
use Rattle.term_model.specs.declared.model.Model.{Model}
use Rattle.term_model.specs.declared.term.Term.{Term}
use Rattle.graph_values.specs.Graphs.{count_of}
use Rattle.graph_values.specs.Links.{AreModelLinks, AreTakers, IsOther}
use Rattle.graph_values.specs.Taken.{AreTaken}
use Rattle.graph_values.specs.Members.{cells_of, numbers_of}
use Rattle.graph_values.proofs.Stores.{model_links_hold}
use Rattle.graph_values.proofs.TakenInputs.{are_taken}

module _ {Z : Type 0} (viol_of : ℕ → List ℤ → ℤ) (viol_at : ℕ → List ℤ → ℕ → ℤ) (M : Model) (a : List ℤ) (formed : IsWellFormed M) (acyclic : IsAcyclic M) (long : length a ≡ length M.vars.items) (sets : HasDefinedSets M)
    (rules : List Rule) (inputs : List (Vec NodeId Z)) (id_of_total : Whole → ℕ) (links : AreModelLinks (user_rules viol_of viol_at) M rules inputs id_of_total) (takers : AreTakers (user_rules viol_of viol_at) M rules inputs id_of_total)
    (o : ℕ → Outcome) (meaning : IsMeaning (graph_over rules (cells_of M) inputs) (start_of (numbers_of M a)) o) where
  taken : AreTaken (user_rules viol_of viol_at) M (graph_over rules (cells_of M) inputs) id_of_total o
  taken = are_taken viol_of viol_at M a formed acyclic long sets (graph_over rules (cells_of M) inputs) id_of_total (model_links_hold (user_rules viol_of viol_at) M rules inputs id_of_total links) o meaning

  back : (n id : ℕ) → n ≤ id → n + (id - n) ≡ id
  back n id le = omega (arith, le)

  term_takes : (id : ℕ) (rule : Rule) (xs : List Input) → cells_of M ≤ id → id < count_of M → slice_get rules (id - cells_of M) ≡ Some rule → values_of (map o (ids_of (list_in inputs id))) ≡ Some xs → IsTrue (rule.takes (kinds_of xs))
  term_takes id rule xs le lt at e = by (slice_get_cases (distinct_subterms M) (id - cells_of M)).1
    where
      by : ((t : Term) × (id - cells_of M < length (distinct_subterms M)) × (slice_get (distinct_subterms M) (id - cells_of M) ≡ Some t) × (get_or (distinct_subterms M) (id - cells_of M) t ≡ t)) ⊎ ((length (distinct_subterms M) ≤ id - cells_of M) × (slice_get (distinct_subterms M) (id - cells_of M) ≡ None)) →
          IsTrue (rule.takes (kinds_of xs))
      by (inl h) =
          takers.terms (id - cells_of M) h.0 rule h.2 at (kinds_of xs)
          (taken.terms (id - cells_of M) h.0 xs h.2 (ap (λ i. values_of (map o (ids_of (list_in inputs i)))) (back (cells_of M) id le) ∙ e))
      by (inr h) = let high = h.0 in absurd (omega (arith, lt, le, high))

  other_takes : (id : ℕ) (rule : Rule) (xs : List Input) → slice_get rules (id - cells_of M) ≡ Some rule → values_of (map o (ids_of (list_in inputs id))) ≡ Some xs → IsOther M inputs id_of_total id rule → IsTrue (rule.takes (kinds_of xs))
  other_takes id rule xs at e (inl h) =
      takers.totals h.0 rule h.1 (ap (λ i. slice_get rules (i - cells_of M)) (sym h.2) ∙ at) (kinds_of xs) (taken.totals h.0 xs h.1 (ap (λ i. values_of (map o (ids_of (list_in inputs i)))) (sym h.2) ∙ e))
  other_takes id rule xs at e (inr (inl h)) =
      let none : Some [] ≡ Some xs = ap (λ is. values_of (map o is)) (sym h.0) ∙ e in subst (λ (vs : List Input). IsTrue (rule.takes (kinds_of vs))) (same [] xs none) h.1
    where
      same : (vs ws : List Input) → ◌≡◌ {A = Option (List Input)} (Some vs) (Some ws) → vs ≡ ws
      same vs ws e = cc
  other_takes id rule xs at e (inr (inr h)) = h.3 (kinds_of xs) (taken.repeats h.0 xs h.1 (ap (λ is. values_of (map o is)) (sym h.2) ∙ e))

  pub all_take : Takes rules (cells_of M) inputs o
  all_take id rule xs le at e = elim (cases_lt id (count_of M)) [
    | inl low ↦ term_takes id rule xs le low at e
    | inr high ↦ other_takes id rule xs at e (takers.others id rule (omega (arith, high)) at)
  ]
