-- What is read of a store of a model for the shares of a variable is what these ask for.
use Rattle.std.proofs.Common.{◌≡◌, ℕ, ◌+◌, ◌-◌, ◌<◌, false, cond, nat_lt, List, map, Some, None, Vec, Global, refl, sym, ap, ◌∙◌, slice_get, arith}
use Rattle.std.proofs.lemmas.Option.{slice_get_within}
use Rattle.cbl_base.specs.NodeLaw.{Rule}
use Rattle.cbl_base.specs.NumberRule.{NumberRule}
use Rattle.cbl_base.specs.declared.input.Input.{Input}
use Rattle.cbl_base.specs.declared.place.Place.{Place}
use Rattle.cbl_operations.specs.RuleOf.{rule_of}
use Rattle.cbl_operations.specs.declared.op.Op.{Op}
use Rattle.graph_values.specs.Graphs.{count_of as terms_end, id_of, inputs_of_cell, inputs_of_node, term_at, term_defined}
use Rattle.graph_values.specs.Members.{cells_of}
use Rattle.inc_store.specs.Views.{first_of, graph_in, inputs_at, rules_in, value_at}
use Rattle.inc_store.specs.declared.store.Store.{Store}
use Rattle.model_nodes.specs.WholeNodes.{rule_by}
use Rattle.model_store.specs.ModelStores.{IsStoreOf}
use Rattle.model_store.specs.Settings.{Setting, users_in}
use Rattle.model_values.specs.VarOutcomes.{outcome_of_var}
use Rattle.store_build.proofs.GatherLemmas.{past_first}
use Rattle.store_shares.specs.Telling.{AreReads}
use Rattle.term_model.specs.Subterms.{distinct_subterms}
use Rattle.term_model.specs.declared.model.Model.{Model}
use Rattle.term_model.specs.declared.term.Term.{Term}
use Rattle.term_model.specs.declared.term.Term.TheOpen.{Term-F}
use Rattle.term_model.specs.declared.term.Term.TheViews.{out-Term}
use Rattle.solver_store.specs.NodeRules.{AreRules}
use Rattle.solver_store.specs.Reads.{is_held, number_in, rule_at, violation_in, violation_there}
use Rattle.solver_store.proofs.ClosedReads.{meaning}
use Rattle.solver_store.proofs.HeldTerms.{arguments_held, held_value, held_violation}
use Rattle.solver_store.proofs.RulesBack.{there}

module _ {N : Type 0} (rule : N → Rule) (held : N → List Input) (ready : N → Type 0) (setting : Setting) (s : Store N) (is : IsStoreOf rule held ready setting s) (rules : AreRules (users_in setting) setting.model (rules_in rule s)) where
  abbrev M : Model
  M = setting.model

  abbrev users : ℕ → NumberRule
  users = users_in setting

  abbrev x : ℕ → Input
  x id = value_at s id

  -- the rule of a subterm's node, and its inputs
  rule_there : (k : ℕ) (u : Term) (op : Op) (args : Vec Term Global) (place : Place) → slice_get (distinct_subterms M) k ≡ Some u → out-Term u ≡ Term-F.Node op args place → rule_at rule s (cells_of M + k) ≡ Some (rule_of users op)
  rule_there k u op args place at out =
      let past : nat_lt (cells_of M + k) (first_of s) ≡ false = past_first (cells_of M + k) (first_of s) (let e = is.cells in omega (arith, e)) in
      ap (λ b. cond b None (slice_get (rules_in rule s) ((cells_of M + k) - first_of s))) past
      ∙ ap (slice_get (rules_in rule s)) (let e = is.cells in let z : (cells_of M + k) - first_of s ≡ k = omega (arith, e) in z)
      ∙ there users M (rules_in rule s) rules k u at ∙ ap (rule_by users) out

  inputs_there : (k : ℕ) (u : Term) → slice_get (distinct_subterms M) k ≡ Some u → inputs_at s (cells_of M + k) ≡ inputs_of_node M (Some u)
  inputs_there k u at =
      let lt = slice_get_within (distinct_subterms M) k u at in
      let below : cells_of M + k < terms_end M = omega (arith, lt) in
      is.holds.terms.inputs (cells_of M + k) below
      ∙ ap (λ b. cond b (inputs_of_cell M (term_defined M (cells_of M + k))) (inputs_of_node M (term_at M (cells_of M + k)))) (past_first (cells_of M + k) (cells_of M) (omega arith))
      ∙ ap (inputs_of_node M) (ap (slice_get (distinct_subterms M)) (let z : (cells_of M + k) - cells_of M ≡ k = omega arith in z) ∙ at)

  pub are_reads : AreReads users (outcome_of_var users M setting.assignment) (id_of M) (is_held M) (record { number = number_in s; violation = violation_in rule s })
  are_reads = record {
    value = λ t known. (x (id_of M t), held_value M is.given.formed users setting.assignment is.given.acyclic is.given.long (graph_in rule s) is.holds.terms x (meaning rule held ready setting s is) t known, refl);
    violation = λ t op args place xs p e known values lt.
        (let v = held_violation M is.given.formed users setting.assignment is.given.acyclic is.given.long (graph_in rule s) is.holds.terms x (meaning rule held ready setting s is) t op args place xs p e known values lt in
        let n = v.0 in
        sym v.1
        ∙ ap (λ ids. violation_there (Some (rule_of users op)) (map x ids) p) (sym (inputs_there n.k n.u n.at))
        ∙ ap (λ r. violation_there r (map x (inputs_at s (cells_of M + n.k))) p) (sym (rule_there n.k n.u op n.also_.others n.also_.place n.at n.also_.is))
        ∙ ap (λ id. violation_in rule s id p) (sym n.id));
    closed = λ t op args place e known. arguments_held M is.given.formed t op args place e known;
  }
