-- A node of a store that can be used has a value.
use Rattle.std.proofs.Common.{◌≡◌, ℕ, ◌-◌, ◌<◌, ◌≤◌, false, cond, nat_lt, ◌&&◌, List, [], ◌∷◌, map, Some, Result, Ok, Err, refl, sym, ap, ◌∙◌, slice_get}
use Rattle.std.specs.Prelude.{IsOk}
use Rattle.cbl_base.specs.NodeLaw.{Rule}
use Rattle.cbl_base.specs.declared.faults.RunFault.{RunFault}
use Rattle.cbl_base.specs.declared.input.Input.{Input}
use Rattle.inc_store.specs.Views.{IsUsable, count_of, first_of, graph_in, inputs_at, rules_in, value_at}
use Rattle.inc_store.specs.declared.store.Store.{Store}
use Rattle.store_build.proofs.GatherLemmas.{past_first}
use Rattle.store_turns.specs.Meaning.{come_to, is_empty, outcome_of, rule_value, the_one, values_of, with_value}
use Rattle.store_turns.specs.declared.outcome.Outcome.TheVariants.{Value, Fails}

has_value : (r : Result Input RunFault) (x : Input) → Value x ≡ outcome_of r → IsOk r
has_value (Ok y) x e = refl
has_value (Err f) x e = let c : Value x ≡ Fails f = e in cc

module _ {N : Type 0} (rule : N → Rule) (held : N → List Input) (ready : N → Type 0) (s : Store N) (is : IsUsable rule held ready s) where
  all_there : (ids : List ℕ) → values_of (map (λ id. Value (value_at s id)) ids) ≡ Some (map (value_at s) ids)
  all_there [] = refl
  all_there (id ∷ ids) = ap (with_value (Value (value_at s id))) (all_there ids)

  pub node_valued : (id : ℕ) → first_of s ≤ id → id < count_of s → (r : Rule) → slice_get (rules_in rule s) (id - first_of s) ≡ Some r → (xs : List Input) → xs ≡ map (value_at s) (inputs_at s id) → IsOk (r.value xs)
  node_valued id le lt r at xs same =
      let past : nat_lt id (first_of s) ≡ false = past_first id (first_of s) le in
      let bound : (graph_in rule s).is_free id ≡ false = ap (λ b. b && is_empty (inputs_at s id)) past in
      let op : (graph_in rule s).op id xs ≡ r.value xs = ap (λ b. cond b (the_one xs) (rule_value (slice_get (rules_in rule s) (id - first_of s)) xs)) past ∙ ap (λ q. rule_value q xs) at in
      has_value (r.value xs) (value_at s id)
      (is.2.fresh.nodes id lt bound ∙ ap (come_to ((graph_in rule s).op id)) (all_there (inputs_at s id) ∙ ap Some (sym same)) ∙ ap outcome_of op)
