-- What a closed solver keeps beside its state: a store of the model with its totals, the place of each node, and what is
-- kept for the violations of its variables. A rule of this project.
use Rattle.std.specs.Prelude.{◌≡◌, ℕ, ℤ, ◌≤◌, List, length, map}
use Rattle.std.specs.List.{range_with_len}
use Rattle.cbl_base.specs.NodeLaw.{Rule}
use Rattle.cbl_base.specs.declared.input.Input.{Input}
use Rattle.graph_values.specs.Graphs.{id_of}
use Rattle.graph_values.specs.WholeGraphs.{total_id}
use Rattle.inc_store.specs.Views.{graph_in, inputs_at, rules_in, value_at}
use Rattle.model_nodes.specs.Making.{ArePlaces}
use Rattle.model_store.specs.ModelStores.{IsStoreOf}
use Rattle.model_store.specs.Settings.{IsSetting, Setting, users_in}
use Rattle.posted_users.specs.KeptRule.{KeptRule, viol_at_by, viol_by}
use Rattle.store_laws.specs.ModelTouch.{IsWhole, many_nodes}
use Rattle.store_shares.specs.Made.{IsOrdered, IsSharesOf}
use Rattle.term_model.specs.declared.model.Model.{Model}
use Rattle.solver_store.specs.NodeRules.{AreRules}
use Rattle.solver_store.specs.declared.closed.Closed.{Closed}

-- a model under an assignment, where the users' constraints have these rules, and its totals stand in the graph of the
-- model
abbrev pub setting_of : Model → List ℤ → List KeptRule → Setting
setting_of M a rules = record { viol_of = viol_by rules; viol_at = viol_at_by rules; model = M; assignment = a; total = total_id M }

module _ {N : Type 0} where
  -- the values of the variables
  abbrev pub vars_in : Model → Closed N → List Input
  vars_in M c = map (value_at c.store) (range_with_len 0 (length M.vars.items))

  pub record IsClosed (rule : N → Rule) (held : N → List Input) (ready : N → Type 0) (setting : Setting) (c : Closed N) : Type 0 where
    pub given : IsSetting setting
    pub total : setting.total ≡ total_id setting.model
    pub store : IsStoreOf rule held ready setting c.store
    pub whole : IsWhole (users_in setting) setting.model (graph_in rule c.store)
    pub rules : AreRules (users_in setting) setting.model (rules_in rule c.store)
    pub short : (id : ℕ) → length (inputs_at c.store id) ≤ 4294967296
    pub placed : length c.places.items ≡ many_nodes setting.model
    pub places : ArePlaces setting.model c.places.items
    pub ordered : IsOrdered c.shares
    pub shares : IsSharesOf setting.model (id_of setting.model) c.shares
