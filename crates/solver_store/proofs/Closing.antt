-- What is closed is right from the start: the nodes of users' constraints have the rules that are kept of them.
use Rattle.std.proofs.Common.{◌≡◌, List, [], ◌∷◌, All, sym, ap, ◌∙◌}
use Rattle.std.specs.Prelude.{unwrap_or}
use Rattle.std.proofs.lemmas.List.Elements.{All-nil, All-cons, All-head, All-tail}
use Rattle.cbl_base.specs.NodeLaw.{Rule}
use Rattle.graph_values.proofs.Arguments.{all_at}
use Rattle.model_nodes.specs.Waiting.{AreUserNodes}
use Rattle.posted_users.specs.KeptOf.{IsUserRule, kept_of, user_node_rule}
use Rattle.posted_users.specs.KeptRule.{no_rule, users_of}
use Rattle.solver_models.proofs.ListLaws.{slice_map}
use Rattle.std.specs.Option.{option_map}
use Rattle.solver_store.specs.KeptRules.{Lasts, waiting_rules}

own_rule : (rule : Rule) → IsUserRule rule → rule ≡ user_node_rule (kept_of rule)
unfolding IsUserRule
own_rule rule is = is

module _ {N : Type 0} (rule : N → Rule) where
  -- the node of each number has the rule that is kept of it
  pub user_nodes : (nodes : List N) → All (λ n. IsUserRule (rule n)) nodes → AreUserNodes rule (users_of (waiting_rules rule nodes)) nodes
  user_nodes nodes all number node at =
      own_rule (rule node) (all_at (λ n. IsUserRule (rule n)) nodes number node all at)
      ∙ ap user_node_rule (sym (ap (λ o. unwrap_or o no_rule) (slice_map (λ n. kept_of (rule n)) nodes number ∙ ap (option_map (λ n. kept_of (rule n))) at)))

  -- and what is kept lasts
  pub all_last : (nodes : List N) → All (λ n. IsUserRule (rule n)) nodes → All Lasts (waiting_rules rule nodes)
  all_last [] all = All-nil Lasts
  all_last (n ∷ nodes) all =
      All-cons Lasts (kept_of (rule n)) (waiting_rules rule nodes) (ap kept_of (sym (own_rule (rule n) (All-head (λ m. IsUserRule (rule m)) n nodes all)))) (all_last nodes (All-tail (λ m. IsUserRule (rule m)) n nodes all))
