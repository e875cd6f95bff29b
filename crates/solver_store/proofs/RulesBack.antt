-- What is kept of the rules of a closed solver's nodes is what was kept of the users' constraints.
use Rattle.std.proofs.Common.{◌≡◌, ℕ, ◌+◌, ◌-◌, ◌<◌, Bool, true, false, ◌||◌, List, map, All, length, Some, get_or, refl, sym, ap, ◌∙◌, subst, slice_get, arith}
use Rattle.std.specs.Prelude.{nat_eq, unwrap_or}
use Rattle.std.specs.List.{list_any, range_with_len}
use Rattle.std.proofs.lemmas.Bool.{eqb-true, lt-ltb}
use Rattle.std.proofs.lemmas.List.FromFn.{fill_by_all}
use Rattle.std.proofs.lemmas.Option.{slice_get_within, unwrap_or-slice_get}
use Rattle.cbl_base.specs.NodeLaw.{Rule}
use Rattle.cbl_base.specs.NumberRule.{NumberRule}
use Rattle.cbl_operations.specs.RuleOf.{rule_of}
use Rattle.cbl_operations.specs.declared.op.Op.{Op}
use Rattle.cbl_operations.specs.declared.op.Op.TheVariants.{User}
use Rattle.graph_values.specs.Graphs.{count_of, term_at}
use Rattle.graph_values.specs.Members.{cells_of}
use Rattle.graph_values.proofs.Arguments.{all_at}
use Rattle.model_nodes.specs.WholeNodes.{rule_by, rule_in_whole, rule_of_subterm}
use Rattle.solver_models.proofs.ListLaws.{slice_within}
use Rattle.posted_users.specs.KeptOf.{kept_of, user_node_rule}
use Rattle.posted_users.specs.KeptRule.{KeptRule, no_rule, users_of}
use Rattle.term_model.specs.Naming.{user_number, users_posted}
use Rattle.term_model.specs.Subterms.{distinct_subterms}
use Rattle.term_model.specs.Wellformed.{IsWellFormed}
use Rattle.term_model.specs.declared.model.Model.{Model}
use Rattle.term_model.specs.declared.term.Term.{Term}
use Rattle.term_model.specs.declared.term.Term.TheOpen.{Term-F}
use Rattle.term_model.specs.declared.term.Term.TheViews.{out-Term}
use Rattle.solver_store.specs.NodeRules.{AreRules}
use Rattle.solver_store.specs.KeptRules.{Lasts, kept_rules, rule_of_user, rule_there}
use Rattle.solver_store.specs.UserTerms.{is_user, own_by, place_where}
use Rattle.solver_store.proofs.UserPlaces.{user_placed}

-- the rule of an id among the subterms
pub subterm_rule : (users : ℕ → NumberRule) (M : Model) (k : ℕ) (t : Term) → slice_get (distinct_subterms M) k ≡ Some t → rule_in_whole users M (cells_of M + k) ≡ rule_by users (out-Term t)
subterm_rule users M k t at =
    let lt = slice_get_within (distinct_subterms M) k t at in
    in_range lt ∙ ap (rule_of_subterm users) (ap (slice_get (distinct_subterms M)) (let e : (cells_of M + k) - cells_of M ≡ k = omega arith in e) ∙ at)
  where
    in_range : k < length (distinct_subterms M) → rule_in_whole users M (cells_of M + k) ≡ rule_of_subterm users (term_at M (cells_of M + k))
    in_range lt = rw (lt-ltb (cells_of M + k) (count_of M) (omega (arith, lt))) refl

pub there : (users : ℕ → NumberRule) (M : Model) (given : List Rule) → AreRules users M given → (k : ℕ) (t : Term) → slice_get (distinct_subterms M) k ≡ Some t → slice_get given k ≡ rule_by users (out-Term t)
there users M given are k t at =
    let lt = slice_get_within (distinct_subterms M) k t at in
    ap (slice_get given) (let e : k ≡ (cells_of M + k) - cells_of M = omega arith in e)
    ∙ are (cells_of M + k) (omega arith) (omega (arith, lt))
    ∙ subterm_rule users M k t at

-- the rule of a user's constraint
user_op : (users : ℕ → NumberRule) (n : ℕ) (op : Op) → list_any (nat_eq n) (user_number op) ≡ true → rule_of users op ≡ rule_of users (User n)
user_op users n (User m) h = ap (λ k. rule_of users (User k)) (sym (eqb-true n m (alone (nat_eq n m) h)))
  where
    alone : (b : Bool) → (b || false) ≡ true → b ≡ true
    alone true e = refl
    alone false e = e
user_op users n op h = let c : false ≡ true = h in cc

user_layer : (users : ℕ → NumberRule) (n : ℕ) (y : Term-F Term) → list_any (nat_eq n) (own_by y) ≡ true → rule_by users y ≡ Some (rule_of users (User n))
user_layer users n (Term-F.Const x) h = let c : false ≡ true = h in cc
user_layer users n (Term-F.ConstSet x) h = let c : false ≡ true = h in cc
user_layer users n (Term-F.Var x) h = let c : false ≡ true = h in cc
user_layer users n (Term-F.Node op args place) h = ap (λ r. Some r) (user_op users n op h)

module _ (M : Model) (formed : IsWellFormed M) (rules : List KeptRule) (given : List Rule) (posted : length (users_posted M M.posted.items) ≡ length rules) (are : AreRules (users_of rules) M given) (lasts : All Lasts rules) where
  one_back : (n : ℕ) → n < length rules → rule_of_user M given n ≡ get_or rules n no_rule
  one_back n lt =
      let p = user_placed M formed n (subst (λ k. n < k) (sym posted) lt) in
      let k = place_where (is_user n) (distinct_subterms M) in
      let found = slice_within rules n lt in
      ap rule_there (there (users_of rules) M given are k p.0 p.1 ∙ user_layer (users_of rules) n (out-Term p.0) p.2)
      ∙ ap (λ r. kept_of (user_node_rule r)) (ap (λ o. unwrap_or o no_rule) found.1)
      ∙ all_at Lasts rules n found.0 lasts found.1
      ∙ sym (sym (unwrap_or-slice_get rules n no_rule) ∙ ap (λ o. unwrap_or o no_rule) found.1)

  pub rules_back : kept_rules M given ≡ rules
  rules_back =
      ap (λ n. map (rule_of_user M given) (range_with_len 0 n)) posted
      ∙ sym (fill_by_all (rule_of_user M given) rules (length rules) no_rule refl (λ k lt. sym (one_back k lt)))
