-- Rules of what subterms compute, and the nodes that wait for them.
use Rattle.std.proofs.Common.{◌≡◌, ℕ, zero, suc, ◌+◌, ◌-◌, ◌<◌, false, List, [], ◌∷◌, map, set, get_or, Option, Some, None, length, refl, sym, ap, ◌∙◌, subst, slice_get, arith}
use Rattle.std.specs.Prelude.{unwrap_or}
use Rattle.std.specs.Option.{option_and_then, option_map}
use Rattle.std.proofs.lemmas.Option.{slice_get-map, slice_get_read, slice_get_within}
use Rattle.cbl_base.specs.NodeLaw.{Rule}
use Rattle.cbl_base.specs.NumberRule.{NumberRule}
use Rattle.cbl_base.specs.declared.ids.NodeId.{NodeId}
use Rattle.cbl_operations.specs.RuleOf.{rule_of}
use Rattle.cbl_operations.specs.declared.op.Op.{Op}
use Rattle.cbl_operations.specs.declared.op.Op.TheVariants.{User}
use Rattle.node_kinds.specs.OpNodes.{is_user}
use Rattle.graph_values.specs.Members.{cells_of}
use Rattle.term_graph.specs.Graphs.{HasNode, IsGraphOf}
use Rattle.term_graph.specs.Heads.{head_by, head_of}
use Rattle.term_graph.specs.declared.graph.Graph.{Graph}
use Rattle.term_graph.specs.declared.head.Head.{Head}
use Rattle.term_model.specs.Naming.{user_number, users_posted}
use Rattle.term_model.specs.Subterms.{distinct_subterms}
use Rattle.term_model.specs.Wellformed.{IsWellFormed}
use Rattle.term_model.specs.declared.model.Model.{Model}
use Rattle.term_model.specs.declared.term.Term.{Term}
use Rattle.term_model.specs.declared.term.Term.TheOpen.{Term-F}
use Rattle.term_model.specs.declared.term.Term.TheViews.{out-Term}
use Rattle.model_nodes.specs.Waiting.{AreLeft, AreUserNodes, AreWaiting, IsTakenFor, IsThere, user_in, user_in_head}
use Rattle.model_nodes.proofs.UsersOnce.{own_by, users_once, users_within}

-- what isn't a user's has one rule, whatever the users' are
pub same_rule : (users others : ℕ → NumberRule) (op : Op) → user_in op ≡ None → rule_of users op ≡ rule_of others op
same_rule users others (User number) none = let c : Some number ≡ None = none in absurd cc
same_rule users others op none = refl

pub no_user : (op : Op) → user_in op ≡ None → is_user op ≡ false
no_user (User number) none = let c : Some number ≡ None = none in absurd cc
no_user op none = refl

pub not_user : (op : Op) → ((number : ℕ) → op ≡ User number → ⊥) → user_in op ≡ None
not_user (User number) other = absurd (other number refl)
not_user op other = refl

pub user_is : (op : Op) (number : ℕ) → user_in op ≡ Some number → op ≡ User number
user_is (User other) number e = ap User (ap (λ o. unwrap_or o other) e)
user_is op number e = let c : None ≡ Some number = e in absurd cc

-- ---- nodes that wait
-- what is there once one was taken was there
still : {N : Type 0} (node : N) (waiting : List (Option N)) (n k : ℕ) → slice_get (set waiting n None) k ≡ Some (Some node) → slice_get waiting k ≡ Some (Some node)
still node [] n k e = e
still {N} node (w ∷ ws) zero zero e = let c : ◌≡◌ {A = Option N} None (Some node) = ap (λ o. unwrap_or o None) e in cc
still node (w ∷ ws) zero (suc k) e = e
still node (w ∷ ws) (suc n) zero e = e
still node (w ∷ ws) (suc n) (suc k) e = still node ws n k e

-- what stands at another place stays
pub other_place : {X : Type 0} (xs : List X) (n k : ℕ) (x : X) → (n ≡ k → ⊥) → slice_get (set xs n x) k ≡ slice_get xs k
other_place [] n k x ne = refl
other_place (y ∷ ys) zero zero x ne = absurd (ne refl)
other_place (y ∷ ys) zero (suc k) x ne = refl
other_place (y ∷ ys) (suc n) zero x ne = refl
other_place (y ∷ ys) (suc n) (suc k) x ne = other_place ys n k x (λ e. ne (ap suc e))

-- the node that is taken out of its place is the one that is there
pub there_taken : {N : Type 0} (waiting : List (Option N)) (number : ℕ) (taken : Option N) → IsThere waiting number → taken ≡ get_or waiting number taken → slice_get waiting number ≡ Some taken
there_taken waiting number taken there is = slice_get_read waiting (length waiting) number taken refl (slice_get_within waiting number (Some there.0) there.1) is

pub some_there : {N : Type 0} (waiting : List (Option N)) (number : ℕ) → IsThere waiting number → slice_get waiting number ≡ Some None → ⊥
some_there {N} waiting number there none = let c : ◌≡◌ {A = Option (Option N)} (Some (Some there.0)) (Some None) = sym there.1 ∙ none in cc

module _ {N : Type 0} (rule : N → Rule) (users : ℕ → NumberRule) where
  pub taken : (waiting : List (Option N)) (number : ℕ) → AreWaiting rule users waiting → AreWaiting rule users (set waiting number None)
  taken waiting number are k node at = are k node (still node waiting number k at)

  -- all that were handed in wait
  pub all_wait : (nodes : List N) → AreUserNodes rule users nodes → AreWaiting rule users (map (λ n. Some n) nodes)
  all_wait nodes are number node at = by (slice_get nodes number) refl
    where
      here : ◌≡◌ {A = Option (Option N)} (option_map (λ n. Some n) (slice_get nodes number)) (Some (Some node))
      here = sym (slice_get-map (λ n. Some n) nodes number) ∙ at

      by : (o : Option N) → slice_get nodes number ≡ o → rule node ≡ rule_of users (User number)
      by (Some n) e =
          let own : ◌≡◌ {A = Option (Option N)} (Some (Some n)) (Some (Some node)) = sym (ap (option_map (λ n. Some n)) e) ∙ here in
          let same : n ≡ node = ap (λ o. unwrap_or (unwrap_or o (Some n)) n) own in
          are number node (e ∙ ap (λ m. Some m) same)
      by None e = let c : ◌≡◌ {A = Option (Option N)} None (Some (Some node)) = sym (ap (option_map (λ n. Some n)) e) ∙ here in cc

-- ---- those that are left
own_headed : (y : Term-F Term) (head : Head) (n : ℕ) → head_by y ≡ Some head → user_in_head head ≡ Some n → own_by y ≡ n ∷ []
own_headed (Term-F.Const x) head n e user = let c : None ≡ Some n = ap (λ h. option_and_then user_in_head h) e ∙ user in cc
own_headed (Term-F.ConstSet s) head n e user = let c : None ≡ Some n = ap (λ h. option_and_then user_in_head h) e ∙ user in cc
own_headed (Term-F.Var v) head n e user = let c : None ≡ Some head = e in cc
own_headed (Term-F.Node op args place) head n e user = ap user_number (user_is op n (ap (λ h. option_and_then user_in_head h) e ∙ user))

pub got_within : {X : Type 0} (xs : List X) (k : ℕ) → k < length xs → (x : X) × (slice_get xs k ≡ Some x)
got_within [] k lt = absurd (omega (arith, lt))
got_within (x ∷ xs) zero lt = (x, refl)
got_within (x ∷ xs) (suc k) lt = got_within xs k (omega (arith, lt))

module _ {N : Type 0} (M : Model) (formed : IsWellFormed M) where
  pub left_all : (nodes : List N) → length nodes ≡ length (users_posted M M.posted.items) → AreLeft M 0 (map (λ n. Some n) nodes)
  left_all nodes count j t head le at headed number user =
      let lt = users_within M formed j number t at (own_headed (out-Term t) head number headed user) in
      let own = got_within nodes number (omega (arith, lt, count)) in
      (own.0, slice_get-map (λ n. Some n) nodes number ∙ ap (option_map (λ n. Some n)) own.1)

  pub left_more : (k : ℕ) (t : Term) (head : Head) (old new : List (Option N)) → slice_get (distinct_subterms M) k ≡ Some t → head_of t ≡ Some head → IsTakenFor head old new → AreLeft M k old → AreLeft M (k + 1) new
  left_more k t head old new at headed taken left j u other le there other_headed number user =
      let own = own_headed (out-Term u) other number other_headed user in
      let apart : user_in_head head ≡ Some number → ⊥ = (λ here. (let e = users_once M formed k j number t u at there (own_headed (out-Term t) head number headed here) own in omega (arith, e, le))) in
      let before = left j u other (omega (arith, le)) there other_headed number user in
      (before.0, taken number apart ∙ before.1)

-- ---- a subterm's node
pub subterm_here : (M : Model) (graph : Graph) (id : NodeId) → HasNode graph id → IsGraphOf graph (distinct_subterms M) → graph.cells ≡ cells_of M →
    (t : Term) × (slice_get (distinct_subterms M) (id.0 - cells_of M) ≡ Some t) × (slice_get (distinct_subterms M) (id.0 - graph.cells) ≡ Some t)
subterm_here M graph id node are same =
    let count = are.count in
    let low = node.0 in
    let high = node.1 in
    let got = got_within (distinct_subterms M) (id.0 - cells_of M) (omega (arith, count, low, high, same)) in
    (got.0, got.1, ap (λ n. slice_get (distinct_subterms M) (id.0 - n)) same ∙ got.1)

module _ {N : Type 0} (M : Model) (id cells k : ℕ) (same : cells ≡ cells_of M) (is : id ≡ cells + k) (waiting : List (Option N)) where
  place_of_id : id - cells_of M ≡ k
  place_of_id = omega (arith, same, is)

  pub left_here : AreLeft M k waiting → AreLeft M (id - cells_of M) waiting
  left_here left = subst (λ (j : ℕ). AreLeft M j waiting) (sym place_of_id) left

  pub left_next : AreLeft M (id - cells_of M + 1) waiting → AreLeft M (k + 1) waiting
  left_next left = subst (λ (j : ℕ). AreLeft M (j + 1) waiting) place_of_id left
