-- What the arguments of a node and the members of a system give to a variable's violations, as far as they
-- have been gone through; and that this hangs on the variables in them alone.
use Rattle.std.proofs.Common.{◌≡◌, ℕ, ℤ, pos, zero, suc, ◌+◌, ◌<◌, ◌≤◌, Bool, true, false, cond, List, [], ◌∷◌, ◌++◌, Option, Some, None, Vec, Global, Result, Ok, Err, IfOk, IsSome, length, length-append, get_or, take, fold, map, refl, sym, ap, ◌∙◌, subst, arith, Contains}
use Rattle.std.specs.Prelude.{filter, unwrap_or, IfSome}
use Rattle.std.specs.List.{range_with_len}
use Rattle.std.proofs.lemmas.List.{take_all, map-append, append-nil}
use Rattle.std.proofs.lemmas.List.Elements.{filter-append, All-contains, Contains-append_left, Contains-append_right, Contains-push}
use Rattle.std.proofs.lemmas.List.Sums.{fold_more}
use Rattle.cbl_base.specs.Inputs.{InputKind, kind_of}
use Rattle.cbl_base.specs.NumberRule.{NumberRule}
use Rattle.cbl_base.specs.declared.faults.RunFault.{RunFault}
use Rattle.cbl_base.specs.declared.input.Input.{Input}
use Rattle.cbl_base.specs.declared.place.Place.{Place}
use Rattle.cbl_operations.specs.declared.op.Op.{Op}
use Rattle.model_values.specs.Asked.{IsAnswer}
use Rattle.term_model.specs.Definitions.{joined, vars_of, vars_step}
use Rattle.model_values.specs.Delta.{value_of}
use Rattle.model_values.specs.Dependence.{marked, var_depends, AreMarks}
use Rattle.term_model.specs.Kinds.{kinds_in}
use Rattle.model_values.specs.Outcomes.{Outcome, gathered}
use Rattle.model_values.specs.VarOutcomes.{outcome_of_var}
use Rattle.violation_shares.specs.VariableViolations.{Arguments, Weighed, answered, arguments_of, gather_violation, no_arguments, node_share, none_weighed, share_of, share_step, variable_violations_of, violation_in_system, violations_where, weigh_posted, weighed_in, weighted_violation, with_argument, with_member, with_weighed, HasWeightsOf}
use Rattle.term_model.specs.Wellformed.{IsWellFormed}
use Rattle.model_values.specs.Wholes.{outcome_of_whole, place_of}
use Rattle.model_values.specs.Support.{member_in}
use Rattle.model_values.specs.declared.asked.AskStop.{AskStop}
use Rattle.term_model.specs.declared.model.Member.{Member}
use Rattle.term_model.specs.declared.model.Model.{Model}
use Rattle.term_model.specs.declared.model.Posted.{Posted}
use Rattle.model_values.specs.declared.failure.Failure.{Failure}
use Rattle.violation_shares.specs.declared.shares.Share.{Share}
use Rattle.term_model.specs.declared.term.Term.{Term}
use Rattle.term_model.specs.declared.term.Term.TheOpen.{Term-F}
use Rattle.term_model.specs.declared.term.Term.TheViews.{roll-Term, Node}
use Rattle.term_model.specs.declared.term.Term.TheVariants.{rolls-Node}
use Rattle.term_model.specs.declared.term.Term.TheFolds.{fold-roll-Term, map-Term, ind-Term}
use Rattle.model_values.specs.declared.wholes.Whole.TheVariants.{System}
use Rattle.term_model.proofs.Layers.{one_more}
use Rattle.model_values.proofs.PartLaws.{member_kinded}
use Rattle.term_model.proofs.Rounds.{names_kinded, some_within}

-- ---- the places one after another
counted_more : (a n j : ℕ) → a + n ≡ j → range_with_len a (suc n) ≡ range_with_len a n ++ j ∷ []
counted_more a zero j e = let same : a ≡ j = omega arith in ap (λ k. k ∷ []) same
counted_more a (suc n) j e = ap (λ l. a ∷ l) (counted_more (a + 1) n j (omega arith))

module _ (depends : List Bool) (violation_at : ℕ → ℤ) where
  places_more : (k : ℕ) (is : Bool) → marked depends k ≡ is → violations_where depends violation_at (k + 1) ≡ violations_where depends violation_at k ++ map violation_at (cond is (k ∷ []) [])
  places_more k is e =
      let on : k + 1 ≡ suc k = omega arith in
      ap (violations_where depends violation_at) on
      ∙ ap (λ ps. map violation_at (filter (marked depends) ps)) (counted_more 0 k k (omega arith))
      ∙ ap (map violation_at) (filter-append (marked depends) (range_with_len 0 k) (k ∷ []))
      ∙ map-append violation_at (filter (marked depends) (range_with_len 0 k)) (cond (marked depends k) (k ∷ []) [])
      ∙ ap (λ b. violations_where depends violation_at k ++ map violation_at (cond b (k ∷ []) [])) e

  pub place_found : (k : ℕ) (found after : List ℤ) (v : ℤ) → marked depends k ≡ true → found ≡ violations_where depends violation_at k → v ≡ violation_at k → after ≡ found ++ v ∷ [] →
      after ≡ violations_where depends violation_at (k + 1)
  place_found k found after v is e h next =
      next ∙ ap (λ f. f ++ v ∷ []) e ∙ ap (λ w. violations_where depends violation_at k ++ w ∷ []) h ∙ sym (places_more k true is)

  pub place_skipped : (k : ℕ) (found : List ℤ) → marked depends k ≡ false → found ≡ violations_where depends violation_at k → found ≡ violations_where depends violation_at (k + 1)
  place_skipped k found is e = e ∙ sym (append-nil (violations_where depends violation_at k)) ∙ sym (places_more k false is)

-- ---- the share of a node
module _ (users : ℕ → NumberRule) (env : ℕ → Outcome) (depends : ℕ → Bool) where
  outcomes_mapped : (items : List Term) → map (λ (s : Share). s.outcome) (map (share_of users env depends) items) ≡ map (λ t. (share_of users env depends t).outcome) items
  outcomes_mapped [] = refl
  outcomes_mapped (t ∷ items) = ap (λ os. (share_of users env depends t).outcome ∷ os) (outcomes_mapped items)

  pub share_of_layer : (t : Term) (op : Op) (args : Vec Term Global) (place : Place) (items : List Term) (values : Option (List Input)) (held : Arguments) →
      t ≡ Node op args place → items ≡ args.items → values ≡ gathered (map (λ u. (share_of users env depends u).outcome) items) → held ≡ arguments_of (map (share_of users env depends) items) →
      node_share users op values held ≡ share_of users env depends t
  share_of_layer t op args place items values held e same v h =
      let v' : values ≡ gathered (map (λ (s : Share). s.outcome) (map (share_of users env depends) args.items)) =
      v ∙ ap gathered (sym (outcomes_mapped items)) ∙ ap (λ ts. gathered (map (λ (s : Share). s.outcome) (map (share_of users env depends) ts))) same in
      let h' : held ≡ arguments_of (map (share_of users env depends) args.items) = h ∙ ap (λ ts. arguments_of (map (share_of users env depends) ts)) same in
      ap (λ vs. node_share users op vs held) v'
      ∙ ap (node_share users op (gathered (map (λ (s : Share). s.outcome) (map (share_of users env depends) args.items)))) h'
      ∙ sym (ap (share_of users env depends) (e ∙ sym (rolls-Node op args place)) ∙ fold-roll-Term Share (share_step users env depends) (Term-F.Node op args place))

  pub arguments_more : (items : List Term) (i : ℕ) (item : Term) (so_far after : Arguments) (share : Share) → i < length items → item ≡ get_or items i item →
      so_far ≡ arguments_of (map (share_of users env depends) (take i items)) → share ≡ share_of users env depends item → after ≡ with_argument so_far share →
      after ≡ arguments_of (map (share_of users env depends) (take (i + 1) items))
  arguments_more items i item so_far after share lt is e h next =
      next ∙ ap (λ a. with_argument a share) e ∙ ap (with_argument (arguments_of (map (share_of users env depends) (take i items)))) h
      ∙ sym (one_more with_argument no_arguments (share_of users env depends) items i item lt is)

pub kind_of_share : {E : Type 0} (share : Share) (kind : Option InputKind) (result : Result Share E) → IfOk result (λ s. s ≡ share) → IfSome share.outcome (λ x. kind ≡ Some (kind_of x)) → IfOk result (λ s. IfSome s.outcome (λ x. kind ≡ Some (kind_of x)))
kind_of_share share kind (Ok s) h f = subst (λ u. IfSome u.outcome (λ x. kind ≡ Some (kind_of x))) (sym h) f
kind_of_share share kind (Err e) h f = tt

-- ---- the members of a system one after another
pub member_weighed : (users : ℕ → NumberRule) (env : ℕ → Outcome) (depends : ℕ → Bool) (M : Model) (s : ℕ) (weighed after : Weighed) (posted : Posted) (member : Member) (share : Share) →
    Some member ≡ member_in M (System s) posted → share ≡ share_of users env depends member.term → after ≡ with_weighed weighed share.violation member.weight → after ≡ weigh_posted users env depends M s weighed posted
member_weighed users env depends M s weighed after posted member share is e h =
    h ∙ ap (λ (u : Share). with_weighed weighed u.violation member.weight) e ∙ ap (with_member users env depends weighed) is

one_weight : (violations : Result (List ℤ) RunFault) (violation : Result ℤ RunFault) (weights : List ℤ) (w : ℤ) → HasWeightsOf violations weights → HasWeightsOf (gather_violation violations violation) (weights ++ w ∷ [])
one_weight (Ok xs) (Ok x) weights w h = length-append xs (_ ∷ []) ∙ ap (λ n. n + 1) h ∙ sym (length-append weights (w ∷ []))
one_weight (Ok xs) (Err f) weights w h = tt
one_weight (Err f) v weights w h = tt

pub weights_more : (violations after : Result (List ℤ) RunFault) (weights weights' : List ℤ) (w : ℤ) (violation : Result ℤ RunFault) → HasWeightsOf violations weights → after ≡ gather_violation violations violation → weights' ≡ weights ++ w ∷ [] → HasWeightsOf after weights'
weights_more violations after weights weights' w violation h e is =
    subst (λ n. HasWeightsOf n weights') (sym e) (subst (HasWeightsOf (gather_violation violations violation)) (sym is) (one_weight violations violation weights w h))

module _ (users : ℕ → NumberRule) (env : ℕ → Outcome) (depends : ℕ → Bool) (M : Model) (s : ℕ) where
  pub weighed_more : (k : ℕ) (p : Posted) (so_far after : Weighed) → k < length M.posted.items → p ≡ get_or M.posted.items k p →
      so_far ≡ weighed_in users env depends M s (take k M.posted.items) → after ≡ weigh_posted users env depends M s so_far p → after ≡ weighed_in users env depends M s (take (k + 1) M.posted.items)
  weighed_more k p so_far after lt is e h =
      h ∙ ap (λ w. weigh_posted users env depends M s w p) e
      ∙ sym (fold_more (weigh_posted users env depends M s) none_weighed M.posted.items k p lt ∙ ap (weigh_posted users env depends M s (weighed_in users env depends M s (take k M.posted.items))) (sym is))

  pub weighed_all : (k : ℕ) (so_far : Weighed) → length M.posted.items ≤ k → so_far ≡ weighed_in users env depends M s (take k M.posted.items) → so_far ≡ weighed_in users env depends M s M.posted.items
  weighed_all k so_far le e = e ∙ ap (weighed_in users env depends M s) (take_all k M.posted.items le)

  pub system_from : (violations : Result (List ℤ) RunFault) (weights : List ℤ) → ◌≡◌ {A = Weighed} (record { violations = violations; weights = weights }) (weighed_in users env depends M s M.posted.items) →
      weighted_violation violations weights ≡ violation_in_system users M env depends s
  system_from violations weights e = ap (λ (w : Weighed). weighted_violation w.violations w.weights) e

-- ---- the share of a term hangs on the variables in it alone
module _ (users : ℕ → NumberRule) (env other : ℕ → Outcome) (depends marks : ℕ → Bool) where
  abbrev Agree : List ℕ → Type 0
  Agree vars = (d : ℕ) → Contains vars d → (env d ≡ other d) × (depends d ≡ marks d)

  abbrev IsSame : Term → Type 0
  IsSame t = Agree (vars_of t) → share_of users env depends t ≡ share_of users other marks t

  -- a term, and that it is so of it
  abbrev Known : Type 0
  Known = (t : Term) × IsSame t

  same_args : (es : List Known) → Agree (joined (map vars_of (map (λ e. e.0) es))) → map (share_of users env depends) (map (λ e. e.0) es) ≡ map (share_of users other marks) (map (λ e. e.0) es)
  same_args [] agree = refl
  same_args (e ∷ es) agree =
      let one : share_of users env depends e.0 ≡ share_of users other marks e.0 = e.1 (λ d in'. agree d (Contains-append_left (vars_of e.0) (joined (map vars_of (map (λ e. e.0) es))) d in')) in
      let others = same_args es (λ d in'. agree d (Contains-append_right (vars_of e.0) (joined (map vars_of (map (λ e. e.0) es))) d in')) in
      ap (λ s. s ∷ map (share_of users env depends) (map (λ e. e.0) es)) one ∙ ap (λ ss. share_of users other marks e.0 ∷ ss) others

  layer : (y : Term-F Known) → IsSame (roll-Term (map-Term Known Term (λ e. e.0) y))
  layer (Term-F.Const x) agree =
      fold-roll-Term Share (share_step users env depends) (Term-F.Const x) ∙ sym (fold-roll-Term Share (share_step users other marks) (Term-F.Const x))
  layer (Term-F.ConstSet s) agree =
      fold-roll-Term Share (share_step users env depends) (Term-F.ConstSet s) ∙ sym (fold-roll-Term Share (share_step users other marks) (Term-F.ConstSet s))
  layer (Term-F.Var v) agree =
      let vars : vars_of (roll-Term (Term-F.Var v)) ≡ v.index ∷ [] = fold-roll-Term (List ℕ) vars_step (Term-F.Var v) in
      let there : Contains (vars_of (roll-Term (Term-F.Var v))) v.index = subst (λ vs. Contains vs v.index) (sym vars) (Contains-push [] v.index) in
      let both = agree v.index there in
      fold-roll-Term Share (share_step users env depends) (Term-F.Var v)
      ∙ ap (λ (o : Outcome). record { outcome = o; depends = depends v.index; violation = Ok (pos 0) }) both.0
      ∙ ap (λ (b : Bool). record { outcome = other v.index; depends = b; violation = Ok (pos 0) }) both.1
      ∙ sym (fold-roll-Term Share (share_step users other marks) (Term-F.Var v))
  layer (Term-F.Node op args place) agree =
      let z = map-Term Known Term (λ e. e.0) (Term-F.Node op args place) in
      let vars : vars_of (roll-Term z) ≡ joined (map vars_of (map (λ e. e.0) args.items)) = fold-roll-Term (List ℕ) vars_step z in
      let same = same_args args.items (λ d in'. agree d (subst (λ vs. Contains vs d) (sym vars) in')) in
      fold-roll-Term Share (share_step users env depends) z
      ∙ ap (λ ss. node_share users op (gathered (map (λ (s : Share). s.outcome) ss)) (arguments_of ss)) same
      ∙ sym (fold-roll-Term Share (share_step users other marks) z)

  pub same_share : (t : Term) → IsSame t
  same_share = ind-Term IsSame (λ x y is. subst (λ z. IsSame (roll-Term z)) is (layer y))

-- ---- so do the violations of a variable in a system
module _ (users : ℕ → NumberRule) (M : Model) (formed : IsWellFormed M) (env other : ℕ → Outcome) (depends marks : ℕ → Bool) (same : (d : ℕ) → d < length M.vars.items → (env d ≡ other d) × (depends d ≡ marks d)) (s : ℕ) where
  same_member : (weighed : Weighed) (p : Posted) (member : Option Member) → member ≡ member_in M (System s) p → with_member users env depends weighed member ≡ with_member users other marks weighed member
  same_member weighed p None e = refl
  same_member weighed p (Some member) e =
      let names = names_kinded (kinds_in M.vars.items) member.term (member_kinded M formed (System s) p member e) in
      let agree : (d : ℕ) → Contains (vars_of member.term) d → (env d ≡ other d) × (depends d ≡ marks d) =
      λ d in'. same d (some_within M.vars.items d (All-contains (λ n. IsSome (kinds_in M.vars.items n)) (vars_of member.term) d names in')) in
      ap (λ (u : Share). record { violations = gather_violation weighed.violations u.violation; weights = weighed.weights ++ member.weight ∷ [] }) (same_share users env other depends marks member.term agree)

  same_weighed : (weighed : Weighed) (posted : List Posted) → fold (weigh_posted users env depends M s) weighed posted ≡ fold (weigh_posted users other marks M s) weighed posted
  same_weighed weighed [] = refl
  same_weighed weighed (p ∷ posted) =
      ap (λ q. fold (weigh_posted users env depends M s) q posted) (same_member weighed p (member_in M (System s) p) refl) ∙ same_weighed (weigh_posted users other marks M s weighed p) posted

  pub same_system : violation_in_system users M env depends s ≡ violation_in_system users M other marks s
  same_system = ap (λ (w : Weighed). weighted_violation w.violations w.weights) (same_weighed none_weighed M.posted.items)

pub settled_system : (users : ℕ → NumberRule) (M : Model) → IsWellFormed M → (env : ℕ → Outcome) (x : ℕ) (marks : List Bool) → AreMarks M x marks → (s : ℕ) →
    violation_in_system users M env (marked marks) s ≡ violation_in_system users M env (var_depends M x) s
settled_system users M formed env x marks are s =
    same_system users M formed env env (marked marks) (var_depends M x) (λ d lt. (refl, ap (λ o. unwrap_or o false) (are d lt))) s

pub variable_from : (users : ℕ → NumberRule) (M : Model) (a : List ℤ) (s x : ℕ) (place : Place) (env : ℕ → Outcome) (marks : List Bool) (whole : Result ℤ Failure) (violation : Result ℤ RunFault) (result : Result ℤ AskStop) →
    IsWellFormed M → env ≡ outcome_of_var users M a → AreMarks M x marks → place ≡ place_of M (System s) → whole ≡ outcome_of_whole users M env (System s) place → violation ≡ violation_in_system users M env (marked marks) s →
    IsAnswer (answered whole violation) result → IsAnswer (variable_violations_of users M a s x) result
variable_from users M a s x place env marks whole violation result formed right are at w v h =
    let whole' : whole ≡ value_of users M a (System s) = w ∙ ap (outcome_of_whole users M env (System s)) at ∙ ap (λ e. outcome_of_whole users M e (System s) (place_of M (System s))) right in
    let violation' : violation ≡ violation_in_system users M (outcome_of_var users M a) (var_depends M x) s = v ∙ settled_system users M formed env x marks are s ∙ ap (λ e. violation_in_system users M e (var_depends M x) s) right in
    subst (λ answer. IsAnswer answer result) (ap (λ o. answered o violation) whole' ∙ ap (answered (value_of users M a (System s))) violation') h
