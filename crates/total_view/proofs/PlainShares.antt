-- A variable has in a plain model the violations that it has in the model.
use Rattle.std.proofs.Common.{◌≡◌, refl, ap, ◌∙◌, ℕ, ℤ, Bool, List, [], ◌∷◌, ◌++◌, fold, map, Option, Some, None}
use Rattle.std.specs.Option.{option_map}
use Rattle.cbl_base.specs.NumberRule.{NumberRule}
use Rattle.term_model.specs.declared.model.Member.{Member}
use Rattle.term_model.specs.declared.model.Model.{Model}
use Rattle.term_model.specs.declared.model.Posted.{Posted}
use Rattle.term_model.specs.declared.term.Term.{Term}
use Rattle.model_values.specs.Delta.{value_of}
use Rattle.model_values.specs.Dependence.{var_depends}
use Rattle.model_values.specs.Outcomes.{Outcome, gathered}
use Rattle.model_values.specs.Support.{member_in}
use Rattle.model_values.specs.VarOutcomes.{outcome_of_var}
use Rattle.model_values.specs.declared.wholes.Whole.TheVariants.{System}
use Rattle.comet_meaning.specs.OfViolationShares.VariableViolations.{Weighed, answered, arguments_of, gather_violation, node_share, none_weighed, share_of, share_step, variable_violations_of, violation_in_system, weigh_posted, weighed_in, weighted_violation, with_member}
use Rattle.comet_meaning.specs.OfModelView.Plain.{plain_term, plain_member, plain_model}
use Rattle.comet_meaning.proofs.OfModelView.PlainModels.{plain_posted, same_member_in, same_outcomes}
use Rattle.comet_meaning.proofs.OfModelView.PlainTerms.{same_fold}
use Rattle.total_view.proofs.PlainTotals.{same_depends, same_value_of}

same_share : (users : ℕ → NumberRule) (env : ℕ → Outcome) (depends : ℕ → Bool) (t : Term) → share_of users env depends (plain_term t) ≡ share_of users env depends t
same_share users env depends =
    same_fold (share_step users env depends) (record { node = λ op args others place e. ap (λ shares. node_share users op (gathered (map (λ share. share.outcome) shares)) (arguments_of shares)) e })

member_same : (users : ℕ → NumberRule) (env : ℕ → Outcome) (depends : ℕ → Bool) (weighed : Weighed) (x : Option Member) → with_member users env depends weighed (option_map plain_member x) ≡ with_member users env depends weighed x
member_same users env depends weighed None = refl
member_same users env depends weighed (Some m) =
    ap (λ share. record { violations = gather_violation weighed.violations share.violation; weights = weighed.weights ++ m.weight ∷ [] }) (same_share users env depends m.term)

weighed_same : (users : ℕ → NumberRule) (env : ℕ → Outcome) (depends : ℕ → Bool) (M : Model) (s : ℕ) (weighed : Weighed) (ps : List Posted) → fold (weigh_posted users env depends (plain_model M) s) weighed ps ≡ fold (weigh_posted users env depends M s) weighed ps
weighed_same users env depends M s weighed [] = refl
weighed_same users env depends M s weighed (p ∷ ps) =
    ap (λ x. fold (weigh_posted users env depends (plain_model M) s) x ps) (ap (with_member users env depends weighed) (same_member_in M (System s) p) ∙ member_same users env depends weighed (member_in M (System s) p))
    ∙ weighed_same users env depends M s (weigh_posted users env depends M s weighed p) ps

system_same : (users : ℕ → NumberRule) (M : Model) (env : ℕ → Outcome) (depends : ℕ → Bool) (s : ℕ) → violation_in_system users (plain_model M) env depends s ≡ violation_in_system users M env depends s
system_same users M env depends s =
    ap (λ ps. weighted_violation (weighed_in users env depends (plain_model M) s ps).violations (weighed_in users env depends (plain_model M) s ps).weights) (plain_posted M)
    ∙ ap (λ (weighed : Weighed). weighted_violation weighed.violations weighed.weights) (weighed_same users env depends M s none_weighed M.posted.items)

pub same_variable_violations : (users : ℕ → NumberRule) (M : Model) (a : List ℤ) (s x : ℕ) → variable_violations_of users (plain_model M) a s x ≡ variable_violations_of users M a s x
same_variable_violations users M a s x =
    ap (λ value. answered value (violation_in_system users (plain_model M) (outcome_of_var users (plain_model M) a) (var_depends (plain_model M) x) s)) (same_value_of users M a (System s))
    ∙ ap (λ (env : ℕ → Outcome). answered (value_of users M a (System s)) (violation_in_system users (plain_model M) env (var_depends (plain_model M) x) s)) (same_outcomes users M a)
    ∙ ap (λ (depends : ℕ → Bool). answered (value_of users M a (System s)) (violation_in_system users (plain_model M) (outcome_of_var users M a) depends s)) (same_depends M x)
    ∙ ap (answered (value_of users M a (System s))) (system_same users M (outcome_of_var users M a) (var_depends M x) s)
