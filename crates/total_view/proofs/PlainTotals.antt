-- A system or an objective has in a plain model the value and the deltas that it has in the model.
use Rattle.std.proofs.Common.{◌≡◌, refl, ap, ◌∙◌, ℕ, zero, suc, ℤ, Bool, true, false, ◌||◌, List, [], ◌∷◌, map, length, nat_eq, Option, Some, None, Result, Err, slice_get}
use Rattle.std.specs.Prelude.{filter, is_some, unwrap_or, if◌then◌else◌}
use Rattle.std.specs.Option.{option_map}
use Rattle.std.specs.List.{list_any}
use Rattle.std.proofs.Math.Path.{fun_ext}
use Rattle.std.proofs.lemmas.Option.{slice_get-map}
use Rattle.cbl_base.specs.NumberRule.{NumberRule}
use Rattle.cbl_base.specs.declared.faults.RunFault.TheVariants.{DefinedVariable}
use Rattle.term_model.specs.Definitions.{definition_of, joined, named_by}
use Rattle.term_model.specs.SameTerms.{same_term}
use Rattle.term_model.specs.Subterms.{distinct_subterms, subterms_posted}
use Rattle.term_model.specs.declared.model.Definition.{Definition}
use Rattle.term_model.specs.declared.model.Member.{Member}
use Rattle.term_model.specs.declared.model.Model.{Model}
use Rattle.term_model.specs.declared.model.Posted.{Posted}
use Rattle.term_model.specs.declared.model.Posted.TheVariants.{Define, Constrain, Part}
use Rattle.term_model.specs.declared.model.Total.{Total}
use Rattle.term_model.specs.declared.posting.Side.TheVariants.{Systems, Objectives}
use Rattle.term_model.specs.declared.term.Term.{Term}
use Rattle.model_values.specs.Delta.{delta_of, difference, moved, moves_defined, value_of}
use Rattle.model_values.specs.Dependence.{depends_through, var_depends}
use Rattle.model_values.specs.Failures.{first_failure}
use Rattle.model_values.specs.Outcomes.{Outcome}
use Rattle.model_values.specs.Support.{failure_below, member_in, one_depends, roots_in, stands_on, supports, vars_in}
use Rattle.model_values.specs.VarOutcomes.{outcome_of_var}
use Rattle.model_values.specs.Wholes.{outcome_of_whole, place_in, place_of, sum_in, sum_or}
use Rattle.model_values.specs.declared.asked.AskStop.{AskStop}
use Rattle.model_values.specs.declared.asked.AskStop.TheVariants.{Run}
use Rattle.model_values.specs.declared.deltas.Move.{Move}
use Rattle.model_values.specs.declared.deltas.Move.TheVariants.{Assign, Swap}
use Rattle.model_values.specs.declared.failure.Failure.{Failure}
use Rattle.model_values.specs.declared.wholes.Whole.{Whole}
use Rattle.model_values.specs.declared.wholes.Whole.TheVariants.{System, Objective}
use Rattle.comet_meaning.specs.OfModelView.Plain.{plain_term, plain_definition, plain_member, plain_total, plain_model}
use Rattle.comet_meaning.proofs.OfModelView.Dependencies.{same_named}
use Rattle.comet_meaning.proofs.OfModelView.PlainModels.{first_same, joined_posted, plain_defs, plain_posted, plain_totals, plain_vars, same_definition, same_distinct, same_member_in, same_outcomes, sum_same}
use Rattle.comet_meaning.proofs.OfModelView.PlainParts.{same_vars}
use Rattle.comet_meaning.proofs.OfModelView.PlainSubterms.{any_plain}

-- which variables depend on one

named_in : (M : Model) (i : ℕ) → named_by (plain_model M).defs.items (definition_of (plain_model M) i) ≡ named_by M.defs.items (definition_of M i)
named_in M i =
    ap (λ defs. named_by defs (definition_of (plain_model M) i)) (plain_defs M)
    ∙ ap (named_by (map plain_definition M.defs.items)) (same_definition M i)
    ∙ same_named M.defs.items (definition_of M i)

same_through : (M : Model) (x n i : ℕ) → depends_through (plain_model M) x n i ≡ depends_through M x n i
unfolding depends_through
same_through M x zero i = refl
same_through M x (suc n) i =
    ap (λ ds. nat_eq i x || list_any (depends_through (plain_model M) x n) ds) (named_in M i)
    ∙ ap (λ (f : ℕ → Bool). nat_eq i x || list_any f (named_by M.defs.items (definition_of M i))) (fun_ext (same_through M x n))

pub same_depends : (M : Model) (x : ℕ) → var_depends (plain_model M) x ≡ var_depends M x
same_depends M x = ap (λ vars. depends_through (plain_model M) x (length vars)) (plain_vars M) ∙ fun_ext (same_through M x (length M.vars.items))

-- on which subterms a system or an objective stands

vars_same : (x : Option Member) → vars_in (option_map plain_member x) ≡ vars_in x
vars_same None = refl
vars_same (Some m) = same_vars m.term

roots_same : (M : Model) (whole : Whole) (ps : List Posted) → roots_in (plain_model M) whole ps ≡ roots_in M whole ps
roots_same M whole ps = ap (λ (f : Posted → List ℕ). joined (map f ps)) (fun_ext (λ p. ap vars_in (same_member_in M whole p) ∙ vars_same (member_in M whole p)))

all_roots : (M : Model) (whole : Whole) → roots_in (plain_model M) whole (plain_model M).posted.items ≡ roots_in M whole M.posted.items
all_roots M whole = ap (roots_in (plain_model M) whole) (plain_posted M) ∙ roots_same M whole M.posted.items

there_same : (x : Option Member) → is_some (option_map plain_member x) ≡ is_some x
there_same None = refl
there_same (Some m) = refl

abbrev defined_on : Model → List ℕ → Option Definition → Bool
defined_on N roots x = unwrap_or (option_map (λ (def : Definition). one_depends N roots def.var.index) x) false

defined_same : (M : Model) (roots : List ℕ) (x : Option Definition) → defined_on (plain_model M) roots (option_map plain_definition x) ≡ defined_on M roots x
defined_same M roots None = refl
defined_same M roots (Some def) = ap (λ (f : ℕ → Bool). list_any f roots) (same_depends M def.var.index)

supports_same : (M : Model) (whole : Whole) (p : Posted) → supports (plain_model M) whole p ≡ supports M whole p
supports_same M whole (Define d) =
    ap (λ defs. defined_on (plain_model M) (roots_in (plain_model M) whole (plain_model M).posted.items) (slice_get defs d)) (plain_defs M)
    ∙ ap (λ roots. defined_on (plain_model M) roots (slice_get (map plain_definition M.defs.items) d)) (all_roots M whole)
    ∙ ap (defined_on (plain_model M) (roots_in M whole M.posted.items)) (slice_get-map plain_definition M.defs.items d)
    ∙ defined_same M (roots_in M whole M.posted.items) (slice_get M.defs.items d)
supports_same M whole (Constrain system member) = ap is_some (same_member_in M whole (Constrain system member)) ∙ there_same (member_in M whole (Constrain system member))
supports_same M whole (Part objective member) = ap is_some (same_member_in M whole (Part objective member)) ∙ there_same (member_in M whole (Part objective member))

stands_same : (M : Model) (whole : Whole) (t : Term) → stands_on (plain_model M) whole (plain_term t) ≡ stands_on M whole t
stands_same M whole t =
    ap (λ ps. list_any (same_term (plain_term t)) (subterms_posted (plain_model M) (filter (supports (plain_model M) whole) ps))) (plain_posted M)
    ∙ ap (λ (f : Posted → Bool). list_any (same_term (plain_term t)) (subterms_posted (plain_model M) (filter f M.posted.items))) (fun_ext (supports_same M whole))
    ∙ ap (list_any (same_term (plain_term t))) (joined_posted M (filter (supports M whole) M.posted.items))
    ∙ any_plain t (subterms_posted M (filter (supports M whole) M.posted.items))

filtered : (p q : Term → Bool) → ((t : Term) → p (plain_term t) ≡ q t) → (ts : List Term) → filter p (map plain_term ts) ≡ map plain_term (filter q ts)
filtered p q same [] = refl
filtered p q same (t ∷ ts) =
    ap (λ b. if b then plain_term t ∷ filter p (map plain_term ts) else filter p (map plain_term ts)) (same t)
    ∙ ap (λ us. if q t then plain_term t ∷ us else us) (filtered p q same ts)
    ∙ by_test (q t)
  where
    by_test : (b : Bool) → (if b then plain_term t ∷ map plain_term (filter q ts) else map plain_term (filter q ts)) ≡ map plain_term (if b then t ∷ filter q ts else filter q ts)
    by_test true = refl
    by_test false = refl

below_same : (users : ℕ → NumberRule) (M : Model) (env : ℕ → Outcome) (whole : Whole) → failure_below users (plain_model M) env whole ≡ failure_below users M env whole
below_same users M env whole =
    ap (λ ts. first_failure users env (filter (stands_on (plain_model M) whole) ts)) (same_distinct M)
    ∙ ap (first_failure users env) (filtered (stands_on (plain_model M) whole) (stands_on M whole) (stands_same M whole) (distinct_subterms M))
    ∙ first_same users env (filter (stands_on M whole) (distinct_subterms M))

-- where it was declared

declared_same : (totals : List Total) (k : ℕ) → place_in (map plain_total totals) k ≡ place_in totals k
declared_same totals k = ap (λ x. unwrap_or (option_map (λ (total : Total). total.place) x) (record { line = 0; col = 0 })) (slice_get-map plain_total totals k) ∙ by_case (slice_get totals k)
  where
    by_case : (x : Option Total) → unwrap_or (option_map (λ (total : Total). total.place) (option_map plain_total x)) (record { line = 0; col = 0 }) ≡ unwrap_or (option_map (λ (total : Total). total.place) x) (record { line = 0; col = 0 })
    by_case None = refl
    by_case (Some total) = refl

place_same : (M : Model) (whole : Whole) → place_of (plain_model M) whole ≡ place_of M whole
place_same M (System s) = ap (λ totals. place_in totals s) (plain_totals M Systems) ∙ declared_same M.systems.items s
place_same M (Objective o) = ap (λ totals. place_in totals o) (plain_totals M Objectives) ∙ declared_same M.objectives.items o

-- what it comes to, and how that changes

pub same_value_of : (users : ℕ → NumberRule) (M : Model) (a : List ℤ) (whole : Whole) → value_of users (plain_model M) a whole ≡ value_of users M a whole
same_value_of users M a whole =
    ap (λ (env : ℕ → Outcome). outcome_of_whole users (plain_model M) env whole (place_of (plain_model M) whole)) (same_outcomes users M a)
    ∙ ap (outcome_of_whole users (plain_model M) (outcome_of_var users M a) whole) (place_same M whole)
    ∙ ap (λ sum. sum_or sum (failure_below users (plain_model M) (outcome_of_var users M a) whole)) (sum_same users M (outcome_of_var users M a) whole (place_of M whole))
    ∙ ap (sum_or (sum_in users M (outcome_of_var users M a) whole (place_of M whole))) (below_same users M (outcome_of_var users M a) whole)

moves_same : (M : Model) (move : Move) → moves_defined (plain_model M) move ≡ moves_defined M move
moves_same M (Assign var value) = ap is_some (same_definition M var)
moves_same M (Swap left right) =
    ap (λ d. is_some d || is_some (definition_of (plain_model M) right)) (same_definition M left) ∙ ap (λ d. is_some (definition_of M left) || is_some d) (same_definition M right)

abbrev delta_by : Bool → Result ℤ Failure → Result ℤ Failure → Result ℤ AskStop
delta_by b after now = if b then Err (Run DefinedVariable) else difference after now

pub same_delta : (users : ℕ → NumberRule) (M : Model) (a : List ℤ) (whole : Whole) (move : Move) → delta_of users (plain_model M) a whole move ≡ delta_of users M a whole move
same_delta users M a whole move =
    ap (λ b. delta_by b (value_of users (plain_model M) (moved a move) whole) (value_of users (plain_model M) a whole)) (moves_same M move)
    ∙ ap (λ after. delta_by (moves_defined M move) after (value_of users (plain_model M) a whole)) (same_value_of users M (moved a move) whole)
    ∙ ap (delta_by (moves_defined M move) (value_of users M (moved a move) whole)) (same_value_of users M a whole)
