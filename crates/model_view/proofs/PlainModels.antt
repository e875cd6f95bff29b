-- A model and its plain twin have the same definitions, distinct subterms and values.
use Rattle.std.proofs.Common.{◌≡◌, refl, sym, ap, ◌∙◌, Vec, Global, ℕ, zero, suc, ◌+◌, ℤ, Bool, true, false, List, [], ◌∷◌, ◌++◌, map, fold, length, nat_eq, Option, Some, None, Ok, slice_get}
use Rattle.std.specs.Prelude.{is_some, unwrap_or, if◌then◌else◌}
use Rattle.std.specs.Option.{option_map, option_and_then}
use Rattle.std.specs.List.{find, range_with_len, enumerate_from}
use Rattle.std.proofs.Math.Path.{fun_ext}
use Rattle.std.proofs.lemmas.Option.{slice_get-map}
use Rattle.cbl_base.specs.NumberRule.{NumberRule}
use Rattle.cbl_base.specs.declared.place.Place.{Place}
use Rattle.term_model.specs.Definitions.{is_of, note, definition_in, definition_of, term_of}
use Rattle.term_model.specs.Posting.{totals_by, member_at, term_posted}
use Rattle.term_model.specs.Subterms.{subterms_where, subterms_posted, once, distinct_subterms}
use Rattle.term_model.specs.declared.model.Definition.{Definition}
use Rattle.term_model.specs.declared.model.Member.{Member}
use Rattle.term_model.specs.declared.model.Model.{Model}
use Rattle.term_model.specs.declared.model.Posted.{Posted}
use Rattle.term_model.specs.declared.model.Posted.TheVariants.{Define, Constrain, Part}
use Rattle.term_model.specs.declared.model.Total.{Total}
use Rattle.term_model.specs.declared.posting.Side.{Side}
use Rattle.term_model.specs.declared.posting.Side.TheVariants.{Systems, Objectives}
use Rattle.term_model.specs.declared.term.Term.{Term}
use Rattle.term_model.specs.declared.term.Term.TheOpen.{Term-F}
use Rattle.term_model.specs.declared.term.Term.TheViews.{out-Term}
use Rattle.model_values.specs.Failures.{failure_by, failure_at, failure_of, fails, first_failure}
use Rattle.model_values.specs.Fresh.{Sums, fresh_vars, gather_sum, whole_by, add_sum, sums_in, fresh_sums, all_joined, joined_or, fresh_in, fresh_of}
use Rattle.model_values.specs.Outcomes.{Outcome, gathered, outcome_of}
use Rattle.model_values.specs.Support.{member_in}
use Rattle.model_values.specs.VarOutcomes.{outcome_of_term, outcome_by, outcomes_through, outcome_of_var}
use Rattle.model_values.specs.Wholes.{Parts, gather_number, with_part, add_posted, no_parts, parts_in, sum_of, sum_in}
use Rattle.model_values.specs.declared.wholes.Whole.{Whole}
use Rattle.model_values.specs.declared.wholes.Whole.TheVariants.{System, Objective}
use Rattle.model_view.specs.Vectors.{vec_of}
use Rattle.model_view.specs.Plain.{plain_term, plain_definition, plain_member, plain_total, plain_model}
use Rattle.model_view.proofs.PlainTerms.{items_of_vec, length_map}
use Rattle.model_view.proofs.PlainParts.{same_outcome, plain_layer, plain_out, args_of_vec}
use Rattle.model_view.proofs.PlainSubterms.{same_subterms, map_append, once_plain}

-- the lists of a plain model

pub mapped_items : {X Y : Type 0} (f : X → Y) (v : Vec X Global) → (vec_of (map f v.items)).items ≡ map f v.items
mapped_items f v = items_of_vec v (map f v.items) (length_map f v.items)

pub plain_vars : (M : Model) → (plain_model M).vars.items ≡ M.vars.items
plain_vars M = items_of_vec M.vars M.vars.items refl

pub plain_defs : (M : Model) → (plain_model M).defs.items ≡ map plain_definition M.defs.items
plain_defs M = mapped_items plain_definition M.defs

pub plain_posted : (M : Model) → (plain_model M).posted.items ≡ M.posted.items
plain_posted M = items_of_vec M.posted M.posted.items refl

pub plain_totals : (M : Model) (side : Side) → totals_by (plain_model M) side ≡ map plain_total (totals_by M side)
plain_totals M Systems = mapped_items plain_total M.systems
plain_totals M Objectives = mapped_items plain_total M.objectives

-- definitions

same_of : (defs : List Definition) (i d : ℕ) → is_of (map plain_definition defs) i d ≡ is_of defs i d
same_of defs i d = ap (λ x. unwrap_or (option_map (λ def. nat_eq def.var.index i) x) false) (slice_get-map plain_definition defs d) ∙ by_case (slice_get defs d) where
  by_case : (x : Option Definition) → unwrap_or (option_map (λ (def : Definition). nat_eq def.var.index i) (option_map plain_definition x)) false ≡ unwrap_or (option_map (λ (def : Definition). nat_eq def.var.index i) x) false
  by_case None = refl
  by_case (Some def) = refl

same_note : (defs : List Definition) (i : ℕ) (so_far : Option ℕ) (p : Posted) → note (map plain_definition defs) i so_far p ≡ note defs i so_far p
same_note defs i so_far (Define d) = ap (λ b. if b then Some d else so_far) (same_of defs i d)
same_note defs i so_far (Constrain system member) = refl
same_note defs i so_far (Part objective member) = refl

same_notes : (defs : List Definition) (i : ℕ) (so_far : Option ℕ) (ps : List Posted) → fold (note (map plain_definition defs) i) so_far ps ≡ fold (note defs i) so_far ps
same_notes defs i so_far [] = refl
same_notes defs i so_far (p ∷ ps) = ap (λ x. fold (note (map plain_definition defs) i) x ps) (same_note defs i so_far p) ∙ same_notes defs i (note defs i so_far p) ps

pub same_definition : (M : Model) (i : ℕ) → definition_of (plain_model M) i ≡ definition_of M i
same_definition M i =
    ap (λ defs. definition_in defs (plain_model M).posted.items i) (plain_defs M)
    ∙ ap (λ ps. definition_in (map plain_definition M.defs.items) ps i) (plain_posted M)
    ∙ same_notes M.defs.items i None M.posted.items

twice_mapped : {X Y Z : Type 0} (f : X → Y) (g : Y → Z) (x : Option X) → option_map g (option_map f x) ≡ option_map (λ y. g (f y)) x
twice_mapped f g None = refl
twice_mapped f g (Some x) = refl

pub same_term_of : (defs : List Definition) (d : ℕ) → term_of (map plain_definition defs) d ≡ option_map plain_term (term_of defs d)
same_term_of defs d =
    ap (option_map (λ def. def.term)) (slice_get-map plain_definition defs d)
    ∙ twice_mapped plain_definition (λ def. def.term) (slice_get defs d)
    ∙ sym (twice_mapped (λ (def : Definition). def.term) plain_term (slice_get defs d))

-- members

same_member_at : (totals : List Total) (k member : ℕ) → member_at (map plain_total totals) k member ≡ option_map plain_member (member_at totals k member)
same_member_at totals k member = ap (option_and_then (λ total. slice_get total.members.items member)) (slice_get-map plain_total totals k) ∙ by_case (slice_get totals k) where
  by_case : (x : Option Total) → option_and_then (λ (total : Total). slice_get total.members.items member) (option_map plain_total x) ≡ option_map plain_member (option_and_then (λ (total : Total). slice_get total.members.items member) x)
  by_case None = refl
  by_case (Some t) = ap (λ ms. slice_get ms member) (mapped_items plain_member t.members) ∙ slice_get-map plain_member t.members.items member

in_total : (M : Model) (side : Side) (k member : ℕ) → member_at (totals_by (plain_model M) side) k member ≡ option_map plain_member (member_at (totals_by M side) k member)
in_total M side k member = ap (λ ts. member_at ts k member) (plain_totals M side) ∙ same_member_at (totals_by M side) k member

by_number : (b : Bool) (x y : Option Member) → x ≡ option_map plain_member y → (if b then x else None) ≡ option_map plain_member (if b then y else None)
by_number true x y e = e
by_number false x y e = refl

pub same_member_in : (M : Model) (whole : Whole) (p : Posted) → member_in (plain_model M) whole p ≡ option_map plain_member (member_in M whole p)
same_member_in M (System s) (Constrain system member) = by_number (nat_eq system s) _ _ (in_total M Systems s member)
same_member_in M (Objective o) (Part objective member) = by_number (nat_eq objective o) _ _ (in_total M Objectives o member)
same_member_in M (System s) (Define d) = refl
same_member_in M (System s) (Part objective member) = refl
same_member_in M (Objective o) (Define d) = refl
same_member_in M (Objective o) (Constrain system member) = refl

-- what was posted, and its subterms

term_of_member : (x : Option Member) → option_map (λ (m : Member). m.term) (option_map plain_member x) ≡ option_map plain_term (option_map (λ (m : Member). m.term) x)
term_of_member None = refl
term_of_member (Some m) = refl

same_posted : (M : Model) (p : Posted) → term_posted (plain_model M) p ≡ option_map plain_term (term_posted M p)
same_posted M (Define d) = ap (λ defs. term_of defs d) (plain_defs M) ∙ same_term_of M.defs.items d
same_posted M (Constrain system member) = ap (option_map (λ m. m.term)) (in_total M Systems system member) ∙ term_of_member (member_at M.systems.items system member)
same_posted M (Part objective member) = ap (option_map (λ m. m.term)) (in_total M Objectives objective member) ∙ term_of_member (member_at M.objectives.items objective member)

below_posted : (x : Option Term) → subterms_where (option_map plain_term x) ≡ map plain_term (subterms_where x)
below_posted None = refl
below_posted (Some t) = same_subterms t

pub joined_posted : (M : Model) (ps : List Posted) → subterms_posted (plain_model M) ps ≡ map plain_term (subterms_posted M ps)
joined_posted M [] = refl
joined_posted M (p ∷ ps) =
    ap (λ x. subterms_where x ++ subterms_posted (plain_model M) ps) (same_posted M p)
    ∙ ap (λ ts. ts ++ subterms_posted (plain_model M) ps) (below_posted (term_posted M p))
    ∙ ap (λ ts. map plain_term (subterms_where (term_posted M p)) ++ ts) (joined_posted M ps)
    ∙ sym (map_append plain_term (subterms_where (term_posted M p)) (subterms_posted M ps))

pub same_distinct : (M : Model) → distinct_subterms (plain_model M) ≡ map plain_term (distinct_subterms M)
same_distinct M =
    ap (λ ps. once (subterms_posted (plain_model M) ps)) (plain_posted M)
    ∙ ap once (joined_posted M M.posted.items)
    ∙ once_plain (subterms_posted M M.posted.items)

-- what variables come to

outcome_of_some : (users : ℕ → NumberRule) (env : ℕ → Outcome) (x : Option Term) → outcome_of_term users env (option_map plain_term x) ≡ outcome_of_term users env x
outcome_of_some users env None = refl
outcome_of_some users env (Some t) = same_outcome users env t

outcome_by_same : (users : ℕ → NumberRule) (M : Model) (a : List ℤ) (env other : ℕ → Outcome) (i : ℕ) (d : Option ℕ) → env ≡ other → outcome_by users (plain_model M) a env i d ≡ outcome_by users M a other i d
outcome_by_same users M a env other i None e = refl
outcome_by_same users M a env other i (Some d) e =
    ap (λ defs. outcome_of_term users env (term_of defs d)) (plain_defs M)
    ∙ ap (outcome_of_term users env) (same_term_of M.defs.items d)
    ∙ outcome_of_some users env (term_of M.defs.items d)
    ∙ ap (λ f. outcome_of_term users f (term_of M.defs.items d)) e

same_through : (users : ℕ → NumberRule) (M : Model) (a : List ℤ) (n : ℕ) → outcomes_through users (plain_model M) a n ≡ outcomes_through users M a n
unfolding outcomes_through
same_through users M a zero = refl
same_through users M a (suc n) = fun_ext (λ i.
    ap (outcome_by users (plain_model M) a (outcomes_through users (plain_model M) a n) i) (same_definition M i)
    ∙ outcome_by_same users M a (outcomes_through users (plain_model M) a n) (outcomes_through users M a n) i (definition_of M i) (same_through users M a n))

pub same_outcomes : (users : ℕ → NumberRule) (M : Model) (a : List ℤ) → outcome_of_var users (plain_model M) a ≡ outcome_of_var users M a
same_outcomes users M a = ap (λ vars. outcomes_through users (plain_model M) a (length vars)) (plain_vars M) ∙ same_through users M a (length M.vars.items)

-- failures

outcomes_of_args : (users : ℕ → NumberRule) (env : ℕ → Outcome) (ts : List Term) → map (outcome_of users env) (map plain_term ts) ≡ map (outcome_of users env) ts
outcomes_of_args users env [] = refl
outcomes_of_args users env (t ∷ ts) = ap (λ o. o ∷ map (outcome_of users env) (map plain_term ts)) (same_outcome users env t) ∙ ap (λ os. outcome_of users env t ∷ os) (outcomes_of_args users env ts)

failure_same : (users : ℕ → NumberRule) (env : ℕ → Outcome) (y : Term-F Term) → failure_at users env (plain_layer y) ≡ failure_at users env y
failure_same users env (Term-F.Const x) = refl
failure_same users env (Term-F.ConstSet s) = refl
failure_same users env (Term-F.Var v) = refl
failure_same users env (Term-F.Node op args place) =
    ap (λ os. failure_by users op place (gathered os)) (ap (map (outcome_of users env)) (args_of_vec args) ∙ outcomes_of_args users env args.items)

same_failure : (users : ℕ → NumberRule) (env : ℕ → Outcome) (t : Term) → failure_of users env (plain_term t) ≡ failure_of users env t
same_failure users env t = ap (failure_at users env) (plain_out t) ∙ failure_same users env (out-Term t)

pub first_same : (users : ℕ → NumberRule) (env : ℕ → Outcome) (ts : List Term) → first_failure users env (map plain_term ts) ≡ first_failure users env ts
first_same users env [] = refl
first_same users env (t ∷ ts) =
    ap (λ b. option_and_then (failure_of users env) (if b then Some (plain_term t) else find (fails users env) (map plain_term ts))) (ap is_some (same_failure users env t))
    ∙ by_test (fails users env t) (first_same users env ts) where
      by_test : (b : Bool) → first_failure users env (map plain_term ts) ≡ first_failure users env ts → option_and_then (failure_of users env) (if b then Some (plain_term t) else find (fails users env) (map plain_term ts)) ≡ option_and_then (failure_of users env) (if b then Some t else find (fails users env) ts)
      by_test true rest = same_failure users env t
      by_test false rest = rest

-- totals

part_same : (users : ℕ → NumberRule) (env : ℕ → Outcome) (parts : Parts) (x : Option Member) → with_part users env parts (option_map plain_member x) ≡ with_part users env parts x
part_same users env parts None = refl
part_same users env parts (Some m) = ap (λ o. record { numbers = gather_number parts.numbers o; weights = parts.weights ++ m.weight ∷ [] }) (same_outcome users env m.term)

parts_same : (users : ℕ → NumberRule) (env : ℕ → Outcome) (M : Model) (whole : Whole) (parts : Parts) (ps : List Posted) → fold (add_posted users env (plain_model M) whole) parts ps ≡ fold (add_posted users env M whole) parts ps
parts_same users env M whole parts [] = refl
parts_same users env M whole parts (p ∷ ps) =
    ap (λ x. fold (add_posted users env (plain_model M) whole) x ps) (ap (with_part users env parts) (same_member_in M whole p) ∙ part_same users env parts (member_in M whole p))
    ∙ parts_same users env M whole (add_posted users env M whole parts p) ps

pub sum_same : (users : ℕ → NumberRule) (M : Model) (env : ℕ → Outcome) (whole : Whole) (place : Place) → sum_in users (plain_model M) env whole place ≡ sum_in users M env whole place
sum_same users M env whole place =
    ap (λ ps. sum_of place (parts_in users env (plain_model M) whole ps).numbers (parts_in users env (plain_model M) whole ps).weights) (plain_posted M)
    ∙ ap (λ parts. sum_of place parts.numbers parts.weights) (parts_same users env M whole no_parts M.posted.items)

sums_same : (users : ℕ → NumberRule) (M : Model) (env : ℕ → Outcome) (side : Side) (so_far : Sums) (n : ℕ) (totals : List Total) → fold (add_sum users (plain_model M) env side) so_far (enumerate_from n (map plain_total totals)) ≡ fold (add_sum users M env side) so_far (enumerate_from n totals)
sums_same users M env side so_far n [] = refl
sums_same users M env side so_far n (t ∷ ts) =
    ap (λ x. fold (add_sum users (plain_model M) env side) (gather_sum so_far x) (enumerate_from (n + 1) (map plain_total ts))) (sum_same users M env (whole_by side n) t.place)
    ∙ sums_same users M env side (add_sum users M env side so_far (n, t)) (n + 1) ts

all_sums_same : (users : ℕ → NumberRule) (M : Model) (env : ℕ → Outcome) (side : Side) → fresh_sums users (plain_model M) env side ≡ fresh_sums users M env side
all_sums_same users M env side =
    ap (λ ts. sums_in users (plain_model M) env side (enumerate_from 0 ts)) (plain_totals M side)
    ∙ sums_same users M env side (Some (Ok [])) 0 (totals_by M side)

fresh_same : (users : ℕ → NumberRule) (M : Model) (env : ℕ → Outcome) → fresh_in users (plain_model M) env ≡ fresh_in users M env
fresh_same users M env =
    ap (λ vars. joined_or (all_joined (gathered (map env (range_with_len 0 (length vars)))) (fresh_sums users (plain_model M) env Systems) (fresh_sums users (plain_model M) env Objectives)) (first_failure users env (distinct_subterms (plain_model M)))) (plain_vars M)
    ∙ ap (λ sums. joined_or (all_joined (fresh_vars users M env) sums (fresh_sums users (plain_model M) env Objectives)) (first_failure users env (distinct_subterms (plain_model M)))) (all_sums_same users M env Systems)
    ∙ ap (λ sums. joined_or (all_joined (fresh_vars users M env) (fresh_sums users M env Systems) sums) (first_failure users env (distinct_subterms (plain_model M)))) (all_sums_same users M env Objectives)
    ∙ ap (joined_or (all_joined (fresh_vars users M env) (fresh_sums users M env Systems) (fresh_sums users M env Objectives))) (ap (first_failure users env) (same_distinct M) ∙ first_same users env (distinct_subterms M))

pub same_values : (users : ℕ → NumberRule) (M : Model) (a : List ℤ) → fresh_of users (plain_model M) a ≡ fresh_of users M a
same_values users M a = ap (fresh_in users (plain_model M)) (same_outcomes users M a) ∙ fresh_same users M (outcome_of_var users M a)
