-- What a variable or a term comes to is of its kind.
use Rattle.std.proofs.Common.{◌≡◌, ℕ, ℤ, zero, suc, ◌<◌, List, [], ◌∷◌, Option, Some, None, IsSome, All, fold, map, length, refl, sym, ap, ◌∙◌, subst, arith, slice_get}
use Rattle.std.specs.Prelude.{IfSome}
use Rattle.std.specs.Option.{option_map}
use Rattle.std.proofs.lemmas.List.Elements.{All-nil, All-cons, All-head, All-tail, All-weaker}
use Rattle.std.proofs.lemmas.Option.{slice_get_within}
use Rattle.cbl_base.specs.Inputs.{InputKind, kind_of, kinds_of}
use Rattle.cbl_base.specs.NumberRule.{NumberRule}
use Rattle.cbl_base.specs.declared.input.Input.{Input}
use Rattle.cbl_base.specs.declared.input.Input.TheVariants.{Int}
use Rattle.cbl_operations.specs.declared.op.Op.{Op}
use Rattle.model_values.specs.Outcomes.{AreKinds, HasKinds, gather, gathered, operated, outcome_of, outcome_step}
use Rattle.model_values.specs.VarOutcomes.{outcome_by, outcome_of_term, outcome_of_var, outcomes_through}
use Rattle.model_values.proofs.Kinded.{kind_of_operated, kinds_gather}
use Rattle.term_model.specs.Definitions.{definition_of, term_of}
use Rattle.term_model.specs.Kinds.{all_kinds, gather_kind, kind_of_term, kind_step, kinds_in, node_kind}
use Rattle.term_model.specs.Wellformed.{HasDefinedSets, IsWellFormed}
use Rattle.term_model.specs.declared.model.Definition.{Definition}
use Rattle.term_model.specs.declared.model.Model.{Model}
use Rattle.term_model.specs.declared.term.Term.{Term}
use Rattle.term_model.specs.declared.term.Term.TheOpen.{Term-F}
use Rattle.term_model.specs.declared.term.Term.TheViews.{roll-Term}
use Rattle.term_model.specs.declared.term.Term.TheFolds.{fold-roll-Term, ind-Term, map-Term}
use Rattle.term_model.proofs.Kinded.{args_kinded}
use Rattle.term_model.proofs.VarLaws.{definition_found, kind_of_definition, kind_within}

abbrev pub IsOfKind : Option Input → Option InputKind → Type 0
IsOfKind o kind = IfSome o (λ x. kind ≡ Some (kind_of x))

of_some : (o : Option Input) (kind : Option InputKind) (x : Input) → o ≡ Some x → IsOfKind o kind → kind ≡ Some (kind_of x)
of_some o kind x e is = subst (λ p. IsOfKind p kind) e is

-- ---- over variables of their kinds
module _ (users : ℕ → NumberRule) (kinds : ℕ → Option InputKind) (env : ℕ → Option Input) (has : HasKinds kinds env) where
  abbrev HasKind : Term → Type 0
  HasKind t = IsSome (kind_of_term kinds t)

  abbrev IsKinded : Term → Type 0
  IsKinded t = HasKind t → IsOfKind (outcome_of users env t) (kind_of_term kinds t)

  -- several terms one after another
  gathered_kinds : (ts : List Term) (so_far : Option (List Input)) (ks : Option (List InputKind)) → AreKinds so_far ks → All (λ t. IsOfKind (outcome_of users env t) (kind_of_term kinds t)) ts →
      AreKinds (fold gather so_far (map (outcome_of users env) ts)) (fold gather_kind ks (map (kind_of_term kinds) ts))
  gathered_kinds [] so_far ks are all = are
  gathered_kinds (t ∷ ts) so_far ks are all =
      gathered_kinds ts (gather so_far (outcome_of users env t)) (gather_kind ks (kind_of_term kinds t))
      (kinds_gather so_far (outcome_of users env t) ks (kind_of_term kinds t) are (All-head (λ u. IsOfKind (outcome_of users env u) (kind_of_term kinds u)) t ts all))
      (All-tail (λ u. IsOfKind (outcome_of users env u) (kind_of_term kinds u)) t ts all)

  abbrev Known : Type 0
  Known = (t : Term) × IsKinded t

  abbrev terms_of : List Known → List Term
  terms_of es = map (λ e. e.0) es

  all_kinded : (es : List Known) → All HasKind (terms_of es) → All (λ t. IsOfKind (outcome_of users env t) (kind_of_term kinds t)) (terms_of es)
  all_kinded [] all = All-nil (λ t. IsOfKind (outcome_of users env t) (kind_of_term kinds t))
  all_kinded (e ∷ es) all =
      All-cons (λ t. IsOfKind (outcome_of users env t) (kind_of_term kinds t)) e.0 (terms_of es) (e.1 (All-head HasKind e.0 (terms_of es) all)) (all_kinded es (All-tail HasKind e.0 (terms_of es) all))

  node_kinds : (op : Op) (inputs : Option (List Input)) (ks : Option (List InputKind)) → AreKinds inputs ks → IsSome (node_kind op ks) → IsOfKind (operated users op inputs) (node_kind op ks)
  node_kinds op (Some xs) ks are some = kind_of_operated users op xs ks are some
  node_kinds op None ks are some = tt

  var_kinds : (i : ℕ) (o : Option Input) → env i ≡ o → IsOfKind o (kinds i)
  var_kinds i (Some x) e = has i x e
  var_kinds i None e = tt

  rolled : (y : Term-F Term) → IsOfKind (outcome_step users env (map-Term Term (Option Input) (outcome_of users env) y)) (kind_step kinds (map-Term Term (Option InputKind) (kind_of_term kinds) y)) →
      IsOfKind (outcome_of users env (roll-Term y)) (kind_of_term kinds (roll-Term y))
  rolled y is =
      subst (λ o. IsOfKind o (kind_of_term kinds (roll-Term y))) (sym (fold-roll-Term (Option Input) (outcome_step users env) y))
      (subst (IsOfKind (outcome_step users env (map-Term Term (Option Input) (outcome_of users env) y))) (sym (fold-roll-Term (Option InputKind) (kind_step kinds) y)) is)

  layer : (y : Term-F Known) → IsKinded (roll-Term (map-Term Known Term (λ e. e.0) y))
  layer (Term-F.Const x) h = rolled (Term-F.Const x) refl
  layer (Term-F.ConstSet s) h = rolled (Term-F.ConstSet s) refl
  layer (Term-F.Var v) h = rolled (Term-F.Var v) (var_kinds v.index (env v.index) refl)
  layer (Term-F.Node op args place) h =
      let z = map-Term Known Term (λ e. e.0) (Term-F.Node op args place) in
      let ts = terms_of args.items in
      let some = subst IsSome (fold-roll-Term (Option InputKind) (kind_step kinds) z) h in
      rolled z (node_kinds op (gathered (map (outcome_of users env) ts)) (all_kinds (map (kind_of_term kinds) ts)) (gathered_kinds ts (Some []) (Some []) refl (all_kinded args.items (args_kinded op (kind_of_term kinds) ts some))) some)

  pub value_kinded : (t : Term) → IsKinded t
  value_kinded = ind-Term IsKinded (λ x y is. subst (λ z. IsKinded (roll-Term z)) is (layer y))

  -- the values of several terms have the kinds of these
  pub values_kinded : (ts : List Term) (xs : List Input) → All HasKind ts → gathered (map (outcome_of users env) ts) ≡ Some xs → all_kinds (map (kind_of_term kinds) ts) ≡ Some (kinds_of xs)
  values_kinded ts xs all e =
      subst (λ v. AreKinds v (all_kinds (map (kind_of_term kinds) ts))) e
      (gathered_kinds ts (Some []) (Some []) refl (All-weaker HasKind (λ t. IsOfKind (outcome_of users env t) (kind_of_term kinds t)) value_kinded ts all))

-- ---- the variables of a model are
module _ (users : ℕ → NumberRule) (M : Model) (a : List ℤ) (formed : IsWellFormed M) (sets : HasDefinedSets M) (long : length a ≡ length M.vars.items) where
  free_kinded : (i : ℕ) (x : Input) (o : Option ℤ) → definition_of M i ≡ None → slice_get a i ≡ o → option_map (λ z. Int z) o ≡ Some x → kinds_in M.vars.items i ≡ Some (kind_of x)
  free_kinded i x None free at e = let c : None ≡ Some x = e in cc
  free_kinded i x (Some z) free at e =
      let within = slice_get_within a i z at in
      let lt : i < length M.vars.items = omega (arith, within, long) in
      sets i lt free ∙ ap (λ (o : Option Input). option_map kind_of o) e

  defined_kinded : (env : ℕ → Option Input) → HasKinds (kinds_in M.vars.items) env → (i d : ℕ) (x : Input) → definition_of M i ≡ Some d → outcome_of_term users env (term_of M.defs.items d) ≡ Some x → kinds_in M.vars.items i ≡ Some (kind_of x)
  defined_kinded env has i d x is e =
      let found = definition_found M i d is in
      let term : term_of M.defs.items d ≡ Some found.0.term = ap (option_map (λ (def : Definition). def.term)) found.1 in
      let kind = kind_of_definition M formed i d found.0 is found.1 in
      let lt : i < length M.vars.items = subst (λ n. n < length M.vars.items) found.2 (formed.defs d found.0 found.1).var in
      let value : outcome_of users env found.0.term ≡ Some x = sym (ap (outcome_of_term users env) term) ∙ e in
      sym kind ∙ of_some (outcome_of users env found.0.term) (kind_of_term (kinds_in M.vars.items) found.0.term) x value
      (value_kinded users (kinds_in M.vars.items) env has found.0.term (subst IsSome (sym kind) (kind_within M.vars.items i lt)))

  through_kinded : (n : ℕ) → HasKinds (kinds_in M.vars.items) (outcomes_through users M a n)
  unfolding outcomes_through
  through_kinded zero i x e = let c : None ≡ Some x = e in cc
  through_kinded (suc n) i x e = by (definition_of M i) refl e (through_kinded n)
    where
      by : (entry : Option ℕ) → definition_of M i ≡ entry → outcome_by users M a (outcomes_through users M a n) i entry ≡ Some x → HasKinds (kinds_in M.vars.items) (outcomes_through users M a n) → kinds_in M.vars.items i ≡ Some (kind_of x)
      by None is h below = free_kinded i x (slice_get a i) is refl h
      by (Some d) is h below = defined_kinded (outcomes_through users M a n) below i d x is h

  pub variables_kinded : HasKinds (kinds_in M.vars.items) (outcome_of_var users M a)
  variables_kinded = through_kinded (length M.vars.items)
