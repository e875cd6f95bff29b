-- The kind of a term stays as variables come; and what a term comes to is of its kind.
use Rattle.std.proofs.Common.{◌≡◌, ℕ, ℤ, zero, suc, ◌<◌, List, [], ◌∷◌, ◌++◌, Option, Some, None, IsSome, is_some, All, fold, map, length, refl, sym, ap, ◌∙◌, subst, arith, true≢false, slice_get}
use Rattle.std.specs.Prelude.{IfSome}
use Rattle.std.specs.Option.{option_map}
use Rattle.std.proofs.lemmas.List.Elements.{All-head, All-tail}
use Rattle.cbl_base.specs.Inputs.{InputKind, kind_of, number_kind}
use Rattle.cbl_base.specs.NumberRule.{NumberRule}
use Rattle.cbl_base.specs.declared.input.Input.{Input}
use Rattle.cbl_base.specs.declared.input.Input.TheVariants.{Int}
use Rattle.cbl_operations.specs.declared.op.Op.{Op}
use Rattle.model_values.specs.Outcomes.{AreKinds, HasKinds, Outcome, gather, gathered, operated, outcome_of, outcome_step}
use Rattle.model_values.specs.VarOutcomes.{outcome_by, outcome_of_term, outcome_of_var, outcomes_through}
use Rattle.model_values.proofs.Kinded.{kind_of_operated, kinds_gather}
use Rattle.term_model.specs.Definitions.{definition_of, term_of}
use Rattle.term_model.specs.Kinds.{all_kinds, gather_kind, kind_of_term, kind_step, kinds_in, node_kind}
use Rattle.term_model.specs.Wellformed.{HasDefinedSets, IsDefinition, IsMember, IsWellFormed}
use Rattle.term_model.specs.declared.model.Definition.{Definition}
use Rattle.term_model.specs.declared.model.Member.{Member}
use Rattle.term_model.specs.declared.model.Model.{Model}
use Rattle.term_model.specs.declared.model.VarDecl.{VarDecl}
use Rattle.term_model.specs.declared.term.Term.{Term}
use Rattle.term_model.specs.declared.term.Term.TheOpen.{Term-F}
use Rattle.term_model.specs.declared.term.Term.TheViews.{roll-Term}
use Rattle.term_model.specs.declared.term.Term.TheFolds.{fold-roll-Term, ind-Term, map-Term}
use Rattle.term_model.proofs.Kinded.{args_kinded}
use Rattle.term_model.proofs.UsableLaws.{less_there}
use Rattle.term_model.proofs.VarLaws.{definition_found, kind_of_definition, kind_within}

-- ---- more variables
pub kinds_front : (vars more : List VarDecl) (i : ℕ) (k : InputKind) → kinds_in vars i ≡ Some k → kinds_in (vars ++ more) i ≡ Some k
kinds_front [] more i k e = let c : None ≡ Some k = e in cc
kinds_front (v ∷ vars) more zero k e = e
kinds_front (v ∷ vars) more (suc i) k e = kinds_front vars more i k e

module _ (kinds more : ℕ → Option InputKind) (grows : (i : ℕ) (k : InputKind) → kinds i ≡ Some k → more i ≡ Some k) where
  abbrev IsMore : Term → Type 0
  IsMore t = (k : InputKind) → kind_of_term kinds t ≡ Some k → kind_of_term more t ≡ Some k

  abbrev Known : Type 0
  Known = (t : Term) × IsMore t

  abbrev terms_in : List Known → List Term
  terms_in es = map (λ e. e.0) es

  one_same : (t : Term) → IsMore t → IsSome (kind_of_term kinds t) → kind_of_term more t ≡ kind_of_term kinds t
  one_same t is h = cases (kind_of_term kinds t) refl h
    where
      cases : (o : Option InputKind) → kind_of_term kinds t ≡ o → IsSome o → kind_of_term more t ≡ kind_of_term kinds t
      cases (Some k) e some = is k e ∙ sym e
      cases None e some = absurd (true≢false (sym some))

  all_same : (es : List Known) → All (λ t. IsSome (kind_of_term kinds t)) (terms_in es) → map (kind_of_term more) (terms_in es) ≡ map (kind_of_term kinds) (terms_in es)
  all_same [] all = refl
  all_same (e ∷ es) all =
      ap (λ k. k ∷ map (kind_of_term more) (terms_in es)) (one_same e.0 e.1 (All-head (λ t. IsSome (kind_of_term kinds t)) e.0 (terms_in es) all))
      ∙ ap (λ ks. kind_of_term kinds e.0 ∷ ks) (all_same es (All-tail (λ t. IsSome (kind_of_term kinds t)) e.0 (terms_in es) all))

  layer : (y : Term-F Known) → IsMore (roll-Term (map-Term Known Term (λ e. e.0) y))
  layer (Term-F.Const x) k e = fold-roll-Term (Option InputKind) (kind_step more) (Term-F.Const x) ∙ sym (fold-roll-Term (Option InputKind) (kind_step kinds) (Term-F.Const x)) ∙ e
  layer (Term-F.ConstSet s) k e = fold-roll-Term (Option InputKind) (kind_step more) (Term-F.ConstSet s) ∙ sym (fold-roll-Term (Option InputKind) (kind_step kinds) (Term-F.ConstSet s)) ∙ e
  layer (Term-F.Var v) k e = fold-roll-Term (Option InputKind) (kind_step more) (Term-F.Var v) ∙ grows v.index k (sym (fold-roll-Term (Option InputKind) (kind_step kinds) (Term-F.Var v)) ∙ e)
  layer (Term-F.Node op args place) k e =
      let z = map-Term Known Term (λ e. e.0) (Term-F.Node op args place) in
      let whole : kind_of_term kinds (roll-Term z) ≡ node_kind op (all_kinds (map (kind_of_term kinds) (terms_in args.items))) = fold-roll-Term (Option InputKind) (kind_step kinds) z in
      let all = args_kinded op (kind_of_term kinds) (terms_in args.items) (ap is_some (sym whole ∙ e)) in
      fold-roll-Term (Option InputKind) (kind_step more) z ∙ ap (λ ks. node_kind op (all_kinds ks)) (all_same args.items all) ∙ sym whole ∙ e

  pub more_kind : (t : Term) → IsMore t
  more_kind = ind-Term IsMore (λ x y is. subst (λ z. IsMore (roll-Term z)) is (layer y))

module _ (M N : Model) (more : List VarDecl) (vars : N.vars.items ≡ M.vars.items ++ more) where
  pub kinds_grow : (i : ℕ) (k : InputKind) → kinds_in M.vars.items i ≡ Some k → kinds_in N.vars.items i ≡ Some k
  kinds_grow i k e = ap (λ vs. kinds_in vs i) vars ∙ kinds_front M.vars.items more i k e

  pub term_grows : (t : Term) (k : InputKind) → kind_of_term (kinds_in M.vars.items) t ≡ Some k → kind_of_term (kinds_in N.vars.items) t ≡ Some k
  term_grows = more_kind (kinds_in M.vars.items) (kinds_in N.vars.items) kinds_grow

  count_grows : (i : ℕ) → i < length M.vars.items → i < length N.vars.items
  count_grows i lt = subst (λ vs. i < length vs) (sym vars) (longer M.vars.items i lt)
    where
      longer : (vs : List VarDecl) (j : ℕ) → j < length vs → j < length (vs ++ more)
      longer [] j l = absurd (omega arith)
      longer (v ∷ vs) zero l = omega arith
      longer (v ∷ vs) (suc j) l = omega (arith, longer vs j (omega arith))

  pub definition_grows : (def : Definition) → IsDefinition M def → IsDefinition N def
  definition_grows def is = record {
    var = count_grows def.var.index is.var;
    kind = cases (kinds_in M.vars.items def.var.index) refl (kind_within M.vars.items def.var.index is.var);
    depth = is.depth;
  }
    where
      cases : (o : Option InputKind) → kinds_in M.vars.items def.var.index ≡ o → IsSome o → kind_of_term (kinds_in N.vars.items) def.term ≡ kinds_in N.vars.items def.var.index
      cases (Some k) e some = term_grows def.term k (is.kind ∙ e) ∙ sym (kinds_grow def.var.index k e)
      cases None e some = absurd (true≢false (sym some))

  pub member_grows : (member : Member) → IsMember M member → IsMember N member
  member_grows member is = record { kind = term_grows member.term number_kind is.kind; depth = is.depth }

-- ---- values are of their kinds
abbrev IsOfKind : Outcome → Option InputKind → Type 0
IsOfKind o kind = IfSome o (λ x. kind ≡ Some (kind_of x))

module _ (users : ℕ → NumberRule) (kinds : ℕ → Option InputKind) (env : ℕ → Outcome) (has : HasKinds kinds env) where
  abbrev IsKinded : Term → Type 0
  IsKinded t = IsSome (kind_of_term kinds t) → IsOfKind (outcome_of users env t) (kind_of_term kinds t)

  abbrev Known' : Type 0
  Known' = (t : Term) × IsKinded t

  abbrev terms_of : List Known' → List Term
  terms_of es = map (λ e. e.0) es

  args_kinds : (es : List Known') (so_far : Option (List Input)) (ks : Option (List InputKind)) → AreKinds so_far ks → All (λ t. IsSome (kind_of_term kinds t)) (terms_of es) →
      AreKinds (fold gather so_far (map (outcome_of users env) (terms_of es))) (fold gather_kind ks (map (kind_of_term kinds) (terms_of es)))
  args_kinds [] so_far ks are all = are
  args_kinds (e ∷ es) so_far ks are all =
      args_kinds es (gather so_far (outcome_of users env e.0)) (gather_kind ks (kind_of_term kinds e.0))
      (kinds_gather so_far (outcome_of users env e.0) ks (kind_of_term kinds e.0) are (e.1 (All-head (λ t. IsSome (kind_of_term kinds t)) e.0 (terms_of es) all)))
      (All-tail (λ t. IsSome (kind_of_term kinds t)) e.0 (terms_of es) all)

  node_kinds : (op : Op) (inputs : Option (List Input)) (ks : Option (List InputKind)) → AreKinds inputs ks → IsSome (node_kind op ks) → IsOfKind (operated users op inputs) (node_kind op ks)
  node_kinds op (Some xs) ks are some = kind_of_operated users op xs ks are some
  node_kinds op None ks are some = tt

  var_kinds : (i : ℕ) (o : Outcome) → env i ≡ o → IsOfKind o (kinds i)
  var_kinds i (Some x) e = has i x e
  var_kinds i None e = tt

  value_layer : (y : Term-F Known') → IsKinded (roll-Term (map-Term Known' Term (λ e. e.0) y))
  value_layer (Term-F.Const x) h =
      subst (λ o. IsOfKind o (kind_of_term kinds (roll-Term (Term-F.Const x)))) (sym (fold-roll-Term Outcome (outcome_step users env) (Term-F.Const x))) (fold-roll-Term (Option InputKind) (kind_step kinds) (Term-F.Const x))
  value_layer (Term-F.ConstSet s) h =
      subst (λ o. IsOfKind o (kind_of_term kinds (roll-Term (Term-F.ConstSet s)))) (sym (fold-roll-Term Outcome (outcome_step users env) (Term-F.ConstSet s))) (fold-roll-Term (Option InputKind) (kind_step kinds) (Term-F.ConstSet s))
  value_layer (Term-F.Var v) h =
      subst (λ o. IsOfKind o (kind_of_term kinds (roll-Term (Term-F.Var v)))) (sym (fold-roll-Term Outcome (outcome_step users env) (Term-F.Var v)))
      (subst (IsOfKind (env v.index)) (sym (fold-roll-Term (Option InputKind) (kind_step kinds) (Term-F.Var v))) (var_kinds v.index (env v.index) refl))
  value_layer (Term-F.Node op args place) h =
      let z = map-Term Known' Term (λ e. e.0) (Term-F.Node op args place) in
      let kind : kind_of_term kinds (roll-Term z) ≡ node_kind op (all_kinds (map (kind_of_term kinds) (terms_of args.items))) = fold-roll-Term (Option InputKind) (kind_step kinds) z in
      let value : outcome_of users env (roll-Term z) ≡ operated users op (gathered (map (outcome_of users env) (terms_of args.items))) = fold-roll-Term Outcome (outcome_step users env) z in
      let some = subst IsSome kind h in
      let are = args_kinds args.items (Some []) (Some []) refl (args_kinded op (kind_of_term kinds) (terms_of args.items) some) in
      subst (λ o. IsOfKind o (kind_of_term kinds (roll-Term z))) (sym value)
      (subst (IsOfKind (operated users op (gathered (map (outcome_of users env) (terms_of args.items))))) (sym kind)
      (node_kinds op (gathered (map (outcome_of users env) (terms_of args.items))) (all_kinds (map (kind_of_term kinds) (terms_of args.items))) are some))

  pub value_kinded : (t : Term) → IsKinded t
  value_kinded = ind-Term IsKinded (λ x y is. subst (λ z. IsKinded (roll-Term z)) is (value_layer y))

of_some : (o : Outcome) (kind : Option InputKind) (x : Input) → o ≡ Some x → IsOfKind o kind → kind ≡ Some (kind_of x)
of_some o kind x e is = subst (λ p. IsOfKind p kind) e is

module _ (users : ℕ → NumberRule) (M : Model) (a : List ℤ) (formed : IsWellFormed M) (sets : HasDefinedSets M) (long : length a ≡ length M.vars.items) where
  free_kinded : (i : ℕ) (x : Input) (o : Option ℤ) → definition_of M i ≡ None → slice_get a i ≡ o → option_map (λ z. Int z) o ≡ Some x → kinds_in M.vars.items i ≡ Some (kind_of x)
  free_kinded i x None free at e = let c : None ≡ Some x = e in cc
  free_kinded i x (Some z) free at e =
      let lt : i < length M.vars.items = omega (arith, less_there a i z at, long) in
      sets i lt free ∙ ap (λ (o : Option Input). option_map kind_of o) e

  defined_kinded : (env : ℕ → Outcome) → HasKinds (kinds_in M.vars.items) env → (i d : ℕ) (x : Input) → definition_of M i ≡ Some d → outcome_of_term users env (term_of M.defs.items d) ≡ Some x → kinds_in M.vars.items i ≡ Some (kind_of x)
  defined_kinded env has i d x is e =
      let found = definition_found M i d is in
      let term : term_of M.defs.items d ≡ Some found.0.term = ap (option_map (λ (def : Definition). def.term)) found.1 in
      let kind = kind_of_definition M formed i d found.0 is found.1 in
      let lt : i < length M.vars.items = subst (λ n. n < length M.vars.items) found.2 (formed.defs d found.0 found.1).var in
      let value : outcome_of users env found.0.term ≡ Some x = sym (ap (outcome_of_term users env) term) ∙ e in
      sym kind ∙ of_some (outcome_of users env found.0.term) (kind_of_term (kinds_in M.vars.items) found.0.term) x value
      (value_kinded users (kinds_in M.vars.items) env has found.0.term (subst IsSome (sym kind) (kind_within M.vars.items i lt)))

  through_kinded : (n : ℕ) → HasKinds (kinds_in M.vars.items) (outcomes_through users M a n)
  unfolding outcomes_through
  through_kinded zero i x e = let c : None ≡ Some x = e in cc
  through_kinded (suc n) i x e = by (definition_of M i) refl e (through_kinded n)
    where
      by : (entry : Option ℕ) → definition_of M i ≡ entry → outcome_by users M a (outcomes_through users M a n) i entry ≡ Some x → HasKinds (kinds_in M.vars.items) (outcomes_through users M a n) → kinds_in M.vars.items i ≡ Some (kind_of x)
      by None is h below = free_kinded i x (slice_get a i) is refl h
      by (Some d) is h below = defined_kinded (outcomes_through users M a n) below i d x is h

  pub variables_kinded : HasKinds (kinds_in M.vars.items) (outcome_of_var users M a)
  variables_kinded = through_kinded (length M.vars.items)
