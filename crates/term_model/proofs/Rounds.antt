-- A term that has a kind names variables that have one, so a variable depends on the model's own.
use Rattle.std.proofs.Common.{◌≡◌, ℕ, zero, suc, ◌<◌, List, [], ◌∷◌, Option, Some, None, IsSome, length, refl, sym, ap, subst, arith, true≢false, All, map}
use Rattle.std.proofs.lemmas.List.Elements.{All-head, All-tail, All-nil, All-cons, All-append, All-contains}
use Rattle.std.specs.Option.{option_map}
use Rattle.cbl_base.specs.Inputs.{InputKind}
use Rattle.term_model.specs.Definitions.{definition_of, term_of, named_by, vars_named, vars_of, vars_step, joined, DependsOn}
use Rattle.term_model.specs.Kinds.{kinds_in, kind_of_term, kind_step}
use Rattle.term_model.specs.Wellformed.{IsWellFormed}
use Rattle.term_model.specs.declared.model.Definition.{Definition}
use Rattle.term_model.specs.declared.model.Model.{Model}
use Rattle.term_model.specs.declared.model.VarDecl.{VarDecl}
use Rattle.term_model.specs.declared.term.Term.{Term}
use Rattle.term_model.specs.declared.term.Term.TheOpen.{Term-F}
use Rattle.term_model.specs.declared.term.Term.TheViews.{roll-Term}
use Rattle.term_model.specs.declared.term.Term.TheFolds.{fold-roll-Term, map-Term, ind-Term}
use Rattle.term_model.proofs.Kinded.{args_kinded}
use Rattle.term_model.proofs.VarLaws.{definition_found, definition_kinded}

-- ---- a term that has a kind names variables that have one
module _ (kinds : ℕ → Option InputKind) where
  abbrev pub IsKinded : ℕ → Type 0
  IsKinded d = IsSome (kinds d)

  abbrev pub NamesKinded : Term → Type 0
  NamesKinded t = IsSome (kind_of_term kinds t) → All IsKinded (vars_of t)

  abbrev Named : Type 0
  Named = (t : Term) × NamesKinded t

  names_of_args : (es : List Named) → All (λ t. IsSome (kind_of_term kinds t)) (map (λ e. e.0) es) → All IsKinded (joined (map vars_of (map (λ e. e.0) es)))
  names_of_args [] all = All-nil IsKinded
  names_of_args (e ∷ es) all =
      All-append IsKinded (vars_of e.0) (joined (map vars_of (map (λ e. e.0) es)))
      (e.1 (All-head (λ t. IsSome (kind_of_term kinds t)) e.0 (map (λ e. e.0) es) all))
      (names_of_args es (All-tail (λ t. IsSome (kind_of_term kinds t)) e.0 (map (λ e. e.0) es) all))

  names_of_layer : (y : Term-F Named) → NamesKinded (roll-Term (map-Term Named Term (λ e. e.0) y))
  names_of_layer (Term-F.Const x) h = subst (All IsKinded) (sym (fold-roll-Term (List ℕ) vars_step (Term-F.Const x))) (All-nil IsKinded)
  names_of_layer (Term-F.ConstSet s) h = subst (All IsKinded) (sym (fold-roll-Term (List ℕ) vars_step (Term-F.ConstSet s))) (All-nil IsKinded)
  names_of_layer (Term-F.Var v) h =
      let one : IsSome (kinds v.index) = subst IsSome (fold-roll-Term (Option InputKind) (kind_step kinds) (Term-F.Var v)) h in
      subst (All IsKinded) (sym (fold-roll-Term (List ℕ) vars_step (Term-F.Var v))) (All-cons IsKinded v.index [] one (All-nil IsKinded))
  names_of_layer (Term-F.Node op args place) h =
      let z = map-Term Named Term (λ e. e.0) (Term-F.Node op args place) in
      let all = args_kinded op (kind_of_term kinds) (map (λ e. e.0) args.items) (subst IsSome (fold-roll-Term (Option InputKind) (kind_step kinds) z) h) in
      subst (All IsKinded) (sym (fold-roll-Term (List ℕ) vars_step z)) (names_of_args args.items all)

  pub names_kinded : (t : Term) → NamesKinded t
  names_kinded = ind-Term NamesKinded (λ x y is. subst (λ z. NamesKinded (roll-Term z)) is (names_of_layer y))

pub some_within : (vars : List VarDecl) (i : ℕ) → IsSome (kinds_in vars i) → i < length vars
some_within [] i h = absurd (true≢false (sym h))
some_within (v ∷ vars) zero h = omega arith
some_within (v ∷ vars) (suc i) h = let rest = some_within vars i h in omega arith

module _ (M : Model) (formed : IsWellFormed M) where
  names_of : (i : ℕ) (entry : Option ℕ) → definition_of M i ≡ entry → i < length M.vars.items → All (IsKinded (kinds_in M.vars.items)) (named_by M.defs.items entry)
  names_of i None e lt = All-nil (IsKinded (kinds_in M.vars.items))
  names_of i (Some d) e lt =
      let found = definition_found M i d e in
      let term : term_of M.defs.items d ≡ Some found.0.term = ap (option_map (λ (d : Definition). d.term)) found.1 in
      subst (λ t. All (IsKinded (kinds_in M.vars.items)) (vars_named t)) (sym term)
      (names_kinded (kinds_in M.vars.items) found.0.term (definition_kinded M formed i lt d found.0 e found.1))

  -- a variable depends on the model's own
  pub names_within : (i d : ℕ) → i < length M.vars.items → DependsOn M i d → d < length M.vars.items
  names_within i d lt in' =
      some_within M.vars.items d (All-contains (IsKinded (kinds_in M.vars.items)) (named_by M.defs.items (definition_of M i)) d (names_of i (definition_of M i) refl lt) in')
