-- Each distinct subterm of a well formed model has a kind, so that the variables among its arguments are the
-- model's own.
use Rattle.std.proofs.Common.{◌≡◌, ℕ, ◌<◌, List, [], ◌∷◌, ◌++◌, map, Option, Some, None, IsSome, length, refl, sym, subst, slice_get, All}
use Rattle.std.proofs.lemmas.List.Elements.{All-nil, All-cons, All-head, All-tail, All-append}
use Rattle.cbl_base.specs.Inputs.{InputKind}
use Rattle.term_model.specs.Kinds.{kind_of_term, kind_step, kinds_in}
use Rattle.term_model.specs.Posting.{term_posted}
use Rattle.term_model.specs.Subterms.{arguments_of, distinct_subterms, joined_terms, subterms, subterms_posted, subterms_where}
use Rattle.term_model.specs.Wellformed.{IsWellFormed}
use Rattle.term_model.specs.declared.model.Model.{Model}
use Rattle.term_model.specs.declared.model.Posted.{Posted}
use Rattle.term_model.specs.declared.term.Term.{Term}
use Rattle.term_model.specs.declared.term.Term.TheOpen.{Term-F}
use Rattle.term_model.specs.declared.term.Term.TheViews.{out-Term, roll-Term}
use Rattle.term_model.specs.declared.term.Term.TheFolds.{fold-roll-Term, ind-Term, map-Term}
use Rattle.term_model.proofs.EqualTerms.{roll_out}
use Rattle.term_model.proofs.Kinded.{args_kinded}
use Rattle.term_model.proofs.Rounds.{some_within}
use Rattle.term_model.proofs.SubtermLaws.{subterms_roll}
use Rattle.model_values.proofs.FailureLaws.{posted_kinded}
use Rattle.graph_values.proofs.Arguments.{all_at, fold_all}

-- ---- in a term that has a kind all have one
module _ (kinds : ℕ → Option InputKind) where
  abbrev pub IsKinded : Term → Type 0
  IsKinded t = IsSome (kind_of_term kinds t)

  abbrev IsDeep : Term → Type 0
  IsDeep t = IsKinded t → All IsKinded (subterms t)

  abbrev Deep : Type 0
  Deep = (t : Term) × IsDeep t

  below_kinded : (es : List Deep) → All IsKinded (map (λ e. e.0) es) → All IsKinded (joined_terms (map subterms (map (λ e. e.0) es)))
  below_kinded [] all = All-nil IsKinded
  below_kinded (e ∷ es) all =
      All-append IsKinded (subterms e.0) (joined_terms (map subterms (map (λ e. e.0) es))) (e.1 (All-head IsKinded e.0 (map (λ e. e.0) es) all)) (below_kinded es (All-tail IsKinded e.0 (map (λ e. e.0) es) all))

  one_kinded : (t : Term) (ts below : List Term) → ts ≡ below ++ t ∷ [] → IsKinded t → All IsKinded below → All IsKinded ts
  one_kinded t ts below e own all = subst (All IsKinded) (sym e) (All-append IsKinded below (t ∷ []) all (All-cons IsKinded t [] own (All-nil IsKinded)))

  layer_kinded : (y : Term-F Deep) → IsDeep (roll-Term (map-Term Deep Term (λ e. e.0) y))
  layer_kinded (Term-F.Const x) h = let z = Term-F.Const x in one_kinded (roll-Term z) (subterms (roll-Term z)) [] (subterms_roll z) h (All-nil IsKinded)
  layer_kinded (Term-F.ConstSet s) h = let z = Term-F.ConstSet s in one_kinded (roll-Term z) (subterms (roll-Term z)) [] (subterms_roll z) h (All-nil IsKinded)
  layer_kinded (Term-F.Var v) h = subst (All IsKinded) (sym (subterms_roll (Term-F.Var v))) (All-nil IsKinded)
  layer_kinded (Term-F.Node op args place) h =
      let z = map-Term Deep Term (λ e. e.0) (Term-F.Node op args place) in
      let ts = map (λ e. e.0) args.items in
      let own = args_kinded op (kind_of_term kinds) ts (subst IsSome (fold-roll-Term (Option InputKind) (kind_step kinds) z) h) in
      one_kinded (roll-Term z) (subterms (roll-Term z)) (joined_terms (map subterms ts)) (subterms_roll z) h (below_kinded args.items own)

  pub deep : (t : Term) → IsDeep t
  deep = ind-Term IsDeep (λ x y is. subst (λ z. IsDeep (roll-Term z)) is (layer_kinded y))

  arguments_by : (y : Term-F Term) → IsKinded (roll-Term y) → All IsKinded (arguments_of y)
  arguments_by (Term-F.Const x) h = All-nil IsKinded
  arguments_by (Term-F.ConstSet s) h = All-nil IsKinded
  arguments_by (Term-F.Var v) h = All-nil IsKinded
  arguments_by (Term-F.Node op args place) h = args_kinded op (kind_of_term kinds) args.items (subst IsSome (fold-roll-Term (Option InputKind) (kind_step kinds) (Term-F.Node op args place)) h)

  pub arguments_kinded : (t : Term) → IsKinded t → All IsKinded (arguments_of (out-Term t))
  arguments_kinded t h = arguments_by (out-Term t) (subst IsKinded (sym (roll_out t)) h)

-- ---- and so it is in a well formed model
abbrev pub HasKind : Model → Term → Type 0
HasKind M = IsKinded (kinds_in M.vars.items)

-- a variable that has a kind is the model's own
pub variable_within : (M : Model) (t : Term) (i : ℕ) → kind_of_term (kinds_in M.vars.items) t ≡ kinds_in M.vars.items i → HasKind M t → i < length M.vars.items
variable_within M t i e h = some_within M.vars.items i (subst IsSome e h)

module _ (M : Model) (formed : IsWellFormed M) where
  where_kinded : (t : Option Term) → ((u : Term) → Some u ≡ t → HasKind M u) → All (HasKind M) (subterms_where t)
  where_kinded (Some t) h = deep (kinds_in M.vars.items) t (h t refl)
  where_kinded None h = All-nil (HasKind M)

  all_kinded : (posted : List Posted) → All (HasKind M) (subterms_posted M posted)
  all_kinded [] = All-nil (HasKind M)
  all_kinded (p ∷ posted) = All-append (HasKind M) (subterms_where (term_posted M p)) (subterms_posted M posted) (where_kinded (term_posted M p) (λ u e. posted_kinded M formed u p e)) (all_kinded posted)

  pub subterm_kinded : (k : ℕ) (t : Term) → slice_get (distinct_subterms M) k ≡ Some t → HasKind M t
  subterm_kinded k t e = all_at (HasKind M) (distinct_subterms M) k t (fold_all (HasKind M) [] (subterms_posted M M.posted.items) (All-nil (HasKind M)) (all_kinded M.posted.items)) e
