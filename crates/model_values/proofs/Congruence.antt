-- What a term comes to depends on the variables in it alone.
use Rattle.std.proofs.Common.{◌≡◌, ℕ, List, [], ◌∷◌, map, refl, sym, ap, ◌∙◌, subst, Contains}
use Rattle.std.proofs.lemmas.List.Elements.{Contains-append_left, Contains-append_right, Contains-push}
use Rattle.cbl_base.specs.NumberRule.{NumberRule}
use Rattle.term_model.specs.Definitions.{joined, vars_of, vars_step}
use Rattle.model_values.specs.Outcomes.{Outcome, outcome_of, outcome_step, gathered, operated}
use Rattle.term_model.specs.declared.term.Term.{Term}
use Rattle.term_model.specs.declared.term.Term.TheOpen.{Term-F}
use Rattle.term_model.specs.declared.term.Term.TheViews.{roll-Term}
use Rattle.term_model.specs.declared.term.Term.TheFolds.{fold-roll-Term, map-Term, ind-Term}

module _ (users : ℕ → NumberRule) (env other : ℕ → Outcome) where
  abbrev Agree : List ℕ → Type 0
  Agree vars = (d : ℕ) → Contains vars d → env d ≡ other d

  abbrev IsSame : Term → Type 0
  IsSame t = Agree (vars_of t) → outcome_of users env t ≡ outcome_of users other t

  -- a term, and that it is so of it
  abbrev Known : Type 0
  Known = (t : Term) × IsSame t

  same_args : (es : List Known) → Agree (joined (map vars_of (map (λ e. e.0) es))) → map (outcome_of users env) (map (λ e. e.0) es) ≡ map (outcome_of users other) (map (λ e. e.0) es)
  same_args [] agree = refl
  same_args (e ∷ es) agree =
      let one : outcome_of users env e.0 ≡ outcome_of users other e.0 = e.1 (λ d in'. agree d (Contains-append_left (vars_of e.0) (joined (map vars_of (map (λ e. e.0) es))) d in')) in
      let others = same_args es (λ d in'. agree d (Contains-append_right (vars_of e.0) (joined (map vars_of (map (λ e. e.0) es))) d in')) in
      ap (λ o. o ∷ map (outcome_of users env) (map (λ e. e.0) es)) one ∙ ap (λ os. outcome_of users other e.0 ∷ os) others

  layer : (y : Term-F Known) → IsSame (roll-Term (map-Term Known Term (λ e. e.0) y))
  layer (Term-F.Const x) agree =
      fold-roll-Term Outcome (outcome_step users env) (Term-F.Const x) ∙ sym (fold-roll-Term Outcome (outcome_step users other) (Term-F.Const x))
  layer (Term-F.ConstSet s) agree =
      fold-roll-Term Outcome (outcome_step users env) (Term-F.ConstSet s) ∙ sym (fold-roll-Term Outcome (outcome_step users other) (Term-F.ConstSet s))
  layer (Term-F.Var v) agree =
      let vars : vars_of (roll-Term (Term-F.Var v)) ≡ v.index ∷ [] = fold-roll-Term (List ℕ) vars_step (Term-F.Var v) in
      let there : Contains (vars_of (roll-Term (Term-F.Var v))) v.index = subst (λ vs. Contains vs v.index) (sym vars) (Contains-push [] v.index) in
      fold-roll-Term Outcome (outcome_step users env) (Term-F.Var v) ∙ agree v.index there ∙ sym (fold-roll-Term Outcome (outcome_step users other) (Term-F.Var v))
  layer (Term-F.Node op args place) agree =
      let z = map-Term Known Term (λ e. e.0) (Term-F.Node op args place) in
      let vars : vars_of (roll-Term z) ≡ joined (map vars_of (map (λ e. e.0) args.items)) = fold-roll-Term (List ℕ) vars_step z in
      let same = same_args args.items (λ d in'. agree d (subst (λ vs. Contains vs d) (sym vars) in')) in
      fold-roll-Term Outcome (outcome_step users env) z ∙ ap (λ os. operated users op (gathered os)) same ∙ sym (fold-roll-Term Outcome (outcome_step users other) z)

  pub same_outcome : (t : Term) → IsSame t
  same_outcome = ind-Term IsSame (λ x y is. subst (λ z. IsSame (roll-Term z)) is (layer y))
