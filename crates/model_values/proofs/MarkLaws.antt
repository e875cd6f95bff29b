-- Marks spread from a variable to those that name it: a round makes those right that rank one higher, and
-- where it changes nothing all are right.
use Rattle.std.proofs.Common.{◌≡◌, ℕ, zero, suc, ◌+◌, ◌<◌, ◌≤◌, Bool, false, ◌||◌, List, [], ◌∷◌, ◌++◌, Some, length, refl, sym, ap, ◌∙◌, subst, arith, Contains, slice_get}
use Rattle.std.specs.Prelude.{nat_eq, unwrap_or}
use Rattle.std.specs.List.{list_any}
use Rattle.std.proofs.lemmas.List.Elements.{Contains-append_left, Contains-append_right, Contains-push}
use Rattle.term_model.specs.Definitions.{definition_of, named_by, IsAcyclic}
use Rattle.model_values.specs.Dependence.{depends_through, var_depends, marked, mark_step, IsMarkedBelow, AreMarks}
use Rattle.term_model.specs.Wellformed.{IsWellFormed}
use Rattle.term_model.specs.declared.model.Model.{Model}
use Rattle.term_model.proofs.Rounds.{names_within}

any_same : (f g : ℕ → Bool) (xs : List ℕ) → ((d : ℕ) → Contains xs d → f d ≡ g d) → list_any f xs ≡ list_any g xs
any_same f g [] same = refl
any_same f g (x ∷ xs) same =
    ap (λ b. b || list_any f xs) (same x (Contains-append_left (x ∷ []) xs x (Contains-push [] x))) ∙ ap (λ b. g x || b) (any_same f g xs (λ d in'. same d (Contains-append_right (x ∷ []) xs d in')))

module _ (M : Model) (formed : IsWellFormed M) (acyclic : IsAcyclic M) (x : ℕ) where
  pub depends_step : (n i : ℕ) → depends_through M x (suc n) i ≡ (nat_eq i x || list_any (depends_through M x n) (named_by M.defs.items (definition_of M i)))
  unfolding depends_through
  depends_step n i = refl

  -- more definitions than the variable's rank change nothing
  pub depends_more : (n i : ℕ) → acyclic.rank i < n → depends_through M x n i ≡ depends_through M x (suc n) i
  depends_more zero i lt = absurd (omega arith)
  depends_more (suc n) i lt =
      depends_step n i
      ∙ ap (λ b. nat_eq i x || b) (any_same (depends_through M x n) (depends_through M x (suc n)) (named_by M.defs.items (definition_of M i)) (λ d in'. let falls = acyclic.falls i d in' in depends_more n d (omega arith)))
      ∙ sym (depends_step (suc n) i)

  depends_law : (i : ℕ) → i < length M.vars.items → var_depends M x i ≡ (nat_eq i x || list_any (var_depends M x) (named_by M.defs.items (definition_of M i)))
  depends_law i lt = depends_more (length M.vars.items) i (acyclic.within i lt) ∙ depends_step (length M.vars.items) i

  pub mark_more : (k : ℕ) (marks next : List Bool) → IsMarkedBelow M acyclic.rank x k marks → ((i : ℕ) → i < length M.vars.items → slice_get next i ≡ Some (mark_step M marks x i)) →
      IsMarkedBelow M acyclic.rank x (k + 1) next
  mark_more k marks next below each i lt ranks =
      let same : list_any (marked marks) (named_by M.defs.items (definition_of M i)) ≡ list_any (var_depends M x) (named_by M.defs.items (definition_of M i)) =
      any_same (marked marks) (var_depends M x) (named_by M.defs.items (definition_of M i))
      (λ d in'. let falls = acyclic.falls i d in' in ap (λ o. unwrap_or o false) (below d (names_within M formed i d lt in') (omega arith))) in
      each i lt ∙ ap Some (ap (λ b. nat_eq i x || b) same ∙ sym (depends_law i lt))

  fixed_below : (k : ℕ) (marks : List Bool) → ((i : ℕ) → i < length M.vars.items → slice_get marks i ≡ Some (mark_step M marks x i)) → IsMarkedBelow M acyclic.rank x k marks
  fixed_below zero marks each i lt ranks = absurd (omega arith)
  fixed_below (suc k) marks each i lt ranks = mark_more k marks marks (fixed_below k marks each) each i lt (omega arith)

  pub marks_fixed : (marks next : List Bool) → next ≡ marks → ((i : ℕ) → i < length M.vars.items → slice_get next i ≡ Some (mark_step M marks x i)) → AreMarks M x marks
  marks_fixed marks next same each i lt =
      fixed_below (length M.vars.items) marks (λ j within. ap (λ ms. slice_get ms j) (sym same) ∙ each j within) i lt (acyclic.within i lt)

  pub marks_through : (k : ℕ) (marks : List Bool) → length M.vars.items ≤ k → IsMarkedBelow M acyclic.rank x k marks → AreMarks M x marks
  marks_through k marks le below i lt = let rank = acyclic.within i lt in below i lt (omega arith)

-- one mark more
pub push_at : (f : ℕ → Bool) (next : List Bool) (m : Bool) → ((i : ℕ) → i < length next → slice_get next i ≡ Some (f i)) → m ≡ f (length next) → (i : ℕ) → i < length next + 1 → slice_get (next ++ m ∷ []) i ≡ Some (f i)
push_at f [] m each e zero lt = ap Some e
push_at f [] m each e (suc i) lt = absurd (omega arith)
push_at f (n ∷ next) m each e zero lt = each zero (omega arith)
push_at f (n ∷ next) m each e (suc i) lt = push_at (λ j. f (suc j)) next m (λ j within. each (suc j) (omega arith)) e i (omega arith)

pub marks_push : (f : ℕ → Bool) (next after : List Bool) (k : ℕ) (m : Bool) → length next ≡ k → ((i : ℕ) → i < k → slice_get next i ≡ Some (f i)) → m ≡ f k → after ≡ next ++ m ∷ [] → (i : ℕ) → i < k + 1 → slice_get after i ≡ Some (f i)
marks_push f next after k m count each e is i lt =
    ap (λ ms. slice_get ms i) is
    ∙ push_at f next m (λ j within. each j (subst (λ n. j < n) count within)) (e ∙ ap f (sym count)) i (subst (λ n. i < n + 1) (sym count) lt)
