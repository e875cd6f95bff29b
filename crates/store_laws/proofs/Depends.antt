-- What variables depend on, also through others: dependence goes on from a variable to those that its definition names.
use Rattle.std.proofs.Common.{◌≡◌, ◌⊎◌, inl, inr, ℕ, zero, suc, ◌<◌, Bool, true, false, ◌||◌, List, [], ◌∷◌, length, refl, sym, ap, ◌∙◌, subst, arith, Contains, All}
use Rattle.std.specs.Prelude.{nat_eq}
use Rattle.std.specs.List.{list_any}
use Rattle.std.proofs.lemmas.List.Elements.{All-contains, Contains-append_left, Contains-append_right, Contains-append_cases, Contains-push}
use Rattle.model_values.specs.Dependence.{depends_through, var_depends}
use Rattle.model_values.specs.Support.{one_depends}
use Rattle.model_values.proofs.MarkLaws.{depends_more, depends_step}
use Rattle.term_model.specs.Definitions.{definition_of, named_by, DependsOn, IsAcyclic}
use Rattle.term_model.specs.Wellformed.{IsWellFormed}
use Rattle.term_model.specs.declared.model.Model.{Model}
use Rattle.term_model.proofs.NamingLaws.{contains_one}
use Rattle.term_model.proofs.UsableLaws.{no_member}

-- ---- dependence goes on
eq_self : (k : ℕ) → nat_eq k k ≡ true
eq_self k = grind arith

pub eq_of : (a b : ℕ) → nat_eq a b ≡ true → a ≡ b
eq_of a b h = grind (arith, h)

one_or : (a b : Bool) → a ≡ true → (a || b) ≡ true
one_or true b h = refl
one_or false b h = let c : false ≡ true = h in cc

other_or : (a b : Bool) → b ≡ true → (a || b) ≡ true
other_or true b h = refl
other_or false b h = h

pub either : (a b : Bool) → (a || b) ≡ true → (a ≡ true) ⊎ (b ≡ true)
either true b h = inl refl
either false b h = inr h

pub any_in : (p : ℕ → Bool) (xs : List ℕ) (d : ℕ) → Contains xs d → p d ≡ true → list_any p xs ≡ true
any_in p [] d in' h = absurd (no_member d in')
any_in p (x ∷ xs) d in' h = cases (Contains-append_cases (x ∷ []) xs d in') (any_in p xs d)
  where
    cases : Contains (x ∷ []) d ⊎ Contains xs d → (Contains xs d → p d ≡ true → list_any p xs ≡ true) → list_any p (x ∷ xs) ≡ true
    cases (inl here) later = one_or (p x) (list_any p xs) (ap p (sym (contains_one x d here)) ∙ h)
    cases (inr there) later = other_or (p x) (list_any p xs) (later there h)

pub any_out : (p : ℕ → Bool) (xs : List ℕ) → list_any p xs ≡ true → (d : ℕ) × Contains xs d × (p d ≡ true)
any_out p [] h = let c : false ≡ true = h in cc
any_out p (x ∷ xs) h = cases (either (p x) (list_any p xs) h) (any_out p xs)
  where
    cases : (p x ≡ true) ⊎ (list_any p xs ≡ true) → (list_any p xs ≡ true → (d : ℕ) × Contains xs d × (p d ≡ true)) → (d : ℕ) × Contains (x ∷ xs) d × (p d ≡ true)
    cases (inl here) later = (x, Contains-append_left (x ∷ []) xs x (Contains-push [] x), here)
    cases (inr there) later = let found = later there in (found.0, Contains-append_right (x ∷ []) xs found.0 found.1, found.2)

module _ (M : Model) (formed : IsWellFormed M) (acyclic : IsAcyclic M) where
  abbrev names : ℕ → List ℕ
  names u = named_by M.defs.items (definition_of M u)

  pub at_zero : (x u : ℕ) → depends_through M x zero u ≡ nat_eq u x
  unfolding depends_through
  at_zero x u = refl

  itself : (x n : ℕ) → depends_through M x n x ≡ true
  itself x zero = at_zero x x ∙ eq_self x
  itself x (suc n) = depends_step M formed acyclic x n x ∙ one_or (nat_eq x x) (list_any (depends_through M x n) (names x)) (eq_self x)

  by_name : (d n u e : ℕ) → DependsOn M u e → depends_through M d n e ≡ true → depends_through M d (suc n) u ≡ true
  by_name d n u e in' h = depends_step M formed acyclic d n u ∙ other_or (nat_eq u d) (list_any (depends_through M d n) (names u)) (any_in (depends_through M d n) (names u) e in' h)

  further : (i d n u : ℕ) → DependsOn M i d → depends_through M i n u ≡ true → depends_through M d (suc n) u ≡ true
  further i d zero u in' h = by_name d zero u d (subst (λ k. DependsOn M k d) (sym (eq_of u i (sym (at_zero i u) ∙ h))) in') (itself d zero)
  further i d (suc n) u in' h = cases (either (nat_eq u i) (list_any (depends_through M i n) (names u)) (sym (depends_step M formed acyclic i n u) ∙ h)) (λ e. further i d n e in')
    where
      cases : (nat_eq u i ≡ true) ⊎ (list_any (depends_through M i n) (names u) ≡ true) → ((e : ℕ) → depends_through M i n e ≡ true → depends_through M d (suc n) e ≡ true) → depends_through M d (suc (suc n)) u ≡ true
      cases (inl same) later = by_name d (suc n) u d (subst (λ k. DependsOn M k d) (sym (eq_of u i same)) in') (itself d (suc n))
      cases (inr some) later = let found = any_out (depends_through M i n) (names u) some in by_name d (suc n) u found.0 found.1 (later found.0 found.2)

  -- what one of the variables depends on, it depends on through another one
  depends_on : (i d u : ℕ) → u < length M.vars.items → DependsOn M i d → var_depends M i u ≡ true → var_depends M d u ≡ true
  depends_on i d u lt in' h = depends_more M formed acyclic d (length M.vars.items) u (acyclic.within u lt) ∙ further i d (length M.vars.items) u in' h

  module _ (roots : List ℕ) (within : All (λ u. u < length M.vars.items) roots) where
    pub reach_on : (i d : ℕ) → DependsOn M i d → one_depends M roots i ≡ true → one_depends M roots d ≡ true
    reach_on i d in' h =
        let found = any_out (var_depends M i) roots h in
        any_in (var_depends M d) roots found.0 found.1 (depends_on i d found.0 (All-contains (λ u. u < length M.vars.items) roots found.0 within found.1) in' found.2)

    pub root_reached : (i : ℕ) → Contains roots i → one_depends M roots i ≡ true
    root_reached i in' = any_in (var_depends M i) roots i in' (itself i (length M.vars.items))
