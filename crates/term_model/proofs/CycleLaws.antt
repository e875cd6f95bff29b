-- Variables can be ranked exactly where none depends on itself, also through others: a variable's rank is how
-- many steps its definitions go down, and where they went further than there are variables, one came twice.
use Rattle.std.proofs.Common.{◌≡◌, ◌⊎◌, inl, inr, ℕ, zero, suc, ◌<◌, ◌≤◌, Bool, true, false, ◌||◌, List, [], ◌∷◌, Option, Some, None, length, get_or, map, refl, sym, ap, ◌∙◌, subst, arith, Contains}
use Rattle.std.specs.Prelude.{nat_eq}
use Rattle.std.specs.List.{list_any}
use Rattle.std.proofs.lemmas.List.Elements.{Contains-append_left, Contains-append_right, Contains-push}
use Rattle.std.proofs.lemmas.Map.Keys.{IsDistinct-from_apart}
use Rattle.std.proofs.lemmas.Map.Steps.{length-le_from_distinct_below}
use Rattle.term_model.specs.Cycles.{DependsOnItself, Leads}
use Rattle.term_model.specs.Definitions.{DependsOn, IsAcyclic, definition_of, named_by}
use Rattle.term_model.specs.Depth.{greatest}
use Rattle.term_model.specs.Wellformed.{IsWellFormed}
use Rattle.term_model.specs.declared.model.Model.{Model}
use Rattle.term_model.proofs.Rounds.{names_within}
use Rattle.term_model.proofs.UsableLaws.{no_member}
use Rattle.term_model.proofs.VarLaws.{definition_found}

-- ---- lists without equal ones
abbrev Apart : List ℕ → Type 0
Apart ds = (i j e : ℕ) → i < j → j < length ds → nat_eq (get_or ds i e) (get_or ds j e) ≡ false

none_at : (d : ℕ) (ds : List ℕ) (j e : ℕ) → list_any (nat_eq d) ds ≡ false → j < length ds → nat_eq d (get_or ds j e) ≡ false
none_at d [] j e h lt = absurd (omega (arith, lt))
none_at d (x ∷ ds) j e h lt = cases (nat_eq d x) refl j lt (λ k within later. none_at d ds k e later within)
  where
    cases : (b : Bool) → nat_eq d x ≡ b → (k : ℕ) → k < length (x ∷ ds) → ((l : ℕ) → l < length ds → list_any (nat_eq d) ds ≡ false → nat_eq d (get_or ds l e) ≡ false) → nat_eq d (get_or (x ∷ ds) k e) ≡ false
    cases true is k within later = let c : true ≡ false = sym (ap (λ b. b || list_any (nat_eq d) ds) is) ∙ h in cc
    cases false is zero within later = is
    cases false is (suc k) within later = later k (omega (arith, within)) (sym (ap (λ b. b || list_any (nat_eq d) ds) is) ∙ h)

apart_nil : Apart []
apart_nil i j e lt within = absurd (omega (arith, within))

apart_cons : (d : ℕ) (ds : List ℕ) → list_any (nat_eq d) ds ≡ false → Apart ds → Apart (d ∷ ds)
apart_cons d ds none apart i zero e lt within = absurd (omega (arith, lt))
apart_cons d ds none apart zero (suc j) e lt within = none_at d ds j e none (omega (arith, within))
apart_cons d ds none apart (suc i) (suc j) e lt within = apart i j e (omega (arith, lt)) (omega (arith, within))

-- ---- ranks fall along a way
module _ (M : Model) (acyclic : IsAcyclic M) where
  falls_along : (xs : List ℕ) (x end : ℕ) → Leads M (x ∷ xs) end → acyclic.rank end < acyclic.rank x
  falls_along [] x end way = acyclic.falls x end way.0
  falls_along (y ∷ xs) x end way = let first = acyclic.falls x y way.0 in let rest = falls_along xs y end way.1 in omega (arith, first, rest)

  pub not_on_itself : (i : ℕ) → DependsOnItself M i → ⊥
  not_on_itself i (xs, way) = let falls = falls_along xs i i way in omega (arith, falls)

-- ---- how far a variable's definitions go down
module _ (M : Model) (formed : IsWellFormed M) where
  names : ℕ → List ℕ
  names i = named_by M.defs.items (definition_of M i)

  height : ℕ → ℕ → ℕ
  height zero i = 0
  height (suc n) i = greatest (map (λ d. suc (height n d)) (names i))

  greatest_from : (f : ℕ → ℕ) (xs : List ℕ) (d : ℕ) → Contains xs d → f d ≤ greatest (map f xs)
  greatest_from f [] d in' = absurd (no_member d in')
  greatest_from f (x ∷ xs) d (zero, lt, at) = let same : f d ≡ f x = ap f (sym at) in omega (arith, same)
  greatest_from f (x ∷ xs) d (suc k, lt, at) = let later = greatest_from f xs d (k, let l : k < length xs = omega (arith, lt) in l, at) in omega (arith, later)

  greater_one : (f g : ℕ → ℕ) (xs : List ℕ) → greatest (map f xs) < greatest (map g xs) → (d : ℕ) × Contains xs d × (f d < g d)
  greater_one f g [] lt = absurd (omega (arith, lt))
  greater_one f g (x ∷ xs) lt = cases (lt_or (f x) (g x)) (greater_one f g xs)
    where
      lt_or : (a b : ℕ) → (a < b) ⊎ (b ≤ a)
      lt_or a zero = inr (omega arith)
      lt_or zero (suc b) = inl (omega arith)
      lt_or (suc a) (suc b) = more (lt_or a b)
        where
          more : (a < b) ⊎ (b ≤ a) → (suc a < suc b) ⊎ (suc b ≤ suc a)
          more (inl h) = inl (omega (arith, h))
          more (inr h) = inr (omega (arith, h))

      cases : (f x < g x) ⊎ (g x ≤ f x) → (greatest (map f xs) < greatest (map g xs) → (d : ℕ) × Contains xs d × (f d < g d)) → (d : ℕ) × Contains (x ∷ xs) d × (f d < g d)
      cases (inl h) later = (x, Contains-append_left (x ∷ []) xs x (Contains-push [] x), h)
      cases (inr h) later = let found = later (omega (arith, lt, h)) in (found.0, Contains-append_right (x ∷ []) xs found.0 found.1, found.2)

  -- each variable of the list depends on the next
  abbrev IsWay : ℕ → List ℕ → Type 0
  IsWay i [] = Unit {0}
  IsWay i (d ∷ ds) = DependsOn M i d × IsWay d ds

  way_down : (n i : ℕ) → height n i < height (suc n) i → (ds : List ℕ) × (length ds ≡ suc n) × IsWay i ds
  unfolding height names
  way_down zero i lt = let found = greater_one (λ d. 0) (λ d. suc (height zero d)) (names i) (let z = zeros (names i) in omega (arith, lt, z)) in (found.0 ∷ [], refl, (found.1, tt))
    where
      zeros : (xs : List ℕ) → greatest (map (λ (d : ℕ). 0) xs) ≡ 0
      zeros [] = refl
      zeros (x ∷ xs) = omega (arith, zeros xs)
  way_down (suc n) i lt =
      let found = greater_one (λ d. suc (height n d)) (λ d. suc (height (suc n) d)) (names i) lt in
      let rest = way_down n found.0 (omega (arith, found.2)) in
      (found.0 ∷ rest.0, ap suc rest.1, (found.1, rest.2))

  -- a way on which a variable comes twice leads back
  eq_of : (a b : ℕ) → nat_eq a b ≡ true → a ≡ b
  eq_of a b h = grind (arith, h)

  way_back : (x i : ℕ) (ds : List ℕ) → IsWay i ds → list_any (nat_eq x) ds ≡ true → (xs : List ℕ) × Leads M (i ∷ xs) x
  way_back x i [] way h = let c : false ≡ true = h in cc
  way_back x i (d ∷ ds) way h = cases (nat_eq x d) refl (way_back x d ds way.1)
    where
      cases : (b : Bool) → nat_eq x d ≡ b → (list_any (nat_eq x) ds ≡ true → (xs : List ℕ) × Leads M (d ∷ xs) x) → (xs : List ℕ) × Leads M (i ∷ xs) x
      cases true e later = ([], (subst (DependsOn M i) (sym (eq_of x d e)) way.0, tt))
      cases false e later = let rest = later (sym (ap (λ b. b || list_any (nat_eq x) ds) e) ∙ h) in (d ∷ rest.0, (way.0, rest.1))

  distinct_or : (i : ℕ) (ds : List ℕ) → IsWay i ds → Apart ds ⊎ ((x : ℕ) × DependsOnItself M x)
  distinct_or i [] way = inl apart_nil
  distinct_or i (d ∷ ds) way = cases (list_any (nat_eq d) ds) refl (distinct_or d ds way.1)
    where
      cases : (b : Bool) → list_any (nat_eq d) ds ≡ b → Apart ds ⊎ ((x : ℕ) × DependsOnItself M x) → Apart (d ∷ ds) ⊎ ((x : ℕ) × DependsOnItself M x)
      cases true e later = inr (d, way_back d d ds way.1 e)
      cases false e (inl rest) = inl (apart_cons d ds e rest)
      cases false e (inr found) = inr found

  has_names : (i d : ℕ) (entry : Option ℕ) → definition_of M i ≡ entry → Contains (named_by M.defs.items entry) d → i < length M.vars.items
  has_names i d None e in' = absurd (no_member d in')
  has_names i d (Some n) e in' = let found = definition_found M i n e in subst (λ k. k < length M.vars.items) found.2 (formed.defs n found.0 found.1).var

  way_within : (i : ℕ) (ds : List ℕ) → IsWay i ds → (q : ℕ) → list_any (nat_eq q) ds ≡ true → q < length M.vars.items
  way_within i [] way q h = let c : false ≡ true = h in cc
  way_within i (d ∷ ds) way q h = cases (nat_eq q d) refl (way_within d ds way.1 q)
    where
      cases : (b : Bool) → nat_eq q d ≡ b → (list_any (nat_eq q) ds ≡ true → q < length M.vars.items) → q < length M.vars.items
      cases true e later = subst (λ k. k < length M.vars.items) (sym (eq_of q d e)) (names_within M formed i d (has_names i d (definition_of M i) refl way.0) way.0)
      cases false e later = later (sym (ap (λ b. b || list_any (nat_eq q) ds) e) ∙ h)

  whole_or : (i : ℕ) (ds : List ℕ) → IsWay i ds → Apart (i ∷ ds) ⊎ ((x : ℕ) × DependsOnItself M x)
  whole_or i ds way = cases (list_any (nat_eq i) ds) refl (distinct_or i ds way)
    where
      cases : (b : Bool) → list_any (nat_eq i) ds ≡ b → Apart ds ⊎ ((x : ℕ) × DependsOnItself M x) → Apart (i ∷ ds) ⊎ ((x : ℕ) × DependsOnItself M x)
      cases true e rest = inr (i, way_back i i ds way e)
      cases false e (inl rest) = inl (apart_cons i ds e rest)
      cases false e (inr found) = inr found

  height_most : (n i : ℕ) → height n i ≤ n
  unfolding height names
  height_most zero i = omega arith
  height_most (suc n) i = all (names i) (height_most n)
    where
      all : (xs : List ℕ) → ((d : ℕ) → height n d ≤ n) → greatest (map (λ d. suc (height n d)) xs) ≤ suc n
      all [] most = omega arith
      all (x ∷ xs) most = let one = most x in let rest = all xs most in omega (arith, one, rest)

  -- ---- the ranks
  module _ (none : (i : ℕ) → DependsOnItself M i → ⊥) (m : ℕ) (count : length M.vars.items ≡ suc m) where
    too_far : (i : ℕ) → i < length M.vars.items → height m i < height (suc m) i → ⊥
    too_far i lt more = cases (way_down m i more)
      where
        inside : (ds : List ℕ) → IsWay i ds → (q : ℕ) (b : Bool) → nat_eq q i ≡ b → (b || list_any (nat_eq q) ds) ≡ true → q < length M.vars.items
        inside ds way q true e h = subst (λ k. k < length M.vars.items) (sym (eq_of q i e)) lt
        inside ds way q false e h = way_within i ds way q h

        long : (ds : List ℕ) → length ds ≡ suc m → IsWay i ds → Apart (i ∷ ds) → ⊥
        long ds is way distinct =
            let le = length-le_from_distinct_below (i ∷ ds) (length M.vars.items) (IsDistinct-from_apart nat_eq (i ∷ ds) distinct) (λ q h. inside ds way q (nat_eq q i) refl h) in
            omega (arith, le, is, count)

        cases : (ds : List ℕ) × (length ds ≡ suc m) × IsWay i ds → ⊥
        cases (ds, is, way) = elim (whole_or i ds way) [ inl distinct ↦ long ds is way distinct | inr found ↦ none found.0 found.1 ]

    falls_from : (i d : ℕ) → DependsOn M i d → height m d < height (suc m) i
    unfolding height names
    falls_from i d in' = let le = greatest_from (λ e. suc (height m e)) (names i) d in' in omega (arith, le)

    ranks_fall : (i d : ℕ) → DependsOn M i d → height m d < height m i
    ranks_fall i d in' = below (height m d) (height m i) (height (suc m) i) (falls_from i d in') (too_far i (has_names i d (definition_of M i) refl in'))
      where
        below : (a b c : ℕ) → a < c → (b < c → ⊥) → a < b
        below a b c lt not = by (lt_or b c)
          where
            lt_or : (x y : ℕ) → (x < y) ⊎ (y ≤ x)
            lt_or x zero = inr (omega arith)
            lt_or zero (suc y) = inl (omega arith)
            lt_or (suc x) (suc y) = more (lt_or x y)
              where
                more : (x < y) ⊎ (y ≤ x) → (suc x < suc y) ⊎ (suc y ≤ suc x)
                more (inl h) = inl (omega (arith, h))
                more (inr h) = inr (omega (arith, h))

            by : (b < c) ⊎ (c ≤ b) → a < b
            by (inl h) = absurd (not h)
            by (inr h) = omega (arith, lt, h)

    ranked : IsAcyclic M
    ranked = record {
      rank = height m;
      within = λ i lt. let most = height_most m i in omega (arith, most, count);
      falls = ranks_fall;
    }

  pub acyclic_where_none : ((i : ℕ) → DependsOnItself M i → ⊥) → IsAcyclic M
  acyclic_where_none none = cases (length M.vars.items) refl
    where
      cases : (n : ℕ) → length M.vars.items ≡ n → IsAcyclic M
      cases (suc m) count = ranked none m count
      cases zero count = record {
        rank = λ i. 0;
        within = λ i lt. absurd (omega (arith, lt, count));
        falls = λ i d in'. let lt = has_names i d (definition_of M i) refl in' in absurd (omega (arith, lt, count));
      }
