-- The items of a model depend on one another as its variables do.
use Rattle.std.proofs.Common.{◌≡◌, refl, sym, subst, ap, ◌∙◌, Vec, Global, ℕ, zero, suc, ◌+◌, ◌<◌, ◌≤◌, Bool, true, false, ◌⊎◌, inl, inr, List, [], ◌∷◌, map, length, nat_eq, Option, Some, None, arith}
use Rattle.std.specs.Prelude.{filter, if◌then◌else◌}
use Rattle.std.specs.Option.{option_map}
use Rattle.std.specs.List.{Contains, list_any, range_with_len}
use Rattle.std.proofs.lemmas.List.{take_all}
use Rattle.layer_plan.specs.Dependencies.{list_of, DependsOn, AreItems}
use Rattle.term_model.specs.Definitions as models
use Rattle.term_model.specs.Definitions.{definition_of, named_by, vars_named, term_of}
use Rattle.term_model.specs.declared.model.Definition.{Definition}
use Rattle.term_model.specs.declared.model.Model.{Model}
use Rattle.term_model.specs.declared.term.Term.{Term}
use Rattle.model_view.specs.Vectors.{vec_of, most_items}
use Rattle.model_view.specs.Naming.{names, dependencies_of, dependencies}
use Rattle.model_view.specs.Plain.{plain_term, plain_definition, plain_model}
use Rattle.model_view.proofs.Members.{In, in_filter, in_filter_back, in_range, in_of, of_in, any_in, in_any}
use Rattle.model_view.proofs.PlainParts.{same_vars}
use Rattle.model_view.proofs.PlainModels.{plain_vars, plain_defs, same_definition, same_term_of}

range_count : (a n : ℕ) → length (range_with_len a n) ≡ n
range_count a zero = refl
range_count a (suc n) = ap suc (range_count (a + 1) n)

filter_count : (p : ℕ → Bool) (xs : List ℕ) → length (filter p xs) ≤ length xs
filter_count p [] = omega arith
filter_count p (x ∷ xs) = by_test (p x) (filter_count p xs) where
  by_test : (b : Bool) → length (filter p xs) ≤ length xs → length (if b then x ∷ filter p xs else filter p xs) ≤ suc (length xs)
  by_test true h = omega arith
  by_test false h = omega arith

below_range : (a n x : ℕ) → In x (range_with_len a n) → x < a + n
below_range a zero x h = absurd h
below_range a (suc n) x (inl e) = omega (arith, e)
below_range a (suc n) x (inr h) = let lt = below_range (a + 1) n x h in omega arith

list_in_range : (g : ℕ → Vec ℕ Global) (a n i : ℕ) → i < n → list_of (map g (range_with_len a n)) i ≡ (g (a + i)).items
unfolding list_of
list_in_range g a zero i h = absurd (omega arith)
list_in_range g a (suc n) zero h = let at : a ≡ a + 0 = omega arith in ap (λ k. (g k).items) at
list_in_range g a (suc n) (suc i) h = let at : a + 1 + i ≡ a + suc i = omega arith in list_in_range g (a + 1) n i (omega arith) ∙ ap (λ k. (g k).items) at

list_behind : (g : ℕ → Vec ℕ Global) (a n i : ℕ) → n ≤ i → list_of (map g (range_with_len a n)) i ≡ []
unfolding list_of
list_behind g a zero i h = refl
list_behind g a (suc n) zero h = absurd (omega arith)
list_behind g a (suc n) (suc i) h = list_behind g (a + 1) n i (omega arith)

not_cut : (M : Model) (i : ℕ) → (vec_of (dependencies_of M i)).items ≡ dependencies_of M i
not_cut M i =
    let few = filter_count (names M i) (range_with_len 0 (length M.vars.items)) in
    let count = range_count 0 (length M.vars.items) in
    let short : length (dependencies_of M i) ≤ most_items = (let small = M.vars.small in let ok0 = M.vars.ok.0 in let ok1 = M.vars.ok.1 in omega arith) in
    take_all most_items (dependencies_of M i) short

list_at : (M : Model) (i : ℕ) → i < length M.vars.items → list_of (dependencies M) i ≡ dependencies_of M i
list_at M i lt =
    let same : 0 + i ≡ i = omega arith in
    list_in_range (λ k. vec_of (dependencies_of M k)) 0 (length M.vars.items) i lt ∙ ap (λ k. (vec_of (dependencies_of M k)).items) same ∙ not_cut M i

pub dependencies_count : (M : Model) → length (dependencies M) ≡ length M.vars.items
dependencies_count M = counted (range_with_len 0 (length M.vars.items)) ∙ range_count 0 (length M.vars.items) where
  counted : (xs : List ℕ) → length (map (λ i. vec_of (dependencies_of M i)) xs) ≡ length xs
  counted [] = refl
  counted (x ∷ xs) = ap suc (counted xs)

pub depends_is : (M : Model) (i d : ℕ) → i < length M.vars.items → DependsOn (dependencies M) i d → models.DependsOn M i d × (d < length M.vars.items)
unfolding DependsOn
depends_is M i d lt h =
    let at : In d (dependencies_of M i) = in_of (dependencies_of M i) d (subst (λ xs. Contains xs d) (list_at M i lt) h) in
    let kept = in_filter_back (names M i) (range_with_len 0 (length M.vars.items)) d at in
    let low = below_range 0 (length M.vars.items) d kept.0 in
    (of_in (named_by M.defs.items (definition_of M i)) d (any_in d (named_by M.defs.items (definition_of M i)) kept.1), omega arith)

pub is_depends : (M : Model) (i d : ℕ) → i < length M.vars.items → d < length M.vars.items → models.DependsOn M i d → DependsOn (dependencies M) i d
unfolding DependsOn
is_depends M i d lt low h =
    let passes : names M i d ≡ true = in_any d (named_by M.defs.items (definition_of M i)) (in_of (named_by M.defs.items (definition_of M i)) d h) in
    let at : In d (dependencies_of M i) = in_filter (names M i) (range_with_len 0 (length M.vars.items)) d (in_range 0 (length M.vars.items) d (omega arith) (omega arith)) passes in
    subst (λ xs. Contains xs d) (sym (list_at M i lt)) (of_in (dependencies_of M i) d at)

pub are_items : (M : Model) → AreItems (dependencies M)
unfolding DependsOn
are_items M i d h = by_test (nat_lt_or (length M.vars.items) i) where
  nat_lt_or : (n i : ℕ) → (i < n) ⊎ (n ≤ i)
  nat_lt_or zero i = inr (omega arith)
  nat_lt_or (suc n) zero = inl (omega arith)
  nat_lt_or (suc n) (suc i) = onward (nat_lt_or n i) where
    onward : (i < n) ⊎ (n ≤ i) → (suc i < suc n) ⊎ (suc n ≤ suc i)
    onward (inl p) = inl (omega arith)
    onward (inr p) = inr (omega arith)

  by_test : (i < length M.vars.items) ⊎ (length M.vars.items ≤ i) → d < length (dependencies M)
  by_test (inl lt) = (let r = depends_is M i d lt h in let low = r.1 in let count = dependencies_count M in omega arith)
  by_test (inr up) = absurd (nothing (subst (λ xs. Contains xs d) (list_behind (λ k. vec_of (dependencies_of M k)) 0 (length M.vars.items) i up) h)) where
    nothing : Contains {X = ℕ} [] d → ⊥
    nothing k = (let lt = k.1 in omega arith)

-- a plain twin has the same

pub same_named : (defs : List Definition) (d : Option ℕ) → named_by (map plain_definition defs) d ≡ named_by defs d
same_named defs None = refl
same_named defs (Some d) = ap vars_named (same_term_of defs d) ∙ by_case (term_of defs d) where
  by_case : (x : Option Term) → vars_named (option_map plain_term x) ≡ vars_named x
  by_case None = refl
  by_case (Some t) = same_vars t

pub same_dependencies : (M : Model) → dependencies (plain_model M) ≡ dependencies M
same_dependencies M =
    ap (λ vars. listed (plain_model M) (length vars)) (plain_vars M) ∙ all_same (range_with_len 0 (length M.vars.items)) where
      of_one : Model → ℕ → ℕ → Vec ℕ Global
      of_one N n i = vec_of (filter (names N i) (range_with_len 0 n))

      listed : Model → ℕ → List (Vec ℕ Global)
      listed N n = map (of_one N n) (range_with_len 0 n)

      same_list_of : (i : ℕ) → named_by (plain_model M).defs.items (definition_of (plain_model M) i) ≡ named_by M.defs.items (definition_of M i)
      same_list_of i = ap (λ defs. named_by defs (definition_of (plain_model M) i)) (plain_defs M) ∙ ap (named_by (map plain_definition M.defs.items)) (same_definition M i) ∙ same_named M.defs.items (definition_of M i)

      all_same : (xs : List ℕ) → map (of_one (plain_model M) (length M.vars.items)) xs ≡ map (of_one M (length M.vars.items)) xs
      all_same [] = refl
      all_same (x ∷ xs) =
          ap (λ ys. vec_of (filter (λ d. list_any (λ y. nat_eq d y) ys) (range_with_len 0 (length M.vars.items))) ∷ map (of_one (plain_model M) (length M.vars.items)) xs) (same_list_of x)
          ∙ ap (λ vs. of_one M (length M.vars.items) x ∷ vs) (all_same xs)
