-- The lists of what the definitions name, the layers of these, and the cycle in them, are those of the model.
use Rattle.std.proofs.Common.{◌≡◌, ℕ, zero, suc, ◌<◌, ◌≤◌, List, [], ◌∷◌, Option, Some, None, Vec, Global, Contains, map, length, refl, sym, ap, ◌∙◌, subst, arith, slice_get}
use Rattle.std.specs.Prelude.{slice_index, unwrap_or}
use Rattle.std.proofs.lemmas.List.{length-map}
use Rattle.layer_plan.specs.Cycles as plans
use Rattle.layer_plan.specs.Cycles.{first_or}
use Rattle.layer_plan.specs.Dependencies as plans_on
use Rattle.layer_plan.specs.Dependencies.{AreItems, list_of}
use Rattle.layer_plan.specs.NamedCycle as planned
use Rattle.layer_plan.specs.Paths.{HasPath, IsLongest}
use Rattle.solver_models.specs.Dependencies.{AreDependencies}
use Rattle.solver_models.specs.NamedCycle.{IsCycle, IsNamedCycle}
use Rattle.model_values.proofs.Settled.{lt_dec, not_defined}
use Rattle.term_model.specs.Cycles.{DependsOnItself, Leads}
use Rattle.term_model.specs.Definitions.{DependsOn, IsAcyclic, definition_of, named_by}
use Rattle.term_model.specs.Wellformed.{IsWellFormed}
use Rattle.term_model.specs.declared.model.Model.{Model}
use Rattle.term_model.proofs.CycleLaws.{acyclic_where_none}
use Rattle.term_model.proofs.Rounds.{names_within}
use Rattle.term_model.proofs.UsableLaws.{no_member}
use Rattle.term_model.proofs.VarLaws.{definition_found, named_at}

list_at : (deps : List (Vec ℕ Global)) (i : ℕ) (xs : List ℕ) → slice_get (map (λ v. v.items) deps) i ≡ Some xs → list_of deps i ≡ xs
unfolding list_of
list_at [] i xs e = let c : None ≡ Some xs = e in cc
list_at (v ∷ deps) zero xs e = ap (λ (o : Option (List ℕ)). unwrap_or o xs) e
list_at (v ∷ deps) (suc i) xs e = list_at deps i xs e

list_beyond : (deps : List (Vec ℕ Global)) (i : ℕ) → length deps ≤ i → list_of deps i ≡ []
unfolding list_of
list_beyond [] i le = refl
list_beyond (v ∷ deps) zero le = absurd (omega arith)
list_beyond (v ∷ deps) (suc i) le = list_beyond deps i (omega arith)

pub are_dependencies : (M : Model) (table : List (Option ℕ)) (deps : List (Vec ℕ Global)) → IsWellFormed M → length table ≡ length M.vars.items → ((i : ℕ) → i < length M.vars.items → slice_get table i ≡ Some (definition_of M i)) →
    map (λ v. v.items) deps ≡ map (named_by M.defs.items) table → AreDependencies M deps
are_dependencies M table deps formed count each lists = record { count = long; each = λ i. one i (lt_dec i (length M.vars.items)) }
  where
    long : length deps ≡ length M.vars.items
    long = sym (length-map deps (λ (v : Vec ℕ Global). v.items)) ∙ ap length lists ∙ length-map table (named_by M.defs.items) ∙ count

    one : (i : ℕ) → Dec (i < length M.vars.items) → list_of deps i ≡ named_by M.defs.items (definition_of M i)
    one i (yes lt) = list_at deps i (named_by M.defs.items (definition_of M i)) (ap (λ ls. slice_get ls i) lists ∙ named_at (named_by M.defs.items) table i (definition_of M i) (each i lt))
    one i (no ge) =
        let le : length M.vars.items ≤ i = omega (arith, ge) in
        list_beyond deps i (omega (arith, le, long)) ∙ ap (named_by M.defs.items) (sym (not_defined M formed i le (definition_of M i) refl))

module _ (M : Model) (deps : List (Vec ℕ Global)) (formed : IsWellFormed M) (are : AreDependencies M deps) where
  there : (i d : ℕ) → plans_on.DependsOn deps i d → DependsOn M i d
  unfolding plans_on.DependsOn
  there i d in' = subst (λ xs. Contains xs d) (are.each i) in'

  back : (i d : ℕ) → DependsOn M i d → plans_on.DependsOn deps i d
  unfolding plans_on.DependsOn
  back i d in' = subst (λ xs. Contains xs d) (sym (are.each i)) in'

  has_names : (i d : ℕ) (entry : Option ℕ) → definition_of M i ≡ entry → Contains (named_by M.defs.items entry) d → i < length M.vars.items
  has_names i d None e in' = absurd (no_member d in')
  has_names i d (Some n) e in' = let found = definition_found M i n e in subst (λ k. k < length M.vars.items) found.2 (formed.defs n found.0 found.1).var

  within : (i d : ℕ) → DependsOn M i d → (i < length M.vars.items) × (d < length M.vars.items)
  within i d in' = let lt = has_names i d (definition_of M i) refl in' in (lt, names_within M formed i d lt in')

  pub items_there : AreItems deps
  items_there i d in' = subst (λ n. d < n) (sym are.count) (within i d (there i d in')).1

  -- ---- layers
  module _ (layers : List ℕ) (longest : (item : ℕ) → item < length deps → IsLongest deps item (slice_index layers item)) where
    rank : ℕ → ℕ
    rank i = slice_index layers i

    falls : (i d : ℕ) → DependsOn M i d → slice_index layers d < slice_index layers i
    falls i d in' =
        let inside = within i d in' in
        let below = longest d (subst (λ n. d < n) (sym are.count) inside.1) in
        let here = longest i (subst (λ n. i < n) (sym are.count) inside.0) in
        let path : HasPath deps i (suc (slice_index layers d)) = (d, back i d in', below.0) in
        let le = here.1 (suc (slice_index layers d)) path in
        omega (arith, le)

    falls_along : (xs : List ℕ) (x end : ℕ) → Leads M (x ∷ xs) end → slice_index layers end < slice_index layers x
    falls_along [] x end way = falls x end way.0
    falls_along (y ∷ xs) x end way = let first = falls x y way.0 in let rest = falls_along xs y end way.1 in omega (arith, first, rest)

    none_on_itself : (i : ℕ) → DependsOnItself M i → ⊥
    none_on_itself i (xs, way) = let lt = falls_along xs i i way in omega (arith, lt)

    pub acyclic_from : IsAcyclic M
    acyclic_from = acyclic_where_none M formed none_on_itself

  -- ---- cycles
  leads_there : (xs : List ℕ) (end : ℕ) → plans.Leads deps xs end → Leads M xs end
  leads_there [] end way = tt
  leads_there (x ∷ []) end way = (there x end way.0, tt)
  leads_there (x ∷ y ∷ xs) end way = (there x y way.0, leads_there (y ∷ xs) end way.1)

  leads_back : (xs : List ℕ) (end : ℕ) → Leads M xs end → plans.Leads deps xs end
  leads_back [] end way = tt
  leads_back (x ∷ []) end way = (back x end way.0, tt)
  leads_back (x ∷ y ∷ xs) end way = (back x y way.0, leads_back (y ∷ xs) end way.1)

  cycle_there : (list : List ℕ) → plans.IsCycle deps list → IsCycle M list
  cycle_there [] is = is
  cycle_there (x ∷ xs) is = (is.0, leads_there (x ∷ xs) x is.1)

  cycle_back : (list : List ℕ) → IsCycle M list → plans.IsCycle deps list
  cycle_back [] is = is
  cycle_back (x ∷ xs) is = (is.0, leads_back (x ∷ xs) x is.1)

  pub named_from : (list : List ℕ) → planned.IsNamedCycle deps list → IsNamedCycle M list
  named_from list is = record {
    cycle = cycle_there list is.cycle;
    least = λ other i cycle in'. is.least other i (cycle_back other cycle) in';
    shortest = λ other cycle same. is.shortest other (cycle_back other cycle) same;
    earliest = λ other cycle same long. is.earliest other (cycle_back other cycle) same long;
  }
