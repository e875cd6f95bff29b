-- The cycle that a solver names is the one that the meaning of programs finds, and it finds none where there is none.
use Rattle.std.proofs.Common.{◌≡◌, ℕ, zero, suc, ◌<◌, List, [], ◌∷◌, Option, Some, None, Vec, Global, Contains, length, refl, ap, ◌∙◌, subst, arith}
use Rattle.layer_plan.specs.Cycles as plans
use Rattle.layer_plan.specs.Dependencies as plans_on
use Rattle.layer_plan.specs.Dependencies.{list_of}
use Rattle.layer_plan.specs.NamedCycle as planned
use Rattle.ls_solver.specs.NamedCycle.{IsCycle, IsNamedCycle}
use Rattle.model_view.specs.Naming.{named_cycle, dependencies}
use Rattle.model_view.proofs.Dependencies.{dependencies_count, depends_is, is_depends, are_items}
use Rattle.model_view.proofs.Named.{named_found, named_none, named_once}
use Rattle.term_model.specs.Cycles.{Leads}
use Rattle.term_model.specs.Definitions.{DependsOn, IsAcyclic, definition_of, named_by}
use Rattle.term_model.specs.Wellformed.{IsWellFormed}
use Rattle.term_model.specs.declared.model.Model.{Model}
use Rattle.term_model.proofs.Rounds.{names_within}
use Rattle.term_model.proofs.UsableLaws.{no_member}
use Rattle.term_model.proofs.VarLaws.{definition_found}

-- an item that depends on another is an item
is_item : (deps : List (Vec ℕ Global)) (i d : ℕ) → plans_on.DependsOn deps i d → i < length deps
unfolding plans_on.DependsOn list_of
is_item [] i d h = absurd (no_member d h)
is_item (v ∷ deps) zero d h = omega arith
is_item (v ∷ deps) (suc i) d h = let lt = is_item deps i d h in omega (arith, lt)

module _ (M : Model) (formed : IsWellFormed M) where
  has_names : (i d : ℕ) (entry : Option ℕ) → definition_of M i ≡ entry → Contains (named_by M.defs.items entry) d → i < length M.vars.items
  has_names i d None e in' = absurd (no_member d in')
  has_names i d (Some n) e in' = let found = definition_found M i n e in subst (λ k. k < length M.vars.items) found.2 (formed.defs n found.0 found.1).var

  there : (i d : ℕ) → plans_on.DependsOn (dependencies M) i d → DependsOn M i d
  there i d h = (depends_is M i d (subst (λ n. i < n) (dependencies_count M) (is_item (dependencies M) i d h)) h).0

  back : (i d : ℕ) → DependsOn M i d → plans_on.DependsOn (dependencies M) i d
  back i d h = let lt = has_names i d (definition_of M i) refl h in is_depends M i d lt (names_within M formed i d lt h) h

  leads_there : (xs : List ℕ) (end : ℕ) → plans.Leads (dependencies M) xs end → Leads M xs end
  leads_there [] end way = tt
  leads_there (x ∷ []) end way = (there x end way.0, tt)
  leads_there (x ∷ y ∷ xs) end way = (there x y way.0, leads_there (y ∷ xs) end way.1)

  leads_back : (xs : List ℕ) (end : ℕ) → Leads M xs end → plans.Leads (dependencies M) xs end
  leads_back [] end way = tt
  leads_back (x ∷ []) end way = (back x end way.0, tt)
  leads_back (x ∷ y ∷ xs) end way = (back x y way.0, leads_back (y ∷ xs) end way.1)

  cycle_there : (list : List ℕ) → plans.IsCycle (dependencies M) list → IsCycle M list
  cycle_there [] is = is
  cycle_there (x ∷ xs) is = (is.0, leads_there (x ∷ xs) x is.1)

  cycle_back : (list : List ℕ) → IsCycle M list → plans.IsCycle (dependencies M) list
  cycle_back [] is = is
  cycle_back (x ∷ xs) is = (is.0, leads_back (x ∷ xs) x is.1)

  named_there : (list : List ℕ) → IsNamedCycle M list → planned.IsNamedCycle (dependencies M) list
  named_there list is = record {
    cycle = cycle_back list is.cycle;
    least = λ other i cycle in'. is.least other i (cycle_there other cycle) in';
    shortest = λ other cycle same. is.shortest other (cycle_there other cycle) same;
    earliest = λ other cycle same long. is.earliest other (cycle_there other cycle) same long;
  }

  pub finds_named : (list : List ℕ) → IsNamedCycle M list → named_cycle (dependencies M) ≡ Some list
  finds_named list is = by (named_cycle (dependencies M)) refl
    where
      by : (found : Option (List ℕ)) → named_cycle (dependencies M) ≡ found → named_cycle (dependencies M) ≡ Some list
      by None e = absurd (named_none (dependencies M) list (are_items M) e (cycle_back list is.cycle))
      by (Some other) e = e ∙ ap (λ (xs : List ℕ). Some xs) (named_once (dependencies M) other list (named_found (dependencies M) other (are_items M) e) (named_there list is))

  -- ---- where variables can be ranked there is no cycle
  module _ (acyclic : IsAcyclic M) where
    falls_along : (xs : List ℕ) (x end : ℕ) → Leads M (x ∷ xs) end → acyclic.rank end < acyclic.rank x
    falls_along [] x end way = acyclic.falls x end way.0
    falls_along (y ∷ xs) x end way = let first = acyclic.falls x y way.0 in let rest = falls_along xs y end way.1 in omega (arith, first, rest)

    no_cycle : (list : List ℕ) → IsCycle M list → ⊥
    no_cycle [] is = is
    no_cycle (x ∷ xs) is = let lt = falls_along xs x x is.1 in omega (arith, lt)

    pub finds_none : named_cycle (dependencies M) ≡ None
    finds_none = by (named_cycle (dependencies M)) refl
      where
        by : (found : Option (List ℕ)) → named_cycle (dependencies M) ≡ found → named_cycle (dependencies M) ≡ None
        by None e = e
        by (Some list) e = absurd (no_cycle list (cycle_there list (named_found (dependencies M) list (are_items M) e).cycle))
