-- A list of distinct items that depend each on the next is a cycle.
use Rattle.std.proofs.Common.{Vec, suc, ℕ, ◌+◌, ◌<◌, ◌≡◌, ◌∙◌, List, [], ◌∷◌, length, drop, get_or, subst, sym, ap, arith, length-drop}
use Rattle.std.specs.declared.alloc.Global.{Global}
use Rattle.std.proofs.lemmas.List.{get_or-drop}
use Rattle.layer_plan.specs.Dependencies.{DependsOn}
use Rattle.layer_plan.specs.Cycles.{Lacks, IsDistinct, Leads, IsCycle}
use Rattle.layer_plan.specs.Nearness.{HasCycle}
use Rattle.layer_plan.specs.Search.{IsTrail, IsLast}
use Rattle.layer_plan.specs.declared.search.Stage.{Stage}
use Rattle.layer_plan.specs.declared.search.Stage.TheVariants.{Open}

lacks_from : (x : ℕ) (xs : List ℕ) → ((j : ℕ) → j < length xs → get_or xs j 0 ≡ x → ⊥) → Lacks xs x
lacks_from x [] h = tt
lacks_from x (y ∷ ys) h = (λ e. h 0 (omega arith) e, lacks_from x ys (λ j lt e. h (suc j) (omega arith) e))

distinct_from : (xs : List ℕ) → ((i j : ℕ) → i < j → j < length xs → get_or xs i 0 ≡ get_or xs j 0 → ⊥) → IsDistinct xs
distinct_from [] h = tt
distinct_from (x ∷ xs) h = (lacks_from x xs (λ j lt e. h 0 (suc j) (omega arith) (omega arith) (sym e)), distinct_from xs (λ i j lt lj e. h (suc i) (suc j) (omega arith) (omega arith) e))

leads_from : (deps : List (Vec ℕ Global)) (xs : List ℕ) (end : ℕ) → ((i : ℕ) → suc i < length xs → DependsOn deps (get_or xs i 0) (get_or xs (suc i) 0)) → ((i : ℕ) → suc i ≡ length xs → DependsOn deps (get_or xs i 0) end) → Leads deps xs end
leads_from deps [] end c l = tt
leads_from deps (x ∷ []) end c l = (l 0 (omega arith), tt)
leads_from deps (x ∷ y ∷ ys) end c l = (c 0 (omega arith), leads_from deps (y ∷ ys) end (λ i lt. c (suc i) (omega arith)) (λ i e. l (suc i) (omega arith)))

cycle_from : (deps : List (Vec ℕ Global)) (xs : List ℕ) (first : ℕ) → 0 < length xs → get_or xs 0 0 ≡ first → IsDistinct xs → Leads deps xs first → IsCycle deps xs
cycle_from deps [] first h e d l = absurd (omega arith)
cycle_from deps (x ∷ xs) first h e d l = (d, subst (λ y. Leads deps (x ∷ xs) y) (sym e) l)

has_cycle : (deps : List (Vec ℕ Global)) (list : List ℕ) → IsCycle deps list → HasCycle deps
has_cycle deps [] c = absurd c
has_cycle deps (x ∷ xs) c = (x, (xs, c.1))

-- the stack from one of its items on, on which the last depends
cycle_of_trail : (deps : List (Vec ℕ Global)) (s : ℕ → Stage) (st : List ℕ) (p first item i : ℕ) → IsTrail deps s st → p < length st → get_or st p 0 ≡ first → i + 1 ≡ length st → get_or st i 0 ≡ item → DependsOn deps item first → IsCycle deps (drop p st)
cycle_of_trail deps s st p first item i t p_in at last is_item dep =
    let size : length (drop p st) + p ≡ length st = omega (arith, length-drop p st) in
    let read : (k : ℕ) → get_or (drop p st) k 0 ≡ get_or st (p + k) 0 = λ k. get_or-drop p st k 0 in
    let zeroth : get_or (drop p st) 0 0 ≡ first = (let e : p + 0 ≡ p = omega arith in read 0 ∙ ap (λ k. get_or st k 0) e ∙ at) in
    cycle_from deps (drop p st) first (omega arith) zeroth
    (distinct_from (drop p st) (λ j k lt lk e. t.distinct (p + j) (p + k) (omega arith) (omega arith) (sym (read j) ∙ e ∙ read k)))
    (leads_from deps (drop p st) first
    (λ k lt. (let e : p + suc k ≡ p + k + 1 = omega arith in subst (λ y. DependsOn deps y (get_or (drop p st) (suc k) 0)) (sym (read k)) (subst (λ y. DependsOn deps (get_or st (p + k) 0) y) (sym (read (suc k) ∙ ap (λ n. get_or st n 0) e)) (t.chain (p + k) (omega arith)))))
    (λ k e. (let q : p + k ≡ i = omega arith in subst (λ y. DependsOn deps y first) (sym (read k ∙ ap (λ n. get_or st n 0) q ∙ is_item)) dep)))

-- so there is a cycle where the last item of the stack depends on an open one
pub cycle_at : (deps : List (Vec ℕ Global)) (s : ℕ → Stage) (st : List ℕ) (first item : ℕ) → IsTrail deps s st → IsLast st item → DependsOn deps item first → first < length deps → s first ≡ Open → HasCycle deps
cycle_at deps s st first item t last d first_in o =
    let at = t.all first first_in o in
    has_cycle deps (drop at.0 st) (cycle_of_trail deps s st at.0 first item last.0 t at.1 at.2 last.1 last.2 d)
