-- Ways: lists of items each of which depends on the next, and the last on an end.
use Rattle.std.proofs.Common.{Vec, zero, suc, ℕ, ◌<◌, ◌≤◌, ◌≡◌, List, [], ◌∷◌, ◌++◌, ◌∙◌, length, get_or, subst, sym, refl, arith}
use Rattle.std.specs.declared.alloc.Global.{Global}
use Rattle.std.specs.List.{Contains}
use Rattle.layer_plan.specs.Dependencies.{DependsOn}
use Rattle.layer_plan.specs.Cycles.{first_or, Leads, IsCycle}
use Rattle.layer_plan.specs.Nearness.{IsNear, HasWay, LeadsBack}

-- one way behind another
leads_join : (deps : List (Vec ℕ Global)) (xs ys : List ℕ) (end : ℕ) → Leads deps xs (first_or ys end) → Leads deps ys end → Leads deps (xs ++ ys) end
leads_join deps [] ys end a b = b
leads_join deps (x ∷ []) ys end a b = (a.0, b)
leads_join deps (x ∷ z ∷ zs) ys end a b = (a.0, leads_join deps (z ∷ zs) ys end a.1 b)

-- a way round a cycle: `ys` are the items behind its first, and `xs` those still ahead
round : (deps : List (Vec ℕ Global)) (y : ℕ) (ys xs : List ℕ) (item k : ℕ) → Leads deps (y ∷ ys) (first_or xs y) → Leads deps xs y → k < length xs → get_or xs k item ≡ item → LeadsBack deps item
round deps y ys [] item k before after lt at = absurd (omega arith)
round deps y ys (x ∷ xs) item zero before after lt at = subst (λ v. LeadsBack deps v) at (xs ++ y ∷ ys, leads_join deps (x ∷ xs) (y ∷ ys) x after before)
round deps y ys (x ∷ xs) item (suc k) before after lt at = round deps y (ys ++ x ∷ []) xs item k (leads_join deps (y ∷ ys) (x ∷ []) (first_or xs y) before (after.0, tt)) after.1 (omega arith) at

-- each item of a cycle leads back to itself
pub back_of_cycle : (deps : List (Vec ℕ Global)) (list : List ℕ) (item : ℕ) → IsCycle deps list → Contains list item → LeadsBack deps item
back_of_cycle deps [] item cycle at = absurd cycle
back_of_cycle deps (y ∷ xs) item cycle (zero, lt, e) = subst (λ v. LeadsBack deps v) e (xs, cycle.1)
back_of_cycle deps (y ∷ xs) item cycle (suc k, lt, e) = round deps y [] xs item k (cycle.1.0, tt) cycle.1.1 (omega arith) e

-- the first of a way to the root is as near as the way is short
pub near_of_way : (deps : List (Vec ℕ Global)) (near : ℕ → ℕ) (root : ℕ) (xs : List ℕ) → IsNear deps near root → Leads deps xs root → (near (first_or xs root) < length deps) × (near (first_or xs root) ≤ length xs)
near_of_way deps near root [] n l = let a = n.at_root in let b = n.root_in in (omega arith, omega arith)
near_of_way deps near root (x ∷ xs) n l =
    let i = near_of_way deps near root xs n l.1 in
    let s = n.step x _ l.0 i.0 in
    let short = i.1 in
    (n.known x _ l.0 i.0, omega arith)

pub way_self : (deps : List (Vec ℕ Global)) (x y : ℕ) → x ≡ y → HasWay deps x y
way_self deps x y e = ([], tt, sym e)

first_join : (xs ys : List ℕ) (y z x : ℕ) → first_or ys z ≡ y → first_or xs y ≡ x → first_or (xs ++ ys) z ≡ x
first_join [] ys y z x e f = e ∙ f
first_join (a ∷ xs) ys y z x e f = f

pub way_join : (deps : List (Vec ℕ Global)) (x y z : ℕ) → HasWay deps x y → HasWay deps y z → HasWay deps x z
way_join deps x y z a b = (a.0 ++ b.0, leads_join deps a.0 b.0 z (subst (λ v. Leads deps a.0 v) (sym b.2) a.1) b.1, first_join a.0 b.0 y z x b.2 a.2)

pub way_step : (deps : List (Vec ℕ Global)) (x y : ℕ) → DependsOn deps x y → HasWay deps x y
way_step deps x y d = (x ∷ [], (d, tt), refl)

-- of two items that lead to one another each leads back to itself
back_of : (deps : List (Vec ℕ Global)) (x y : ℕ) (xs ys : List ℕ) → Leads deps xs y → first_or xs y ≡ x → Leads deps ys x → first_or ys x ≡ y → (x ≡ y → ⊥) → LeadsBack deps x
back_of deps x y [] ys a e b f ne = absurd (ne (sym e))
back_of deps x y (z ∷ xs) ys a e b f ne = (xs ++ ys, subst (λ v. Leads deps (v ∷ xs ++ ys) x) e (leads_join deps (z ∷ xs) ys x (subst (λ v. Leads deps (z ∷ xs) v) (sym f) a) b))

pub back_of_ways : (deps : List (Vec ℕ Global)) (x y : ℕ) → HasWay deps x y → HasWay deps y x → (x ≡ y → ⊥) → LeadsBack deps x
back_of_ways deps x y a b ne = back_of deps x y a.0 b.0 a.1 a.2 b.1 b.2 ne
