-- Where each item is above those that it depends on, and no higher than they make necessary, the layers
-- are the lengths of the longest paths, and there is no cycle.
use Rattle.std.proofs.Common.{Vec, zero, suc, ℕ, ◌+◌, ◌<◌, ◌≤◌, ◌≡◌, ◌⊎◌, List, [], ◌∷◌, length, subst, ap, inl, inr, refl, arith}
use Rattle.std.specs.declared.alloc.Global.{Global}
use Rattle.layer_plan.specs.Dependencies.{DependsOn, AreItems}
use Rattle.layer_plan.specs.Paths.{HasPath, IsLongest}
use Rattle.layer_plan.specs.Cycles.{Leads, IsCycle}
use Rattle.layer_plan.specs.Search.{IsSound, stage_of, layer_of}
use Rattle.layer_plan.specs.declared.search.Stage.{Stage}
use Rattle.layer_plan.specs.declared.search.Stage.TheVariants.{Untouched, Open, Placed}
use Rattle.layer_plan.specs.declared.search.Search.{Search}
use Rattle.layer_plan.proofs.Lists.{place_of, depends_in}

bounded : (deps : List (Vec ℕ Global)) (layer : ℕ → ℕ) → ((v w : ℕ) → DependsOn deps v w → layer w < layer v) → (n v : ℕ) → HasPath deps v n → n ≤ layer v
bounded deps layer below zero v h = omega arith
bounded deps layer below (suc n) v h = let i = bounded deps layer below n h.0 h.2 in let b = below v h.0 h.1 in omega arith

path_of : (deps : List (Vec ℕ Global)) (layer : ℕ → ℕ) → AreItems deps → ((v : ℕ) → v < length deps → (layer v ≡ 0) ⊎ ((w : ℕ) × DependsOn deps v w × (layer v ≡ layer w + 1))) → (n v : ℕ) → v < length deps → layer v ≡ n → HasPath deps v n
path_of deps layer items reached zero v lt e = tt
path_of deps layer items reached (suc n) v lt e = elim (reached v lt) [ inl z ↦ absurd (omega arith) | inr t ↦ (let q = t.2 in (t.0, t.1, path_of deps layer items reached n t.0 (items v t.0 t.1) (omega arith))) ]

falls : (deps : List (Vec ℕ Global)) (layer : ℕ → ℕ) → ((v w : ℕ) → DependsOn deps v w → layer w < layer v) → (x : ℕ) (xs : List ℕ) (end : ℕ) → Leads deps (x ∷ xs) end → layer end < layer x
falls deps layer below x [] end l = below x end l.0
falls deps layer below x (y ∷ ys) end l = let i = falls deps layer below y ys end l.1 in let b = below x y l.0 in omega arith

no_cycle : (deps : List (Vec ℕ Global)) (layer : ℕ → ℕ) → ((v w : ℕ) → DependsOn deps v w → layer w < layer v) → (list : List ℕ) → IsCycle deps list → ⊥
no_cycle deps layer below [] h = h
no_cycle deps layer below (x ∷ xs) h = let f = falls deps layer below x xs x h.1 in omega arith

the_rest : (s : Stage) → (s ≡ Untouched → ⊥) → (s ≡ Open → ⊥) → s ≡ Placed
the_rest Untouched a b = absurd (a refl)
the_rest Open a b = absurd (b refl)
the_rest Placed a b = refl

-- each item is placed where the stack is empty and each was touched
placed_all : (deps : List (Vec ℕ Global)) (s : Search) → IsSound deps s → s.stack.items ≡ [] → ((v : ℕ) → v < length deps → stage_of s v ≡ Untouched → ⊥) → (v : ℕ) → v < length deps → stage_of s v ≡ Placed
placed_all deps s sound empty touched v lt = the_rest (stage_of s v) (touched v lt) (λ e. (let w = sound.trail.all v lt e in let h = w.1 in let z : length s.stack.items ≡ 0 = ap length empty in omega arith))

below_all : (deps : List (Vec ℕ Global)) (s : Search) → IsSound deps s → ((v : ℕ) → v < length deps → stage_of s v ≡ Placed) → (v w : ℕ) → DependsOn deps v w → layer_of s w < layer_of s v
below_all deps s sound placed v w dep =
    let at = place_of deps v w dep in
    let lt = depends_in deps v w dep in
    let none = sound.kept.done v lt (placed v lt) in
    subst (λ y. layer_of s y < layer_of s v) at.2 (sound.kept.below v at.0 lt (omega arith) at.1)

pub longest_all : (deps : List (Vec ℕ Global)) (s : Search) → AreItems deps → IsSound deps s → s.stack.items ≡ [] → ((v : ℕ) → v < length deps → stage_of s v ≡ Untouched → ⊥) → (v : ℕ) → v < length deps → IsLongest deps v (layer_of s v)
longest_all deps s items sound empty touched v lt =
    let below = below_all deps s sound (placed_all deps s sound empty touched) in (
      path_of deps (layer_of s) items (λ v lt. elim (sound.kept.reached v lt) [ inl e ↦ inl e | inr t ↦ inr (t.0, t.1, t.3) ]) (layer_of s v) v lt refl,
      λ m h. bounded deps (layer_of s) below m v h,
    )

pub no_cycle_all : (deps : List (Vec ℕ Global)) (s : Search) → IsSound deps s → s.stack.items ≡ [] → ((v : ℕ) → v < length deps → stage_of s v ≡ Untouched → ⊥) → (list : List ℕ) → IsCycle deps list → ⊥
no_cycle_all deps s sound empty touched = no_cycle deps (layer_of s) (below_all deps s sound (placed_all deps s sound empty touched))
