-- One more list behind others.
use Rattle.std.proofs.Common.{Vec, zero, suc, ℕ, ◌<◌, ◌⊎◌, List, [], ◌∷◌, ◌++◌, inl, inr, arith}
use Rattle.std.specs.declared.alloc.Global.{Global}
use Rattle.std.specs.List.{All, Contains}
use Rattle.std.proofs.lemmas.List.Elements.{All-contains}
use Rattle.layer_plan.specs.Dependencies.{list_of, DependsOn}

depends_push : (xs : List (Vec ℕ Global)) (l : Vec ℕ Global) (v w : ℕ) → DependsOn (xs ++ l ∷ []) v w → DependsOn xs v w ⊎ Contains l.items w
unfolding list_of DependsOn
depends_push [] l zero w d = inr d
depends_push [] l (suc v) w d = inl d
depends_push (x ∷ xs) l zero w d = inl d
depends_push (x ∷ xs) l (suc v) w d = depends_push xs l v w d

pub below_push : (xs : List (Vec ℕ Global)) (l : Vec ℕ Global) (n : ℕ) → ((v w : ℕ) → DependsOn xs v w → w < n) → All (λ y. y < n) l.items → (v w : ℕ) → DependsOn (xs ++ l ∷ []) v w → w < n
below_push xs l n old all v w d = elim (depends_push xs l v w d) [ inl h ↦ old v w h | inr h ↦ All-contains (λ y. y < n) l.items w all h ]

pub none_below : (n v w : ℕ) → DependsOn [] v w → w < n
unfolding list_of DependsOn
none_below n v w d = (let lt = d.1 in absurd (omega arith))
