-- The lists of users, as users are added.
use Rattle.std.proofs.Common.{Vec, zero, suc, ℕ, ◌+◌, ◌<◌, ◌≤◌, ◌≡◌, ◌⊎◌, ◌∙◌, List, [], ◌∷◌, ◌++◌, length, get_or, set, subst, sym, ap, inl, inr, refl, arith}
use Rattle.std.specs.declared.alloc.Global.{Global}
use Rattle.std.specs.List.{Contains}
use Rattle.std.proofs.lemmas.Bool.{cases_eq, cases_lt}
use Rattle.std.proofs.lemmas.List.{length_push, get_or_push, get_or_append_left}
use Rattle.layer_plan.specs.Dependencies.{list_of, DependsOn}
use Rattle.layer_plan.specs.Uses.{Adds, AreUses}
use Rattle.layer_plan.proofs.Lists.{place_of, depends_at, depends_in}

pub depends_none : (w v : ℕ) → DependsOn [] w v → ⊥
unfolding list_of DependsOn
depends_none w v d = (let lt = d.1 in absurd (omega arith))

-- an empty list behind others adds nothing
pub depends_push_empty : (xs : List (Vec ℕ Global)) (l : Vec ℕ Global) (w v : ℕ) → l.items ≡ [] → DependsOn (xs ++ l ∷ []) w v → DependsOn xs w v
unfolding list_of DependsOn
depends_push_empty [] l zero v e d = (let lt = d.1 in let z = ap length e in absurd (omega arith))
depends_push_empty [] l (suc w) v e d = d
depends_push_empty (x ∷ xs) l zero v e d = d
depends_push_empty (x ∷ xs) l (suc w) v e d = depends_push_empty xs l w v e d

list_of-set_same : (xs : List (Vec ℕ Global)) (i : ℕ) (l : Vec ℕ Global) → i < length xs → list_of (set xs i l) i ≡ l.items
unfolding list_of
list_of-set_same [] i l lt = absurd (omega arith)
list_of-set_same (x ∷ xs) zero l lt = refl
list_of-set_same (x ∷ xs) (suc i) l lt = list_of-set_same xs i l (omega arith)

list_of-set_other : (xs : List (Vec ℕ Global)) (i w : ℕ) (l : Vec ℕ Global) → (w ≡ i → ⊥) → list_of (set xs i l) w ≡ list_of xs w
unfolding list_of
list_of-set_other [] i w l ne = refl
list_of-set_other (x ∷ xs) zero zero l ne = absurd (ne refl)
list_of-set_other (x ∷ xs) zero (suc w) l ne = refl
list_of-set_other (x ∷ xs) (suc i) zero l ne = refl
list_of-set_other (x ∷ xs) (suc i) (suc w) l ne = list_of-set_other xs i w l (λ e. ne (ap suc e))

contains_push_old : (xs : List ℕ) (x y : ℕ) → Contains xs y → Contains (xs ++ x ∷ []) y
contains_push_old xs x y (k, lt, e) = (k, omega (arith, length_push xs x), get_or_append_left xs (x ∷ []) y k lt ∙ e)

contains_push_new : (xs : List ℕ) (x : ℕ) → Contains (xs ++ x ∷ []) x
contains_push_new xs x = (length xs, omega (arith, length_push xs x), get_or_push xs x x (length xs) refl)

contains_push : (xs : List ℕ) (x y : ℕ) → Contains (xs ++ x ∷ []) y → Contains xs y ⊎ (y ≡ x)
contains_push xs x y (k, lt, e) = elim (cases_lt k (length xs)) [ inl h ↦ inl (k, h, sym (get_or_append_left xs (x ∷ []) y k h) ∙ e) | inr h ↦ inr (sym e ∙ get_or_push xs x y k (omega (arith, length_push xs x))) ]

-- one user more
pub Adds-one : (old new : List (Vec ℕ Global)) (i x : ℕ) (xs : List ℕ) (l : Vec ℕ Global) → i < length old → new ≡ set old i l → length new ≡ length old → xs ≡ list_of old i → l.items ≡ xs ++ x ∷ [] → Adds old new (λ w v. (w ≡ i) × (v ≡ x))
unfolding DependsOn
Adds-one old new i x xs l lt is count before after =
    let here : list_of new i ≡ list_of old i ++ x ∷ [] = ap (λ ys. list_of ys i) is ∙ list_of-set_same old i l lt ∙ after ∙ ap (λ ys. ys ++ x ∷ []) before in
    let there : (w : ℕ) → (w ≡ i → ⊥) → list_of new w ≡ list_of old w = λ w ne. ap (λ ys. list_of ys w) is ∙ list_of-set_other old i w l ne in
    record {
      count = count;
      kept = λ w v d. elim (cases_eq w i) [
        | inl e ↦ subst (λ y. Contains (list_of new y) v) (sym e) (subst (λ ys. Contains ys v) (sym here) (contains_push_old (list_of old i) x v (subst (λ y. Contains (list_of old y) v) e d)))
        | inr ne ↦ subst (λ ys. Contains ys v) (sym (there w ne)) d
      ];
      added = λ w v a. subst (λ y. Contains (list_of new w) y) (sym a.1) (subst (λ y. Contains (list_of new y) x) (sym a.0) (subst (λ ys. Contains ys x) (sym here) (contains_push_new (list_of old i) x)));
      only = λ w v d. elim (cases_eq w i) [
        | inl e ↦ (elim (contains_push (list_of old i) x v (subst (λ ys. Contains ys v) here (subst (λ y. Contains (list_of new y) v) e d))) [ inl h ↦ inl (subst (λ y. Contains (list_of old y) v) (sym e) h) | inr h ↦ inr (e, h) ])
        | inr ne ↦ inl (subst (λ ys. Contains ys v) (there w ne) d)
      ];
    }

-- one addition after another
pub Adds-then : (a b c : List (Vec ℕ Global)) (P Q R : ℕ → ℕ → Type 0) → Adds a b P → Adds b c Q → ((w v : ℕ) → P w v → R w v) → ((w v : ℕ) → Q w v → R w v) → ((w v : ℕ) → R w v → P w v ⊎ Q w v) → Adds a c R
Adds-then a b c P Q R p q from_p from_q split = record {
  count = q.count ∙ p.count;
  kept = λ w v d. q.kept w v (p.kept w v d);
  added = λ w v r. elim (split w v r) [ inl h ↦ q.kept w v (p.added w v h) | inr h ↦ q.added w v h ];
  only = λ w v d. elim (q.only w v d) [ inl h ↦ elim (p.only w v h) [ inl k ↦ inl k | inr k ↦ inr (from_p w v k) ] | inr h ↦ inr (from_q w v h) ];
}

-- `w` stands among the first `n` of the list of `i`
abbrev pub IsAmong : List (Vec ℕ Global) → ℕ → ℕ → ℕ → Type 0
IsAmong deps i n w = (k : ℕ) × (k < n) × (get_or (list_of deps i) k 0 ≡ w)

pub among_more : (deps old mid new : List (Vec ℕ Global)) (i n x : ℕ) → get_or (list_of deps i) n 0 ≡ x → Adds old mid (λ w v. (v ≡ i) × IsAmong deps i n w) → Adds mid new (λ w v. (w ≡ x) × (v ≡ i)) → Adds old new (λ w v. (v ≡ i) × IsAmong deps i (n + 1) w)
among_more deps old mid new i n x at a b = Adds-then old mid new (λ w v. (v ≡ i) × IsAmong deps i n w) (λ w v. (w ≡ x) × (v ≡ i)) (λ w v. (v ≡ i) × IsAmong deps i (n + 1) w) a b
    (λ w v p. (let lt = p.1.1 in (p.0, (p.1.0, omega arith, p.1.2))))
    (λ w v q. (q.1, (n, omega arith, at ∙ sym q.0)))
    (λ w v r. (let lt = r.1.1 in elim (cases_lt r.1.0 n) [ inl h ↦ inl (r.0, (r.1.0, h, r.1.2)) | inr h ↦ (let e : r.1.0 ≡ n = omega arith in inr (sym r.1.2 ∙ ap (λ k. get_or (list_of deps i) k 0) e ∙ at, r.0)) ]))

pub among_all : (deps old new : List (Vec ℕ Global)) (i n : ℕ) → n ≡ length (list_of deps i) → Adds old new (λ w v. (v ≡ i) × IsAmong deps i n w) → Adds old new (λ w v. (v ≡ i) × DependsOn deps i w)
among_all deps old new i n size a = record {
  count = a.count;
  kept = a.kept;
  added = λ w v p. (let at = place_of deps i w p.1 in let lt = at.1 in a.added w v (p.0, (at.0, omega arith, at.2)));
  only = λ w v d. elim (a.only w v d) [ inl h ↦ inl h | inr h ↦ (let lt = h.1.1 in inr (h.0, subst (λ y. DependsOn deps i y) h.1.2 (depends_at deps i h.1.0 (omega arith)))) ];
}

pub users_more : (deps old mid new : List (Vec ℕ Global)) (i : ℕ) → Adds old mid (λ w v. (v < i) × DependsOn deps v w) → Adds mid new (λ w v. (v ≡ i) × DependsOn deps i w) → Adds old new (λ w v. (v < i + 1) × DependsOn deps v w)
users_more deps old mid new i a b = Adds-then old mid new (λ w v. (v < i) × DependsOn deps v w) (λ w v. (v ≡ i) × DependsOn deps i w) (λ w v. (v < i + 1) × DependsOn deps v w) a b
    (λ w v p. (let lt = p.0 in (omega arith, p.1)))
    (λ w v q. (let e = q.0 in (omega arith, subst (λ y. DependsOn deps y w) (sym q.0) q.1)))
    (λ w v r. (let lt = r.0 in elim (cases_eq v i) [ inl e ↦ inr (e, subst (λ y. DependsOn deps y w) e r.1) | inr ne ↦ inl (omega arith, r.1) ]))

pub users_all : (deps old new : List (Vec ℕ Global)) (n : ℕ) → length deps ≤ n → length old ≡ length deps → ((w v : ℕ) → DependsOn old w v → ⊥) → Adds old new (λ w v. (v < n) × DependsOn deps v w) → AreUses deps new
users_all deps old new n size before empty a = record {
  count = a.count ∙ before;
  each = λ v w d. (let lt = depends_in deps v w d in a.added w v (omega arith, d));
  only = λ v w d. elim (a.only w v d) [ inl h ↦ absurd (empty w v h) | inr h ↦ h.1 ];
}

-- users are items
pub users_items : (deps uses : List (Vec ℕ Global)) → AreUses deps uses → (item next : ℕ) → DependsOn uses item next → next < length uses
users_items deps uses u item next d = (let lt = depends_in deps next item (u.only next item d) in let count = u.count in omega arith)
