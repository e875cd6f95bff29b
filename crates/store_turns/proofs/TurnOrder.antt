-- The order of turns.
use Rattle.std.proofs.Common.{◌≡◌, ◌≢◌, ℕ, ◌<◌, ◌≤◌, subst, true, false, refl, sym, ap, ◌∙◌, inl, inr, arith}
use Rattle.std.specs.Ordering.{nat_cmp, ordering_then, is_eq, is_gt}
use Rattle.std.specs.BTreeMap.{is_at}
use Rattle.std.specs.declared.cmp.Ordering.{Ordering}
use Rattle.std.specs.declared.cmp.Ordering.TheVariants.{Less, Equal, Greater}
use Rattle.std.proofs.lemmas.Bool.{cases_Bool}
use Rattle.std.proofs.lemmas.Cmp.{ranked}
use Rattle.std.proofs.lemmas.Map.Lookups.{exact_unsigned}
use Rattle.store_turns.specs.declared.waiting.Turn.{Turn}
use Rattle.store_turns.specs.Entries.{turn_cmp, NotAfter, IsBefore}

not_both : (x y : Ordering) → (x ≡ Equal → y ≡ Equal → ⊥) → is_eq (ordering_then x y) ≡ false
not_both Less y h = refl
not_both Greater y h = refl
not_both Equal Less h = refl
not_both Equal Greater h = refl
not_both Equal Equal h = absurd (h refl refl)

pub other_turn : (a b : Turn) → (b.layer ≡ a.layer → b.id ≢ a.id) → is_at (turn_cmp a) b ≡ false
other_turn a b ne = not_both (nat_cmp a.layer b.layer) (nat_cmp a.id b.id) (λ e f. ne (sym (exact_unsigned a.layer b.layer e)) (sym (exact_unsigned a.id b.id f)))

same_number : (a : ℕ) (o : Ordering) → o ≡ nat_cmp a a → o ≡ Equal
same_number a Less e = let l : a < a = ranked a a Less e in absurd (omega (arith, l))
same_number a Equal e = refl
same_number a Greater e = let l : a < a = ranked a a Greater e in absurd (omega (arith, l))

pub same_turn : (a : Turn) → is_at (turn_cmp a) a ≡ true
same_turn a =
    ap (λ (o : Ordering). is_eq (ordering_then o (nat_cmp a.id a.id))) (same_number a.layer (nat_cmp a.layer a.layer) refl)
    ∙ ap (λ (o : Ordering). is_eq (ordering_then Equal o)) (same_number a.id (nat_cmp a.id a.id) refl)

both_equal : (x y : Ordering) → is_eq (ordering_then x y) ≡ true → (x ≡ Equal) × (y ≡ Equal)
both_equal Less y h = absurd (cc)
both_equal Greater y h = absurd (cc)
both_equal Equal Less h = absurd (cc)
both_equal Equal Greater h = absurd (cc)
both_equal Equal Equal h = (refl, refl)

turn : ℕ → ℕ → Turn
turn l i = record { layer = l; id = i }

pub turn_is : (a b : Turn) → is_at (turn_cmp a) b ≡ true → a ≡ b
unfolding turn
turn_is a b e =
    let h = both_equal (nat_cmp a.layer b.layer) (nat_cmp a.id b.id) e in
    ap (λ (l : ℕ). turn l a.id) (exact_unsigned a.layer b.layer h.0) ∙ ap (λ (i : ℕ). turn b.layer i) (exact_unsigned a.id b.id h.1)

less : (a b : ℕ) → nat_cmp a b ≡ Less → a < b
less a b e = ranked a b Less (sym e)

up_to : (a b : ℕ) (o : Ordering) → o ≡ nat_cmp a b → is_gt o ≡ false → a ≤ b
up_to a b Less e h = let l : a < b = ranked a b Less e in omega arith
up_to a b Equal e h = let l : a ≡ b = ranked a b Equal e in omega arith
up_to a b Greater e h = absurd (cc)

above : (a b : ℕ) (o : Ordering) → o ≡ nat_cmp a b → is_gt o ≡ true → b < a
above a b Less e h = absurd (cc)
above a b Equal e h = absurd (cc)
above a b Greater e h = ranked a b Greater e

by_layer : (a b : Turn) (x y : Ordering) → x ≡ nat_cmp a.layer b.layer → y ≡ nat_cmp a.id b.id → is_gt (ordering_then x y) ≡ false → NotAfter a b
by_layer a b Less y e f h = inl (ranked a.layer b.layer Less e)
by_layer a b Equal y e f h = inr (ranked a.layer b.layer Equal e, up_to a.id b.id y f h)
by_layer a b Greater y e f h = absurd (cc)

pub not_after : (a b : Turn) → is_gt (turn_cmp a b) ≡ false → NotAfter a b
not_after a b h = by_layer a b (nat_cmp a.layer b.layer) (nat_cmp a.id b.id) refl refl h

by_layer_back : (a b : Turn) (x y : Ordering) → x ≡ nat_cmp a.layer b.layer → y ≡ nat_cmp a.id b.id → is_gt (ordering_then x y) ≡ true → NotAfter b a
by_layer_back a b Less y e f h = absurd (cc)
by_layer_back a b Equal y e f h = let l : b.id < a.id = above a.id b.id y f h in inr (sym (ranked a.layer b.layer Equal e), omega (arith, l))
by_layer_back a b Greater y e f h = inl (ranked a.layer b.layer Greater e)

pub no_later : (a : Turn) → NotAfter a a
no_later a = inr (refl, omega arith)

pub later : (a b c : Turn) → NotAfter a b → NotAfter b c → NotAfter a c
later a b c (inl l) (inl k) = inl (omega (arith, l, k))
later a b c (inl l) (inr k) = inl (omega (arith, l, k.0))
later a b c (inr l) (inl k) = inl (omega (arith, l.0, k))
later a b c (inr l) (inr k) = inr (l.0 ∙ k.0, omega (arith, l.1, k.1))

-- ---- two turns apart, and two in order
pub apart : (t u : Turn) → is_at (turn_cmp t) u ≡ false → is_at (turn_cmp u) t ≡ false
apart t u h =
    elim (cases_Bool (is_at (turn_cmp u) t)) [
      | inl b ↦ let e : true ≡ false = sym (same_turn t) ∙ ap (λ (x : Turn). is_at (turn_cmp t) x) (sym (turn_is u t b)) ∙ h in absurd (cc)
      | inr b ↦ b
    ]

pub before_not_after : (t u : Turn) → IsBefore t u → NotAfter t u
before_not_after t u (inl l) = inl l
before_not_after t u (inr l) = inr (l.0, omega (arith, l.1))

pub not_both_ways : (t u : Turn) → IsBefore t u → NotAfter u t → ⊥
not_both_ways t u (inl l) (inl k) = omega (arith, l, k)
not_both_ways t u (inl l) (inr k) = omega (arith, l, k.0)
not_both_ways t u (inr l) (inl k) = omega (arith, l.0, k)
not_both_ways t u (inr l) (inr k) = omega (arith, l.1, k.1)

pub before_apart : (t u : Turn) → IsBefore t u → is_at (turn_cmp t) u ≡ false
before_apart t u h =
    elim (cases_Bool (is_at (turn_cmp t) u)) [
      | inl b ↦ absurd (not_both_ways t u h (subst (λ (x : Turn). NotAfter x t) (turn_is t u b) (no_later t)))
      | inr b ↦ b
    ]

-- a turn that is before one is before what that one isn't after
pub before_and_later : (t u v : Turn) → IsBefore t u → NotAfter u v → is_at (turn_cmp t) v ≡ false
before_and_later t u v h k =
    elim (cases_Bool (is_at (turn_cmp t) v)) [
      | inl b ↦ absurd (not_both_ways t u h (subst (λ (x : Turn). NotAfter u x) (sym (turn_is t v b)) k))
      | inr b ↦ b
    ]

pub before_or_later : (a b c : Turn) → NotAfter a b → IsBefore b c → IsBefore a c
before_or_later a b c (inl l) (inl k) = inl (omega (arith, l, k))
before_or_later a b c (inl l) (inr k) = inl (omega (arith, l, k.0))
before_or_later a b c (inr l) (inl k) = inl (omega (arith, l.0, k))
before_or_later a b c (inr l) (inr k) = inr (l.0 ∙ k.0, omega (arith, l.1, k.1))

pub before_and_after : (a b c : Turn) → IsBefore a b → NotAfter b c → IsBefore a c
before_and_after a b c (inl l) (inl k) = inl (omega (arith, l, k))
before_and_after a b c (inl l) (inr k) = inl (omega (arith, l, k.0))
before_and_after a b c (inr l) (inl k) = inl (omega (arith, l.0, k))
before_and_after a b c (inr l) (inr k) = inr (l.0 ∙ k.0, omega (arith, l.1, k.1))
