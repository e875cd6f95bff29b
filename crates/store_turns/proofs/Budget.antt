-- What a turn costs is paid by what it touches.
use Rattle.std.proofs.Common.{◌≡◌, ◌≢◌, ℕ, zero, suc, ◌+◌, ◌*◌, ◌<◌, ◌≤◌, Bool, true, false, cond, nat_eq, ◌||◌, List, [], ◌∷◌, ◌++◌, length, map, Option, Some, None, refl, sym, ap, ◌∙◌, subst, arith, ◌⊎◌, inl, inr, All}
use Rattle.std.specs.List.{list_any}
use Rattle.std.proofs.lemmas.Bool.Decides.{eqb_tells}
use Rattle.std.proofs.lemmas.List.{length-append}
use Rattle.std.proofs.lemmas.List.Elements.{All-head, All-tail}
use Rattle.cbl_base.specs.declared.ids.NodeId.{NodeId}
use Rattle.cbl_base.specs.declared.input.Change.{Change}
use Rattle.store_turns.specs.Waits.{Wait}
use Rattle.store_turns.specs.Telling.{places_in, positions, pushed, blocked}
use Rattle.store_turns.specs.Touch.{sum_below, bit, touched, edges, touch, cost}
use Rattle.store_turns.proofs.Reaching.{none_quiet}

-- ---- sums over the numbers below n
pub sum_le : (f g : ℕ → ℕ) (n : ℕ) → ((j : ℕ) → j < n → f j ≤ g j) → sum_below f n ≤ sum_below g n
sum_le f g zero h = omega arith
sum_le f g (suc n) h = let a = sum_le f g n (λ j lt. h j (omega arith)) in let b = h n (omega arith) in omega (arith, a, b)

pub sum_add : (f g : ℕ → ℕ) (n : ℕ) → sum_below (λ j. f j + g j) n ≡ sum_below f n + sum_below g n
sum_add f g zero = refl
sum_add f g (suc n) = let a = sum_add f g n in omega (arith, a)

pub sum_times : (k : ℕ) (f : ℕ → ℕ) (n : ℕ) → sum_below (λ j. k * f j) n ≡ k * sum_below f n
sum_times k f zero = grind arith
sum_times k f (suc n) = let a = sum_times k f n in grind (arith, a)

pub sum_none : (f : ℕ → ℕ) (n : ℕ) → ((j : ℕ) → j < n → f j ≡ 0) → sum_below f n ≡ 0
sum_none f zero h = refl
sum_none f (suc n) h = let a = sum_none f n (λ j lt. h j (omega arith)) in let b = h n (omega arith) in omega (arith, a, b)

-- a function that is 0 but at one number
pub sum_one : (i c n : ℕ) → i < n → sum_below (λ j. cond (nat_eq j i) c 0) n ≡ c
sum_one i c zero lt = absurd (omega arith)
sum_one i c (suc n) lt =
    elim (eqb_tells n i) [
      | inl t ↦ let a : sum_below (λ j. cond (nat_eq j i) c 0) n ≡ 0 = sum_none _ n (λ j low. away j (omega (arith, low, t.1))) in rw t.0 (omega (arith, a))
      | inr f ↦ let a = sum_one i c n (omega (arith, f.1)) in rw f.0 (omega (arith, a))
    ]
  where
    away : (j : ℕ) → j ≢ i → cond (nat_eq j i) c 0 ≡ 0
    away j ne = elim (eqb_tells j i) [ inl t ↦ absurd (ne t.1) | inr f ↦ rw f.0 refl ]

pub sum_same : (f g : ℕ → ℕ) (n : ℕ) → ((j : ℕ) → j < n → f j ≡ g j) → sum_below f n ≡ sum_below g n
sum_same f g zero h = refl
sum_same f g (suc n) h = let a = sum_same f g n (λ j lt. h j (omega arith)) in let b = h n (omega arith) in omega (arith, a, b)

-- the places of all users are the uses
pub all_places : (us : List (NodeId × ℕ)) (n : ℕ) → All (λ u. u.0.0 < n) us → sum_below (λ j. length (places_in j us)) n ≡ length us
all_places [] n h = sum_none _ n (λ j lt. refl)
all_places (u ∷ us) n h =
    sum_same _ (λ j. cond (nat_eq j u.0.0) 1 0 + length (places_in j us)) n (λ j lt. one j)
    ∙ sum_add (λ j. cond (nat_eq j u.0.0) 1 0) (λ j. length (places_in j us)) n
    ∙ both (sum_one u.0.0 1 n (All-head (λ u. u.0.0 < n) u us h)) (all_places us n (All-tail (λ u. u.0.0 < n) u us h))
  where
    one : (j : ℕ) → length (places_in j (u ∷ us)) ≡ cond (nat_eq j u.0.0) 1 0 + length (places_in j us)
    one j = elim (eqb_tells u.0.0 j) [
      | inl t ↦ elim (eqb_tells j u.0.0) [ inl s ↦ rw (t.0, s.0) (omega arith) | inr f ↦ absurd (f.1 (sym t.1)) ]
      | inr f ↦ elim (eqb_tells j u.0.0) [ inl s ↦ absurd (f.1 (sym s.1)) | inr d ↦ rw (f.0, d.0) (omega arith) ]
    ]

    both : {a b c : ℕ} → a ≡ 1 → b ≡ c → a + b ≡ suc c
    both e f = omega arith

-- ---- what a push adds to the cost
pub pushed_cost : (cs : List Change) (x : Option (List Change)) → cost (pushed cs (Some x)) ≤ cost (Some x) + length cs
pushed_cost [] x = omega arith
pushed_cost (c ∷ cs) None = let a = pushed_cost cs None in omega (arith, a)
pushed_cost (c ∷ cs) (Some ds) = let a = pushed_cost cs (Some (ds ++ c ∷ [])) in let b = length-append ds (c ∷ []) in omega (arith, a, b)

pub first_cost : (cs : List Change) → cost (pushed cs None) ≤ 4 + length cs
first_cost [] = omega arith
first_cost (c ∷ cs) = let a = pushed_cost cs (Some (c ∷ [])) in omega (arith, a)

-- ---- what is touched stays touched
or_le : (a b c d : Bool) → bit a ≤ bit c → bit b ≤ bit d → bit (a || b) ≤ bit (c || d)
or_le true b true d h k = omega arith
or_le true b false d h k = absurd (omega (arith, h))
or_le false b true d h k = most b
  where
    most : (b : Bool) → bit b ≤ 1
    most true = omega arith
    most false = omega arith
or_le false b false d h k = k

any_le : (d e : ℕ → Bool) (is : List ℕ) → ((i : ℕ) → bit (d i) ≤ bit (e i)) → bit (list_any d is) ≤ bit (list_any e is)
any_le d e [] h = omega arith
any_le d e (i ∷ is) h = or_le (d i) (list_any d is) (e i) (list_any e is) (h i) (any_le d e is h)

any_at : (e : ℕ → Bool) (id : ℕ) (is : List ℕ) → e id ≡ true → positions id is ≢ [] → list_any e is ≡ true
any_at e id [] t ne = absurd (ne refl)
any_at e id (i ∷ is) t ne =
    elim (eqb_tells i id) [
      | inl s ↦ rw (ap e s.1 ∙ t) refl
      | inr f ↦ rw (any_at e id is t (λ z. ne (rw f.0 (ap (map suc) z)))) (or_true (e i))
    ]
  where
    or_true : (b : Bool) → (b || true) ≡ true
    or_true true = refl
    or_true false = refl

most_one : (b : Bool) → b ≡ true → bit b ≡ 1
most_one b e = ap bit e

-- how j learned of it: by changes, one for each of its places, or that an input has no value
unfoldable pub Tells : List ℕ → Wait → Wait → Type 0
Tells ps w v = ((cs : List Change) × (v ≡ pushed cs w) × (length cs ≡ length ps)) ⊎ (v ≡ blocked ps w)

by_changes : (cs : List Change) (w : Wait) (ps : List ℕ) (t u : Bool) → length cs ≡ length ps → bit t ≤ bit u → (w ≡ None → ps ≢ [] → (t ≡ false) × (u ≡ true)) → cost (pushed cs w) + 4 * bit t ≤ cost w + 4 * bit u + length ps
by_changes cs (Some x) ps t u e m calm = let a = pushed_cost cs x in omega (arith, a, e, m)
by_changes [] None ps t u e m calm = omega (arith, m)
by_changes (c ∷ cs) None [] t u e m calm = absurd (omega (arith, e))
by_changes (c ∷ cs) None (p ∷ ps) t u e m calm =
    let a = first_cost (c ∷ cs) in
    let b = calm refl (λ z. absurd (cons z)) in
    let bt : bit t ≡ 0 = ap bit b.0 in
    let bu : bit u ≡ 1 = ap bit b.1 in
    omega (arith, a, e, bt, bu)
  where
    cons : {A : Type 0} {x : A} {xs : List A} → (x ∷ xs) ≡ [] → ⊥
    cons z = cc

by_block : (w : Wait) (ps : List ℕ) (t u : Bool) → bit t ≤ bit u → (w ≡ None → ps ≢ [] → (t ≡ false) × (u ≡ true)) → cost (blocked ps w) + 4 * bit t ≤ cost w + 4 * bit u + length ps
by_block w [] t u m calm = omega (arith, m)
by_block (Some None) (p ∷ ps) t u m calm = omega (arith, m)
by_block (Some (Some cs)) (p ∷ ps) t u m calm = omega (arith, m)
by_block None (p ∷ ps) t u m calm =
    let b = calm refl (λ z. absurd (cons z)) in
    let bt : bit t ≡ 0 = ap bit b.0 in
    let bu : bit u ≡ 1 = ap bit b.1 in
    omega (arith, bt, bu)
  where
    cons : {A : Type 0} {x : A} {xs : List A} → (x ∷ xs) ≡ [] → ⊥
    cons z = cc

module _ (n id : ℕ) (inputs : ℕ → List ℕ) (uses : ℕ → List (NodeId × ℕ)) (moved diff diff' : ℕ → Bool) (w v : ℕ → Wait)
    (lt : id < n) (users : All (λ u. u.0.0 < n) (uses id)) (places : (j : ℕ) → places_in j (uses id) ≡ positions id (inputs j))
    (was : diff id ≡ false) (others : (j : ℕ) → j ≢ id → diff' j ≡ diff j) (taken : v id ≡ None)
    (told : ((diff' id ≡ false) × ((j : ℕ) → j ≢ id → v j ≡ w j)) ⊎ ((diff' id ≡ true) × ((j : ℕ) → j ≢ id → Tells (positions id (inputs j)) (w j) (v j))))
    -- a later node that does not wait is not touched
    (calm : (j : ℕ) → j ≢ id → w j ≡ None → positions id (inputs j) ≢ [] → touched moved diff inputs j ≡ false) where
  more : (i : ℕ) → bit (diff i) ≤ bit (diff' i)
  more i = elim (eqb_tells i id) [ inl t ↦ let z : bit (diff i) ≡ 0 = ap bit (ap diff t.1 ∙ was) in omega (arith, z) | inr f ↦ let z : bit (diff' i) ≡ bit (diff i) = ap bit (others i f.1) in omega (arith, z) ]

  grown : (j : ℕ) → bit (touched moved diff inputs j) ≤ bit (touched moved diff' inputs j)
  grown j = or_le (moved j) (list_any diff (inputs j)) (moved j) (list_any diff' (inputs j)) (omega arith) (any_le diff diff' (inputs j) more)

  now_touched : diff' id ≡ true → (j : ℕ) → positions id (inputs j) ≢ [] → touched moved diff' inputs j ≡ true
  now_touched t j ne = rw (any_at diff' id (inputs j) t ne) (or_true (moved j))
    where
      or_true : (b : Bool) → (b || true) ≡ true
      or_true true = refl
      or_true false = refl

  share : ℕ → ℕ
  share j = cond (diff' id) (length (places_in j (uses id))) 0

  each : (j : ℕ) → j < n → cost (v j) + 4 * bit (touched moved diff inputs j) + cond (nat_eq j id) (cost (w id)) 0 ≤ cost (w j) + 4 * bit (touched moved diff' inputs j) + share j
  unfolding share Tells
  each j low =
      let m = grown j in
      elim (eqb_tells j id) [
        | inl t ↦ let a : cost (v j) ≡ 0 = ap cost (ap v t.1 ∙ taken) in let b : cost (w j) ≡ cost (w id) = ap (λ i. cost (w i)) t.1 in rw t.0 (omega (arith, a, b, m))
        | inr f ↦ rw f.0 (elim told [
          | inl q ↦ let a : cost (v j) ≡ cost (w j) = ap cost (q.1 j f.1) in omega (arith, a, m)
          | inr q ↦ rw (q.0, places j) (elim (q.1 j f.1) [
            | inl c ↦ let a = by_changes c.0 (w j) (positions id (inputs j)) _ _ c.2 m (λ e ne. (calm j f.1 e ne, now_touched q.0 j ne)) in let b : cost (v j) ≡ cost (pushed c.0 (w j)) = ap cost c.1 in omega (arith, a, b)
            | inr c ↦ let a = by_block (w j) (positions id (inputs j)) _ _ m (λ e ne. (calm j f.1 e ne, now_touched q.0 j ne)) in let b : cost (v j) ≡ cost (blocked (positions id (inputs j)) (w j)) = ap cost c in omega (arith, a, b)
          ])
        ])
      ]

  total : sum_below (λ j. cost (v j)) n + 4 * sum_below (λ j. bit (touched moved diff inputs j)) n + cost (w id)
      ≤ sum_below (λ j. cost (w j)) n + 4 * sum_below (λ j. bit (touched moved diff' inputs j)) n + cond (diff' id) (length (uses id)) 0
  unfolding share
  total =
      let a = sum_le (λ j. cost (v j) + 4 * bit (touched moved diff inputs j) + cond (nat_eq j id) (cost (w id)) 0) (λ j. cost (w j) + 4 * bit (touched moved diff' inputs j) + share j) n each in
      let b = sum_add (λ j. cost (v j) + 4 * bit (touched moved diff inputs j)) (λ j. cond (nat_eq j id) (cost (w id)) 0) n in
      let c = sum_add (λ j. cost (v j)) (λ j. 4 * bit (touched moved diff inputs j)) n in
      let d = sum_times 4 (λ j. bit (touched moved diff inputs j)) n in
      let e = sum_one id (cost (w id)) n lt in
      let f = sum_add (λ j. cost (w j) + 4 * bit (touched moved diff' inputs j)) share n in
      let h = sum_add (λ j. cost (w j)) (λ j. 4 * bit (touched moved diff' inputs j)) n in
      let i = sum_times 4 (λ j. bit (touched moved diff' inputs j)) n in
      let k = shares (diff' id) in
      omega (arith, a, b, c, d, e, f, h, i, k)
    where
      shares : (b : Bool) → sum_below (λ j. cond b (length (places_in j (uses id))) 0) n ≡ cond b (length (uses id)) 0
      shares true = all_places (uses id) n users
      shares false = sum_none _ n (λ j low. refl)

  more_edges : edges diff uses n + cond (diff' id) (length (uses id)) 0 ≤ edges diff' uses n
  more_edges =
      let a = sum_le (λ j. cond (diff j) (length (uses j)) 0 + cond (nat_eq j id) (cond (diff' id) (length (uses id)) 0) 0) (λ j. cond (diff' j) (length (uses j)) 0) n (λ j low. one j) in
      let b = sum_add (λ j. cond (diff j) (length (uses j)) 0) (λ j. cond (nat_eq j id) (cond (diff' id) (length (uses id)) 0) 0) n in
      let c = sum_one id (cond (diff' id) (length (uses id)) 0) n lt in
      omega (arith, a, b, c)
    where
      one : (j : ℕ) → cond (diff j) (length (uses j)) 0 + cond (nat_eq j id) (cond (diff' id) (length (uses id)) 0) 0 ≤ cond (diff' j) (length (uses j)) 0
      one j = elim (eqb_tells j id) [
        | inl t ↦ let a : cond (diff j) (length (uses j)) 0 ≡ 0 = ap (λ b. cond b (length (uses j)) 0) (ap diff t.1 ∙ was) in
            let b : cond (diff' j) (length (uses j)) 0 ≡ cond (diff' id) (length (uses id)) 0 = ap (λ i. cond (diff' i) (length (uses i)) 0) t.1 in
            rw t.0 (omega (arith, a, b))
        | inr f ↦ let a : cond (diff' j) (length (uses j)) 0 ≡ cond (diff j) (length (uses j)) 0 = ap (λ b. cond b (length (uses j)) 0) (others j f.1) in rw f.0 (omega (arith, a))
      ]

  -- a turn pays for itself
  pub paid_turn : (base steps steps' : ℕ) → steps + sum_below (λ j. cost (w j)) n ≤ base + 4 * touch moved diff inputs uses n
      → steps' ≤ steps + cost (w id) + 2 * cond (diff' id) (length (uses id)) 0
      → steps' + sum_below (λ j. cost (v j)) n ≤ base + 4 * touch moved diff' inputs uses n
  paid_turn base steps steps' before turn =
      let a = total in
      let b = more_edges in
      let c = sum_le (λ j. bit (touched moved diff inputs j)) (λ j. bit (touched moved diff' inputs j)) n (λ j low. grown j) in
      omega (arith, a, b, c, before, turn)

  -- who is later and still does not wait is still not touched
  pub calm_next : (j : ℕ) → j ≢ id → v j ≡ None → (w j ≡ None → touched moved diff inputs j ≡ false) → touched moved diff' inputs j ≡ false
  unfolding Tells
  calm_next j ne e h = elim told [
    | inl q ↦ sym (ap (λ b. moved j || b) (any_all (inputs j) (λ i. elim (eqb_tells i id) [ inl t ↦ ap diff t.1 ∙ was ∙ sym (ap diff' t.1 ∙ q.0) | inr f ↦ sym (others i f.1) ]))) ∙ h (sym (q.1 j ne) ∙ e)
    | inr q ↦ elim (q.1 j ne) [
      | inl c ↦ let z = none_quiet c.0 (w j) (sym c.1 ∙ e) in
          sym (ap (λ b. moved j || b) (any_off (inputs j) (no_places (positions id (inputs j)) c.0 c.2 z.1))) ∙ h z.0
      | inr c ↦ let z = none_blocked (positions id (inputs j)) (w j) (sym c ∙ e) in
          sym (ap (λ b. moved j || b) (any_off (inputs j) z.1)) ∙ h z.0
    ]
  ]
    where
      any_all : (is : List ℕ) → ((i : ℕ) → diff i ≡ diff' i) → list_any diff is ≡ list_any diff' is
      any_all [] h = refl
      any_all (i ∷ is) h = ap (λ b. b || list_any diff is) (h i) ∙ ap (λ b. diff' i || b) (any_all is h)

      map_none : (ps : List ℕ) → map suc ps ≡ [] → ps ≡ []
      map_none [] e = refl
      map_none (p ∷ ps) e = absurd (cc)

      cons_none : {A : Type 0} {x : A} {xs : List A} → (x ∷ xs) ≡ [] → ⊥
      cons_none z = cc

      any_off : (is : List ℕ) → positions id is ≡ [] → list_any diff is ≡ list_any diff' is
      any_off [] e = refl
      any_off (i ∷ is) e =
          elim (eqb_tells i id) [
            | inl t ↦ absurd (cons_none (subst (λ b. cond b (0 ∷ map suc (positions id is)) (map suc (positions id is)) ≡ []) t.0 e))
            | inr f ↦ ap (λ b. b || list_any diff is) (sym (others i f.1)) ∙ ap (λ b. diff' i || b) (any_off is (map_none _ (subst (λ b. cond b (0 ∷ map suc (positions id is)) (map suc (positions id is)) ≡ []) f.0 e)))
          ]

      no_places : (ps : List ℕ) (cs : List Change) → length cs ≡ length ps → cs ≡ [] → ps ≡ []
      no_places [] cs l e = refl
      no_places (p ∷ ps) cs l e = absurd (let z : length cs ≡ 0 = ap length e in omega (arith, l, z))

      none_blocked : (ps : List ℕ) (x : Wait) → blocked ps x ≡ None → (x ≡ None) × (ps ≡ [])
      none_blocked [] x e = (e, refl)
      none_blocked (p ∷ ps) x e = absurd (cc)
