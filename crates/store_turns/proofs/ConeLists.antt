-- The uses by members, one after the other.
use Rattle.std.proofs.Common.{◌≡◌, ℕ, zero, suc, ◌+◌, ◌*◌, ◌<◌, ◌≤◌, Bool, true, false, cond, List, [], ◌∷◌, ◌++◌, length, take, get_or, refl, ap, ◌∙◌, arith}
use Rattle.std.proofs.lemmas.List.{take_more}
use Rattle.cbl_base.specs.declared.ids.NodeId.{NodeId}
use Rattle.store_turns.specs.Cones.{has, chosen}

choose : (b : Bool) (u : NodeId × ℕ) (us vs ws : List (NodeId × ℕ)) → us ≡ vs ++ ws → cond b (u ∷ us) us ≡ cond b (u ∷ vs) vs ++ ws
choose true u us vs ws e = ap (λ l. u ∷ l) e
choose false u us vs ws e = e

chosen-append : (test : ℕ → Bool) (us vs : List (NodeId × ℕ)) → chosen test (us ++ vs) ≡ chosen test us ++ chosen test vs
chosen-append test [] vs = refl
chosen-append test (u ∷ us) vs = choose (test u.0.0) u (chosen test (us ++ vs)) (chosen test us) (chosen test vs) (chosen-append test us vs)

nothing_more : (us : List (NodeId × ℕ)) → us ++ [] ≡ us
nothing_more [] = refl
nothing_more (u ∷ us) = ap (λ l. u ∷ l) (nothing_more us)

one_longer : (us : List (NodeId × ℕ)) (u : NodeId × ℕ) → length (us ++ u ∷ []) ≡ length us + 1
one_longer [] u = refl
one_longer (v ∷ us) u = let h = one_longer us u in omega (arith, h)

times_more : (each n : ℕ) → each * (n + 1) ≡ each * n + each
times_more each n = grind arith

times_at_most : (each m n : ℕ) → m ≤ n → each * m ≤ each * n
times_at_most each m n le = grind (arith, le)

module _ (test : ℕ → Bool) (uses : List (NodeId × ℕ)) (i : ℕ) (d : NodeId × ℕ) (lt : i < length uses) where
  more : (b : Bool) → test (get_or uses i d).0.0 ≡ b → chosen test (take (i + 1) uses) ≡ chosen test (take i uses) ++ cond b (get_or uses i d ∷ []) []
  more b e = ap (chosen test) (take_more uses i d lt) ∙ chosen-append test (take i uses) (get_or uses i d ∷ []) ∙ ap (λ c. chosen test (take i uses) ++ cond c (get_or uses i d ∷ []) []) e

  -- one more that passes, and one more that doesn't
  pub with_one : test (get_or uses i d).0.0 ≡ true → chosen test (take (i + 1) uses) ≡ chosen test (take i uses) ++ get_or uses i d ∷ []
  with_one e = more true e

  pub without_one : test (get_or uses i d).0.0 ≡ false → chosen test (take (i + 1) uses) ≡ chosen test (take i uses)
  without_one e = more false e ∙ nothing_more (chosen test (take i uses))

  pub one_more : test (get_or uses i d).0.0 ≡ true → length (chosen test (take (i + 1) uses)) ≡ length (chosen test (take i uses)) + 1
  one_more e = ap length (with_one e) ∙ one_longer (chosen test (take i uses)) (get_or uses i d)

no_more : (b : Bool) (u : NodeId × ℕ) (us vs : List (NodeId × ℕ)) → length us ≤ length vs → length (cond b (u ∷ us) us) ≤ length (cond b (u ∷ vs) vs)
no_more true u us vs le = omega (arith, le)
no_more false u us vs le = le

-- no more of the first few than of all
fewer : (test : ℕ → Bool) (uses : List (NodeId × ℕ)) (i : ℕ) → length (chosen test (take i uses)) ≤ length (chosen test uses)
fewer test uses zero = omega arith
fewer test [] (suc i) = omega arith
fewer test (u ∷ us) (suc i) = no_more (test u.0.0) u (chosen test (take i us)) (chosen test us) (fewer test us i)

module _ (test : ℕ → Bool) (uses : List (NodeId × ℕ)) (i : ℕ) (d : NodeId × ℕ) (lt : i < length uses) (is : test (get_or uses i d).0.0 ≡ true) where
  -- the steps of one more that passes are among those of all
  pub paid : (each base now new : ℕ) → now ≤ base + each * length (chosen test (take i uses)) → new ≤ now + each → new ≤ base + each * length (chosen test (take (i + 1) uses))
  paid each base now new h step =
      let one : each * length (chosen test (take (i + 1) uses)) ≡ each * length (chosen test (take i uses)) + each = ap (λ n. each * n) (one_more test uses i d lt is) ∙ times_more each (length (chosen test (take i uses))) in
      omega (arith, one, h, step)

  pub paid_all : (each base now new : ℕ) → now ≤ base + each * length (chosen test (take i uses)) → new ≤ now + each → new ≤ base + each * length (chosen test uses)
  paid_all each base now new h step =
      let here = paid each base now new h step in
      let all = times_at_most each (length (chosen test (take (i + 1) uses))) (length (chosen test uses)) (fewer test uses (i + 1)) in
      omega (arith, here, all)

-- where no list is kept, each passes
pub all_chosen : (uses : List (NodeId × ℕ)) → chosen (has []) uses ≡ uses
all_chosen [] = refl
all_chosen (u ∷ us) = ap (λ l. u ∷ l) (all_chosen us)
