-- The uses of ids, as they are gathered.
use Rattle.std.proofs.Common.{◌≡◌, ◌≢◌, ℕ, zero, suc, ◌+◌, ◌<◌, ◌≤◌, Bool, true, false, cond, nat_eq, List, [], ◌∷◌, ◌++◌, length, map, take, get_or, refl, sym, ap, ◌∙◌, subst, inl, inr, arith, Vec, All}
use Rattle.std.specs.declared.alloc.Global.{Global}
use Rattle.std.proofs.lemmas.Bool.Decides.{eqb_tells}
use Rattle.std.proofs.Math.Seq.{take-length}
use Rattle.std.proofs.lemmas.List.{append-nil, append_assoc, take_more, map-append, length-map}
use Rattle.std.proofs.lemmas.List.Elements.{All-append, All-map}
use Rattle.cbl_base.specs.declared.ids.NodeId.{NodeId}
use Rattle.store_turns.specs.Meaning.{ids_of}
use Rattle.store_turns.specs.Telling.{positions, places_in}
use Rattle.store_build.specs.Lists.{list_in}
use Rattle.store_build.specs.Uses.{uses_by}

length_of_take : {A : Type 0} (n : ℕ) (xs : List A) → n ≤ length xs → length (take n xs) ≡ n
length_of_take zero xs le = refl
length_of_take (suc n) [] le = absurd (omega arith)
length_of_take (suc n) (x ∷ xs) le = ap suc (length_of_take n xs (omega arith))

-- the positions in a list with one id more
in_front : (b c : Bool) (ps qs : List ℕ) (n : ℕ) → qs ≡ ps ++ cond c (n ∷ []) [] → cond b (0 ∷ map suc qs) (map suc qs) ≡ cond b (0 ∷ map suc ps) (map suc ps) ++ cond c (suc n ∷ []) []
in_front true true ps qs n e = ap (λ (l : List ℕ). 0 ∷ l) (ap (map suc) e ∙ map-append suc ps (n ∷ []))
in_front true false ps qs n e = ap (λ (l : List ℕ). 0 ∷ l) (ap (map suc) e ∙ map-append suc ps [])
in_front false true ps qs n e = ap (map suc) e ∙ map-append suc ps (n ∷ [])
in_front false false ps qs n e = ap (map suc) e ∙ map-append suc ps []

pub positions-push : (i : ℕ) (xs : List ℕ) (x : ℕ) → positions i (xs ++ x ∷ []) ≡ positions i xs ++ cond (nat_eq x i) (length xs ∷ []) []
positions-push i [] x = refl
positions-push i (y ∷ ys) x = in_front (nat_eq y i) (nat_eq x i) (positions i ys) (positions i (ys ++ x ∷ [])) (length ys) (positions-push i ys x)

-- a list of ids without this one
pub positions_none : (i n : ℕ) (xs : List NodeId) → n ≤ i → All (λ x. x.0 < n) xs → positions i (ids_of xs) ≡ []
positions_none i n [] le all = refl
positions_none i n (x ∷ xs) le all =
    let lt : x.0 < n = all 0 x (omega arith) in
    elim (eqb_tells x.0 i) [
      | inl t ↦ (let e = t.1 in absurd (omega (arith, e)))
      | inr f ↦ rw f.0 (ap (map suc) (positions_none i n xs le (λ k d h. all (suc k) d (omega arith))))
    ]

-- ---- the uses by one id
module _ (old now new : List (Vec (NodeId × ℕ) Global)) (user : NodeId) (inputs : List NodeId) (n : ℕ) (d : NodeId) where
  pub use_more : n < length inputs → list_in new (get_or inputs n d).0 ≡ list_in now (get_or inputs n d).0 ++ (user, n) ∷ [] → ((i : ℕ) → i ≢ (get_or inputs n d).0 → list_in new i ≡ list_in now i)
      → ((i : ℕ) → list_in now i ≡ list_in old i ++ uses_by user (positions i (ids_of (take n inputs))))
      → (i : ℕ) → list_in new i ≡ list_in old i ++ uses_by user (positions i (ids_of (take (n + 1) inputs)))
  use_more lt here elsewhere h i = elim (eqb_tells (get_or inputs n d).0 i) [
    | inl t ↦ subst (λ (k : ℕ). list_in new k ≡ list_in now k ++ (user, n) ∷ []) t.1 here ∙ ap (λ (l : List (NodeId × ℕ)). l ++ (user, n) ∷ []) (h i) ∙ append_assoc (list_in old i) (uses_by user (positions i (ids_of (take n inputs)))) ((user, n) ∷ [])
        ∙ sym (ap (λ (l : List (NodeId × ℕ)). list_in old i ++ l) (map-append (λ (p : ℕ). (user, p)) (positions i (ids_of (take n inputs))) (n ∷ []))) ∙ sym (ap (λ (l : List ℕ). list_in old i ++ uses_by user l) (parts ∙ ap (λ b. positions i (ids_of (take n inputs)) ++ cond b (n ∷ []) []) t.0))
    | inr f ↦ elsewhere i (λ e. f.1 (sym e)) ∙ h i ∙ sym (ap (λ (l : List ℕ). list_in old i ++ uses_by user l) (parts ∙ ap (λ b. positions i (ids_of (take n inputs)) ++ cond b (n ∷ []) []) f.0 ∙ append-nil (positions i (ids_of (take n inputs)))))
  ]
    where
      count : length (ids_of (take n inputs)) ≡ n
      count = length-map (take n inputs) (λ (y : NodeId). y.0) ∙ length_of_take n inputs (omega (arith, lt))

      ids : ids_of (take (n + 1) inputs) ≡ ids_of (take n inputs) ++ (get_or inputs n d).0 ∷ []
      ids = ap ids_of (take_more inputs n d lt) ∙ map-append (λ (y : NodeId). y.0) (take n inputs) (get_or inputs n d ∷ [])

      parts : positions i (ids_of (take (n + 1) inputs)) ≡ positions i (ids_of (take n inputs)) ++ cond (nat_eq (get_or inputs n d).0 i) (n ∷ []) []
      parts = ap (positions i) ids ∙ positions-push i (ids_of (take n inputs)) (get_or inputs n d).0 ∙ ap (λ (k : ℕ). positions i (ids_of (take n inputs)) ++ cond (nat_eq (get_or inputs n d).0 i) (k ∷ []) []) count

pub uses_whole : (old new : List (Vec (NodeId × ℕ) Global)) (user : NodeId) (inputs : List NodeId) (n : ℕ) → n ≡ length inputs → ((i : ℕ) → list_in new i ≡ list_in old i ++ uses_by user (positions i (ids_of (take n inputs))))
    → (i : ℕ) → list_in new i ≡ list_in old i ++ uses_by user (positions i (ids_of inputs))
uses_whole old new user inputs n e h i = h i ∙ ap (λ (l : List NodeId). list_in old i ++ uses_by user (positions i (ids_of l))) (ap (λ (k : ℕ). take k inputs) e ∙ take-length inputs)

-- ---- the places of a user
places-append : (j : ℕ) (us vs : List (NodeId × ℕ)) → places_in j (us ++ vs) ≡ places_in j us ++ places_in j vs
places-append j [] vs = refl
places-append j (u ∷ us) vs =
    elim (eqb_tells u.0.0 j) [
      | inl t ↦ rw t.0 (ap (λ (l : List ℕ). u.1 ∷ l) (places-append j us vs))
      | inr f ↦ rw f.0 (places-append j us vs)
    ]

places_own : (j : ℕ) (user : NodeId) (ps : List ℕ) → nat_eq user.0 j ≡ true → places_in j (uses_by user ps) ≡ ps
places_own j user [] e = refl
places_own j user (p ∷ ps) e = rw e (ap (λ (l : List ℕ). p ∷ l) (places_own j user ps e))

places_other : (j : ℕ) (user : NodeId) (ps : List ℕ) → nat_eq user.0 j ≡ false → places_in j (uses_by user ps) ≡ []
places_other j user [] e = refl
places_other j user (p ∷ ps) e = rw e (places_other j user ps e)

-- one user more
module _ (now new : List (Vec (NodeId × ℕ) Global)) (size n : ℕ) (user : NodeId) (each : ℕ → List ℕ) (is : user.0 ≡ n) (more : (i : ℕ) → list_in new i ≡ list_in now i ++ uses_by user (positions i (each n))) where
  split : (i j : ℕ) → places_in j (list_in new i) ≡ places_in j (list_in now i) ++ places_in j (uses_by user (positions i (each n)))
  split i j = ap (places_in j) (more i) ∙ places-append j (list_in now i) (uses_by user (positions i (each n)))

  pub user_before : ((i j : ℕ) → j < n → places_in j (list_in now i) ≡ positions i (each j)) → ((i j : ℕ) → n ≤ j → places_in j (list_in now i) ≡ []) → (i j : ℕ) → j < n + 1 → places_in j (list_in new i) ≡ positions i (each j)
  user_before before after i j lt = elim (eqb_tells user.0 j) [
    | inl t ↦ (let e : n ≡ j = sym is ∙ t.1 in split i j ∙ ap (λ (l : List ℕ). l ++ places_in j (uses_by user (positions i (each n)))) (after i j (omega (arith, e))) ∙ places_own j user (positions i (each n)) t.0 ∙ ap (λ (k : ℕ). positions i (each k)) e)
    | inr f ↦ (let ne : n ≢ j = λ e. f.1 (is ∙ e) in split i j ∙ ap (λ (l : List ℕ). places_in j (list_in now i) ++ l) (places_other j user (positions i (each n)) f.0) ∙ append-nil (places_in j (list_in now i)) ∙ before i j (omega (arith, lt, ne)))
  ]

  pub user_after : ((i j : ℕ) → n ≤ j → places_in j (list_in now i) ≡ []) → (i j : ℕ) → n + 1 ≤ j → places_in j (list_in new i) ≡ []
  user_after after i j le = elim (eqb_tells user.0 j) [
    | inl t ↦ (let e = t.1 in absurd (omega (arith, e, is, le)))
    | inr f ↦ split i j ∙ ap (λ (l : List ℕ). l ++ places_in j (uses_by user (positions i (each n)))) (after i j (omega (arith, le))) ∙ places_other j user (positions i (each n)) f.0
  ]

  pub user_within : n < size → ((i : ℕ) → All (λ u. u.0.0 < size) (list_in now i)) → (i : ℕ) → All (λ u. u.0.0 < size) (list_in new i)
  user_within lt h i = subst (λ (us : List (NodeId × ℕ)). All (λ u. u.0.0 < size) us) (sym (more i)) (All-append (λ (u : NodeId × ℕ). u.0.0 < size) (list_in now i) (uses_by user (positions i (each n))) (h i)
      (All-map (λ (u : NodeId × ℕ). u.0.0 < size) (λ (p : ℕ). (user, p)) (positions i (each n)) (λ k d _. omega (arith, lt, is))))
