-- The ids that nothing uses, one after the other.
use Rattle.std.proofs.Common.{◌≡◌, ℕ, suc, ◌+◌, ◌≤◌, Bool, true, false, cond, nat_eq, List, [], ◌∷◌, ◌++◌, length, map, take, refl, sym, ap, ◌∙◌, subst, inl, inr, arith}
use Rattle.std.proofs.lemmas.Bool.Decides.{eqb_tells}
use Rattle.std.proofs.lemmas.List.{append-nil, append_assoc, take_all, take_at, map-append, length-map, length-append}
use Rattle.cbl_base.specs.declared.ids.NodeId.{NodeId}
use Rattle.store_turns.specs.declared.frame.Cone.{Cone}
use Rattle.store_turns.specs.Meaning.{is_empty}
use Rattle.store_build.specs.Unused.{unused_below}

pub empty_is : {A : Type 0} (xs : List A) → nat_eq (length xs) 0 ≡ is_empty xs
empty_is [] = refl
empty_is (x ∷ xs) = elim (eqb_tells (length (x ∷ xs)) 0) [ inl t ↦ (let e = t.1 in absurd (omega (arith, e))) | inr f ↦ f.0 ]

-- one cone more, or none
pub cone_more : (b : Bool) (olds news : List Cone) (cone : Cone) (id : ℕ) → b ≡ true → news ≡ olds ++ cone ∷ [] → cone.target ≡ id
    → map (λ (c : Cone). c.target) news ≡ map (λ (c : Cone). c.target) olds ++ cond b (id ∷ []) []
cone_more b olds news cone id yes' items is =
    ap (map (λ (c : Cone). c.target)) items ∙ map-append (λ (c : Cone). c.target) olds (cone ∷ []) ∙ ap (λ (t : ℕ). map (λ (c : Cone). c.target) olds ++ t ∷ []) is
    ∙ sym (ap (λ (a : Bool). map (λ (c : Cone). c.target) olds ++ cond a (id ∷ []) []) yes')

pub no_cone_more : (b : Bool) (olds : List Cone) (id : ℕ) → b ≡ false → map (λ (c : Cone). c.target) olds ≡ map (λ (c : Cone). c.target) olds ++ cond b (id ∷ []) []
no_cone_more b olds id no' = sym (append-nil (map (λ (c : Cone). c.target) olds)) ∙ sym (ap (λ (a : Bool). map (λ (c : Cone). c.target) olds ++ cond a (id ∷ []) []) no')

one_at_most : (b : Bool) (id : ℕ) → length (cond b (id ∷ []) []) ≤ 1
one_at_most true id = omega arith
one_at_most false id = omega arith

pub count_more : (b : Bool) (olds news : List Cone) (id : ℕ) → map (λ (c : Cone). c.target) news ≡ map (λ (c : Cone). c.target) olds ++ cond b (id ∷ []) [] → length news ≤ length olds + 1
count_more b olds news id e =
    let sizes = ap length e in
    omega (arith, sizes, length-append (map (λ (c : Cone). c.target) olds) (cond b (id ∷ []) []), length-map news (λ (c : Cone). c.target), length-map olds (λ (c : Cone). c.target), one_at_most b id)

split : (b : Bool) (m : ℕ) (xs : List ℕ) → cond b (m ∷ xs) xs ≡ cond b (m ∷ []) [] ++ xs
split true m xs = refl
split false m xs = refl

module _ (uses : ℕ → List (NodeId × ℕ)) (all : List ℕ) where
  one_below : (m n : ℕ) → n ≡ suc m → unused_below uses n ≡ cond (is_empty (uses m)) (m ∷ []) [] ++ unused_below uses m
  one_below m n e = subst (λ (k : ℕ). unused_below uses k ≡ cond (is_empty (uses m)) (m ∷ []) [] ++ unused_below uses m) (sym e) (split (is_empty (uses m)) m (unused_below uses m))

  -- what is done and what is left are all, after one more
  pub targets_more : (m n : ℕ) (done more : List ℕ) → n ≡ suc m → more ≡ done ++ cond (is_empty (uses m)) (m ∷ []) [] → done ++ unused_below uses n ≡ all → more ++ unused_below uses m ≡ all
  targets_more m n done more e is h =
      ap (λ (l : List ℕ). l ++ unused_below uses m) is ∙ append_assoc done (cond (is_empty (uses m)) (m ∷ []) []) (unused_below uses m) ∙ ap (λ (l : List ℕ). done ++ l) (sym (one_below m n e)) ∙ h

  -- there are as many as there may be, or all
  pub targets_full : (n most : ℕ) (done : List ℕ) → length done ≡ most → done ++ unused_below uses n ≡ all → done ≡ take most all
  targets_full n most done e h = sym (take_at done (unused_below uses n) most e) ∙ ap (take most) h

  pub targets_end : (n most : ℕ) (done : List ℕ) → n ≡ 0 → length done ≤ most → done ++ unused_below uses n ≡ all → done ≡ take most all
  targets_end n most done e le h =
      let none : done ≡ all = sym (append-nil done) ∙ ap (λ (k : ℕ). done ++ unused_below uses k) (sym e) ∙ h in
      sym (take_all most done le) ∙ ap (take most) none
