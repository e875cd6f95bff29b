-- The best key of two lists, and the keys that are not as good.
use Rattle.std.proofs.Common.{◌≡◌, ℤ, Bool, true, false, List, [], ◌∷◌, ◌++◌, Option, Some, None, refl, sym, ap, ◌∙◌, subst, arith, true≢false}
use Rattle.std.proofs.lemmas.Bool.Decides.{Decides-int_eq}
use Rattle.std.proofs.lemmas.Int.{clamps, ints}
use Rattle.std.proofs.lemmas.List.{append-nil}
use Rattle.std.specs.Int.{int_max, int_min}
use Rattle.std.specs.List.{fold, reduce}
use Rattle.std.specs.Option.{option_eq}
use Rattle.std.specs.Ordering.{int_eq}
use Rattle.ls_select.specs.Best.{best_of, better_of, is_best}
use Rattle.ls_select.specs.declared.want.Want.{Want}
use Rattle.ls_select.specs.declared.want.Want.TheVariants.{Any, Least, Greatest}

-- the better of two, of a function that chooses
abbrev pub either : (ℤ → ℤ → ℤ) → Option ℤ → Option ℤ → Option ℤ
either f None later = later
either f (Some a) None = Some a
either f (Some a) (Some b) = Some (f a b)

-- a choice of one of two, by an order
pub record Chooses (f : ℤ → ℤ → ℤ) : Type 0 where
  pub same : (a : ℤ) → f a a ≡ a
  pub swap : (a b : ℤ) → f a b ≡ f b a
  pub regroup : (a b c : ℤ) → f (f a b) c ≡ f a (f b c)

pub min_chooses : Chooses int_min
min_chooses = record {
  same = λ a. omega (arith, ints, clamps);
  swap = λ a b. omega (arith, ints, clamps);
  regroup = λ a b c. omega (arith, ints, clamps);
}

pub max_chooses : Chooses int_max
max_chooses = record {
  same = λ a. omega (arith, ints, clamps);
  swap = λ a b. omega (arith, ints, clamps);
  regroup = λ a b c. omega (arith, ints, clamps);
}

-- what is chosen is never given up for one of these keys
abbrev pub Outdoes : (ℤ → ℤ → ℤ) → ℤ → List ℤ → Type 0
Outdoes f b [] = Unit {0}
Outdoes f b (k ∷ ks) = (f b k ≡ b) × Outdoes f b ks

-- none of these passes the test
abbrev pub NonePass : (ℤ → Bool) → List ℤ → Type 0
NonePass p [] = Unit {0}
NonePass p (k ∷ ks) = (p k ≡ false) × NonePass p ks

false_unless : (r : Bool) → (r ≡ true → ⊥) → r ≡ false
false_unless true h = absurd (h refl)
false_unless false h = refl

same_is : (a : ℤ) → int_eq a a ≡ true
same_is a = (Decides-int_eq a a).1 refl

module _ (f : ℤ → ℤ → ℤ) (c : Chooses f) where
  -- the first may be chosen at the end
  fold_first : (a y : ℤ) (ys : List ℤ) → fold f (f a y) ys ≡ f a (fold f y ys)
  fold_first a y [] = refl
  fold_first a y (z ∷ zs) = ap (λ w. fold f w zs) (c.regroup a y z) ∙ fold_first a (f y z) zs

  fold_append : (a : ℤ) (xs ys : List ℤ) → fold f a (xs ++ ys) ≡ fold f (fold f a xs) ys
  fold_append a [] ys = refl
  fold_append a (x ∷ xs) ys = fold_append (f a x) xs ys

  pub reduce_append : (xs ys : List ℤ) → reduce f (xs ++ ys) ≡ either f (reduce f xs) (reduce f ys)
  reduce_append [] ys = refl
  reduce_append (x ∷ xs) [] = ap (reduce f) (append-nil (x ∷ xs))
  reduce_append (x ∷ xs) (y ∷ ys) = ap Some (fold_append x xs (y ∷ ys) ∙ fold_first (fold f x xs) y ys)

  -- the chosen of all, with the first again
  outdoes_first : (x : ℤ) (xs : List ℤ) → f (fold f x xs) x ≡ fold f x xs
  outdoes_first x [] = c.same x
  outdoes_first x (y ∷ ys) =
      let whole = fold_first x y ys in
      rw whole (c.swap (f x (fold f y ys)) x ∙ sym (c.regroup x x (fold f y ys)) ∙ ap (λ w. f w (fold f y ys)) (c.same x))

  outdoes_more : (a b : ℤ) (ks : List ℤ) → Outdoes f b ks → Outdoes f (f a b) ks
  outdoes_more a b [] h = tt
  outdoes_more a b (k ∷ ks) h = (c.regroup a b k ∙ ap (λ w. f a w) h.0, outdoes_more a b ks h.1)

  pub outdoes_all : (x : ℤ) (xs : List ℤ) → Outdoes f (fold f x xs) (x ∷ xs)
  outdoes_all x [] = (c.same x, tt)
  outdoes_all x (y ∷ ys) =
      (outdoes_first x (y ∷ ys), subst (λ b. Outdoes f b (y ∷ ys)) (sym (fold_first x y ys)) (outdoes_more x (fold f y ys) (y ∷ ys) (outdoes_all y ys)))

  -- a key that is given up for the chosen one isn't as good as one that is chosen before that
  given_up : (b k other : ℤ) → f b k ≡ b → k ≡ f b other → k ≡ b
  given_up b k other keeps is = is ∙ sym (ap (λ w. f w other) (c.same b)) ∙ c.regroup b b other ∙ ap (λ w. f b w) (sym is) ∙ keeps

  differs : (b k other : ℤ) → f b k ≡ b → int_eq b (f b other) ≡ false → int_eq k (f b other) ≡ false
  differs b k other keeps h =
      false_unless (int_eq k (f b other)) (λ t.
      let is = (Decides-int_eq k (f b other)).0 t in
      let first = sym (given_up b k other keeps is) ∙ is in
      true≢false (sym ((Decides-int_eq b (f b other)).1 first) ∙ h))

  none_is : (b other : ℤ) (ks : List ℤ) → Outdoes f b ks → int_eq b (f b other) ≡ false → NonePass (λ k. int_eq k (f b other)) ks
  none_is b other [] h e = tt
  none_is b other (k ∷ ks) h e = (differs b k other h.0 e, none_is b other ks h.1 e)

  pub front_none : (xs ys : List ℤ) → option_eq int_eq (reduce f xs) (either f (reduce f xs) (reduce f ys)) ≡ false →
      NonePass (λ k. option_eq int_eq (Some k) (either f (reduce f xs) (reduce f ys))) xs
  front_none [] ys e = tt
  front_none (x ∷ xs) [] e = absurd (true≢false (sym (same_is (fold f x xs)) ∙ e))
  front_none (x ∷ xs) (y ∷ ys) e = none_is (fold f x xs) (fold f y ys) (x ∷ xs) (outdoes_all x xs) e

  pub back_none : (xs ys : List ℤ) → option_eq int_eq (reduce f ys) (either f (reduce f xs) (reduce f ys)) ≡ false →
      NonePass (λ k. option_eq int_eq (Some k) (either f (reduce f xs) (reduce f ys))) ys
  back_none xs [] e = tt
  back_none [] (y ∷ ys) e = absurd (true≢false (sym (same_is (fold f y ys)) ∙ e))
  back_none (x ∷ xs) (y ∷ ys) e =
      let at = c.swap (fold f x xs) (fold f y ys) in
      subst (λ w. NonePass (λ k. int_eq k w) (y ∷ ys)) (sym at)
      (none_is (fold f y ys) (fold f x xs) (y ∷ ys) (outdoes_all y ys) (subst (λ w. int_eq (fold f y ys) w ≡ false) at e))

-- the better one, of each want
least_either : (a b : Option ℤ) → better_of Least a b ≡ either int_min a b
least_either None b = refl
least_either (Some a) None = refl
least_either (Some a) (Some b) = refl

greatest_either : (a b : Option ℤ) → better_of Greatest a b ≡ either int_max a b
greatest_either None b = refl
greatest_either (Some a) None = refl
greatest_either (Some a) (Some b) = refl

-- the best key of two lists is the better of the best of each
pub best_append : (want : Want) (xs ys : List ℤ) → best_of want (xs ++ ys) ≡ better_of want (best_of want xs) (best_of want ys)
best_append Any xs ys = refl
best_append Least xs ys = reduce_append int_min min_chooses xs ys ∙ sym (least_either (reduce int_min xs) (reduce int_min ys))
best_append Greatest xs ys = reduce_append int_max max_chooses xs ys ∙ sym (greatest_either (reduce int_max xs) (reduce int_max ys))

-- where the best of a list isn't the best of both, none of its keys is
pub weaker_front : (want : Want) (xs ys : List ℤ) → option_eq int_eq (best_of want xs) (best_of want (xs ++ ys)) ≡ false →
    NonePass (is_best want (best_of want (xs ++ ys))) xs
weaker_front Any xs ys e = absurd (true≢false e)
weaker_front Least xs ys e =
    let whole = reduce_append int_min min_chooses xs ys in
    subst (λ b. NonePass (λ k. option_eq int_eq (Some k) b) xs) (sym whole) (front_none int_min min_chooses xs ys (subst (λ b. option_eq int_eq (reduce int_min xs) b ≡ false) whole e))
weaker_front Greatest xs ys e =
    let whole = reduce_append int_max max_chooses xs ys in
    subst (λ b. NonePass (λ k. option_eq int_eq (Some k) b) xs) (sym whole) (front_none int_max max_chooses xs ys (subst (λ b. option_eq int_eq (reduce int_max xs) b ≡ false) whole e))

pub weaker_back : (want : Want) (xs ys : List ℤ) → option_eq int_eq (best_of want ys) (best_of want (xs ++ ys)) ≡ false →
    NonePass (is_best want (best_of want (xs ++ ys))) ys
weaker_back Any xs ys e = absurd (true≢false e)
weaker_back Least xs ys e =
    let whole = reduce_append int_min min_chooses xs ys in
    subst (λ b. NonePass (λ k. option_eq int_eq (Some k) b) ys) (sym whole) (back_none int_min min_chooses xs ys (subst (λ b. option_eq int_eq (reduce int_min ys) b ≡ false) whole e))
weaker_back Greatest xs ys e =
    let whole = reduce_append int_max max_chooses xs ys in
    subst (λ b. NonePass (λ k. option_eq int_eq (Some k) b) ys) (sym whole) (back_none int_max max_chooses xs ys (subst (λ b. option_eq int_eq (reduce int_max ys) b ≡ false) whole e))
