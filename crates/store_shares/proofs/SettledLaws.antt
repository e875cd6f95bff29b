-- The sets of the variables that are found so far, with one more, and when all are found.
use Rattle.std.proofs.Common.{◌≡◌, ◌⊎◌, inl, inr, ℕ, zero, suc, ◌+◌, ◌<◌, Bool, true, false, ◌||◌, ◌&&◌, List, [], ◌∷◌, ◌++◌, Option, Some, None, Vec, length, get_or, set, take, drop, refl, sym, ap, ◌∙◌, subst, arith, true≢false, Contains, slice_get}
use Rattle.std.specs.List.{list_all, list_any}
use Rattle.std.specs.declared.alloc.Global.{Global}
use Rattle.std.proofs.lemmas.Bool.{cases_eq}
use Rattle.std.proofs.lemmas.List.{take-append-drop}
use Rattle.std.proofs.lemmas.List.Sums.{AllPass-from_list_all}
use Rattle.std.proofs.lemmas.List.Elements.{All-contains, Contains-append_left, Contains-append_right, Contains-push}
use Rattle.std.proofs.lemmas.List.Folds.{list_any-append}
use Rattle.cbl_base.proofs.PlaceLemmas.{others_stay}
use Rattle.term_model.proofs.VarLaws.{set_same}
use Rattle.store_shares.specs.Closing.{Closes}
use Rattle.store_shares.specs.Settled.{AreRanked, AreRight, AreRising, AreSets, IsKnownBelow, KeepsKnown, is_known, is_there, known_words, words_there}
use Rattle.store_shares.specs.Words.{has, IsRising}
use Rattle.store_shares.specs.declared.words.Word.{Word}

-- ---- tests of lists
pub any_agree : (f g : ℕ → Bool) (xs : List ℕ) → ((x : ℕ) → Contains xs x → f x ≡ g x) → list_any f xs ≡ list_any g xs
any_agree f g [] same = refl
any_agree f g (x ∷ xs) same =
    ap (λ b. b || list_any f xs) (same x (Contains-append_left (x ∷ []) xs x (Contains-push [] x)))
    ∙ ap (λ b. g x || b) (any_agree f g xs (λ y in'. same y (Contains-append_right (x ∷ []) xs y in')))

pub all_of_each : (f : ℕ → Bool) (xs : List ℕ) → ((x : ℕ) → Contains xs x → f x ≡ true) → list_all f xs ≡ true
all_of_each f [] h = refl
all_of_each f (x ∷ xs) h =
    ap (λ b. b && list_all f xs) (h x (Contains-append_left (x ∷ []) xs x (Contains-push [] x)))
    ∙ all_of_each f xs (λ y in'. h y (Contains-append_right (x ∷ []) xs y in'))

-- ---- one set more
module _ (old : List (Option (Vec Word Global))) (v : ℕ) (words : Vec Word Global) (lt : v < length old) where
  pub known_here : is_known (set old v (Some words)) v ≡ true
  known_here = ap is_there (set_same old v (Some words) lt)

  words_here : known_words (set old v (Some words)) v ≡ words.items
  words_here = ap words_there (set_same old v (Some words) lt)

  known_other : (x : ℕ) → (x ≡ v → ⊥) → is_known (set old v (Some words)) x ≡ is_known old x
  known_other x ne = ap is_there (others_stay old v x (Some words) ne)

  words_other : (x : ℕ) → (x ≡ v → ⊥) → known_words (set old v (Some words)) x ≡ known_words old x
  words_other x ne = ap words_there (others_stay old v x (Some words) ne)

  pub kept_set : (new : List (Option (Vec Word Global))) → new ≡ set old v (Some words) → KeepsKnown old new
  kept_set new e x known = choose (cases_eq x v)
    where
      choose : (x ≡ v) ⊎ (x ≡ v → ⊥) → is_known new x ≡ true
      choose (inl is) = ap (λ ss. is_known ss x) e ∙ ap (is_known (set old v (Some words))) is ∙ known_here
      choose (inr ne) = ap (λ ss. is_known ss x) e ∙ known_other x ne ∙ known

  pub known_set : (new : List (Option (Vec Word Global))) → new ≡ set old v (Some words) → is_known new v ≡ true
  known_set new e = ap (λ ss. is_known ss v) e ∙ known_here

  pub rising_set : (new : List (Option (Vec Word Global))) → new ≡ set old v (Some words) → AreRising old → IsRising words.items → AreRising new
  rising_set new e rising rises x = subst (λ ss. IsRising (known_words ss x)) (sym e) (choose (cases_eq x v))
    where
      choose : (x ≡ v) ⊎ (x ≡ v → ⊥) → IsRising (known_words (set old v (Some words)) x)
      choose (inl is) = subst (λ y. IsRising (known_words (set old v (Some words)) y)) (sym is) (subst IsRising (sym words_here) rises)
      choose (inr ne) = subst IsRising (sym (words_other x ne)) (rising x)

  module _ (all own : ℕ → ℕ → Bool) (users : ℕ → List ℕ) (count : ℕ) (closes : Closes all own users count) (right : AreRight all old) (is_var : v < count)
      (ready : (u : ℕ) → Contains (users v) u → is_known old u ≡ true)
      (both : (k : ℕ) → has words.items k ≡ (own v k || list_any (λ u. has (known_words old u) k) (users v))) where
    right_here : (k : ℕ) → has words.items k ≡ all v k
    right_here k =
        both k ∙ ap (λ b. own v k || b) (any_agree (λ u. has (known_words old u) k) (λ u. all u k) (users v) (λ u in'. right.right u k (ready u in')))
        ∙ sym (closes v k is_var)

    right_at : (x k : ℕ) → (x ≡ v) ⊎ (x ≡ v → ⊥) → is_known (set old v (Some words)) x ≡ true → has (known_words (set old v (Some words)) x) k ≡ all x k
    right_at x k (inl is) known = ap (λ y. has (known_words (set old v (Some words)) y) k) is ∙ ap (λ ws. has ws k) words_here ∙ right_here k ∙ ap (λ y. all y k) (sym is)
    right_at x k (inr ne) known = ap (λ ws. has ws k) (words_other x ne) ∙ right.right x k (sym (known_other x ne) ∙ known)

    pub right_set : (new : List (Option (Vec Word Global))) → new ≡ set old v (Some words) → AreRight all new
    right_set new e = subst (AreRight all) (sym e) (record {
      right = λ x k. right_at x k (cases_eq x v);
    })

-- ---- one variable after another
pub kept_both : (old mid new : List (Option (Vec Word Global))) → KeepsKnown old mid → KeepsKnown mid new → KeepsKnown old new
kept_both old mid new first second x known = second x (first x known)

pub settled_more : (users : ℕ → List ℕ) (old mid new : List (Option (Vec Word Global))) (k : ℕ) → KeepsKnown old mid → ((x : ℕ) → x < k → ((u : ℕ) → Contains (users x) u → is_known old u ≡ true) → is_known mid x ≡ true) →
    KeepsKnown mid new → (((u : ℕ) → Contains (users k) u → is_known mid u ≡ true) → is_known new k ≡ true) →
    (x : ℕ) → x < k + 1 → ((u : ℕ) → Contains (users x) u → is_known old u ≡ true) → is_known new x ≡ true
settled_more users old mid new k kept settled keeps last x lt ready = choose (cases_eq x k)
  where
    choose : (x ≡ k) ⊎ (x ≡ k → ⊥) → is_known new x ≡ true
    choose (inl is) = subst (λ y. is_known new y ≡ true) (sym is) (last (λ u in'. kept u (ready u (subst (λ y. Contains (users y) u) (sym is) in'))))
    choose (inr ne) = keeps x (settled x (omega (arith, ne, lt)) ready)

-- ---- rounds
pub round_more : (users : ℕ → List ℕ) (count : ℕ) (ranked : AreRanked users count) (k : ℕ) (old new : List (Option (Vec Word Global))) → IsKnownBelow ranked.rank count k old →
    ((x : ℕ) → x < count → ((u : ℕ) → Contains (users x) u → is_known old u ≡ true) → is_known new x ≡ true) → IsKnownBelow ranked.rank count (k + 1) new
round_more users count ranked k old new below settled x lt ranks =
    settled x lt (λ u in'. let falls = ranked.falls x u in' in below u (ranked.low x u in') (omega (arith, falls, ranks)))

pub sets_of_right : (all : ℕ → ℕ → Bool) (count : ℕ) (sets : List (Option (Vec Word Global))) → AreRight all sets → AreRising sets → ((x : ℕ) → x < count → is_known sets x ≡ true) → AreSets all count sets
sets_of_right all count sets right rising known = record {
  each = λ x k lt. right.right x k (known x lt);
  rising = rising;
}

pub right_none : (all : ℕ → ℕ → Bool) (sets : List (Option (Vec Word Global))) → ((x : ℕ) → is_known sets x ≡ false) → AreRight all sets
right_none all sets none = record { right = λ x k known. absurd (true≢false (sym known ∙ none x)) }

pub rising_none : (sets : List (Option (Vec Word Global))) → ((x : ℕ) → is_known sets x ≡ false) → AreRising sets
rising_none sets none x = subst IsRising (sym (no_words (slice_get sets x) (none x))) (λ i j lt within. absurd (omega (arith, within)))
  where
    no_words : (o : Option (Option (Vec Word Global))) → is_there o ≡ false → words_there o ≡ []
    no_words (Some (Some words)) h = absurd (true≢false h)
    no_words (Some None) h = refl
    no_words None h = refl

abbrev pub AreUnknown : List (Option (Vec Word Global)) → Type 0
AreUnknown sets = (x : ℕ) → is_known sets x ≡ false

pub none_more : (sets : List (Option (Vec Word Global))) → AreUnknown sets → AreUnknown (sets ++ None ∷ [])
none_more [] none zero = refl
none_more [] none (suc x) = refl
none_more (s ∷ sets) none zero = none zero
none_more (s ∷ sets) none (suc x) = none_more sets (λ y. none (suc y)) x

-- ---- sets that are joined
pub any_halves : (f : ℕ → Bool) (xs : List ℕ) (half : ℕ) → (list_any f (take half xs) || list_any f (drop half xs)) ≡ list_any f xs
any_halves f xs half = sym (list_any-append f (take half xs) (drop half xs)) ∙ ap (list_any f) (take-append-drop half xs)

pub none_united : (ws : List Word) (f : ℕ → Bool) (xs : List ℕ) (k : ℕ) → ws ≡ [] → length xs ≡ 0 → has ws k ≡ list_any f xs
none_united ws f [] k e none = ap (λ w. has w k) e
none_united ws f (x ∷ xs) k e none = absurd (omega (arith, none))

pub one_united : (f : ℕ → Bool) (xs : List ℕ) (b : Bool) → length xs ≡ 1 → b ≡ (f (get_or xs 0 0) || false) → b ≡ list_any f xs
one_united f [] b one e = absurd (omega (arith, one))
one_united f (x ∷ []) b one e = e
one_united f (x ∷ y ∷ xs) b one e = absurd (omega (arith, one))

-- each of a list passes where all do
pub each_of_all : (f : ℕ → Bool) (xs : List ℕ) (x : ℕ) → list_all f xs ≡ true → Contains xs x → f x ≡ true
each_of_all f xs x h in' = All-contains (λ y. f y ≡ true) xs x (AllPass-from_list_all f xs h) in'
