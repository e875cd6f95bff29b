-- What is touched in a part is touched in the store, and among the ids that pass a weaker test.
use Rattle.std.proofs.Common.{◌≡◌, ℕ, ◌<◌, ◌≤◌, Bool, true, false, cond, ◌||◌, ◌&&◌, List, [], ◌∷◌, length, All, refl, sym, subst, arith}
use Rattle.std.specs.List.{list_any}
use Rattle.cbl_base.specs.declared.ids.NodeId.{NodeId}
use Rattle.store_turns.specs.Cones.{chosen}
use Rattle.store_turns.specs.Touch.{bit, touched, edges, touch}
use Rattle.store_turns.specs.Meaning.{Each}
use Rattle.store_turns.proofs.Unique.{each_from}
use Rattle.std.proofs.lemmas.List.Elements.{All-head, All-tail}
use Rattle.store_turns.proofs.Budget.{sum_le}
use Rattle.trial.specs.Parts.{touch_among}

bit_or : (a b c d : Bool) → bit a ≤ bit c → bit b ≤ bit d → bit (a || b) ≤ bit (c || d)
bit_or true b true d h k = omega arith
bit_or true b false d h k = absurd (omega (arith, h))
bit_or false b true d h k = most b
  where
    most : (b : Bool) → bit b ≤ 1
    most true = omega arith
    most false = omega arith
bit_or false b false d h k = k

pub any_each : (d e : ℕ → Bool) (is : List ℕ) → Each (λ i. bit (d i) ≤ bit (e i)) is → bit (list_any d is) ≤ bit (list_any e is)
any_each d e [] h = omega arith
any_each d e (i ∷ is) h = bit_or (d i) (list_any d is) (e i) (list_any e is) h.0 (any_each d e is h.1)

edge_le : (a b : Bool) (m n : ℕ) → bit a ≤ bit b → (a ≡ true → m ≤ n) → cond a m 0 ≤ cond b n 0
edge_le true true m n h le = le refl
edge_le true false m n h le = absurd (omega (arith, h))
edge_le false b m n h le = omega arith

-- no more is touched where less is moved, less differs, and there are fewer uses
pub touch_le : (moved moved' d d' : ℕ → Bool) (inputs inputs' : ℕ → List ℕ) (uses uses' : ℕ → List (NodeId × ℕ)) (n : ℕ)
    → ((j : ℕ) → j < n → bit (moved j) ≤ bit (moved' j)) → ((j : ℕ) → j < n → bit (d j) ≤ bit (d' j))
    → ((j : ℕ) → j < n → bit (list_any d (inputs j)) ≤ bit (list_any d' (inputs' j))) → ((j : ℕ) → j < n → d j ≡ true → length (uses j) ≤ length (uses' j))
    → touch moved d inputs uses n ≤ touch moved' d' inputs' uses' n
touch_le moved moved' d d' inputs inputs' uses uses' n hm hd hi hu =
    let a : edges d uses n ≤ edges d' uses' n = sum_le (λ id. cond (d id) (length (uses id)) 0) (λ id. cond (d' id) (length (uses' id)) 0) n (λ j lt. edge_le (d j) (d' j) (length (uses j)) (length (uses' j)) (hd j lt) (hu j lt)) in
    let b = sum_le (λ j. bit (touched moved d inputs j)) (λ j. bit (touched moved' d' inputs' j)) n (λ j lt. bit_or (moved j) (list_any d (inputs j)) (moved' j) (list_any d' (inputs' j)) (hm j lt) (hi j lt)) in
    omega (arith, a, b)

-- ---- tests, of which one is weaker
and_le : (a b c : Bool) → (b ≡ true → c ≡ true) → bit (a && b) ≤ bit (a && c)
and_le true true c h = subst (λ x. 1 ≤ bit x) (sym (h refl)) (omega arith)
and_le true false c h = omega arith
and_le false b c h = omega arith

pub and_less : (a b : Bool) → bit (a && b) ≤ bit a
and_less true true = omega arith
and_less true false = omega arith
and_less false b = omega arith

chosen_one : (a b : Bool) (u : NodeId × ℕ) (us vs : List (NodeId × ℕ)) → (a ≡ true → b ≡ true) → length us ≤ length vs → length (cond a (u ∷ us) us) ≤ length (cond b (u ∷ vs) vs)
chosen_one true true u us vs h le = omega (arith, le)
chosen_one true false u us vs h le = absurd (never (sym (h refl)))
  where
    never : true ≡ false → ⊥
    never e = cc
chosen_one false true u us vs h le = omega (arith, le)
chosen_one false false u us vs h le = le

chosen_le : (test weak : ℕ → Bool) (n : ℕ) (us : List (NodeId × ℕ)) → All (λ u. u.0.0 < n) us → ((j : ℕ) → j < n → test j ≡ true → weak j ≡ true) → length (chosen test us) ≤ length (chosen weak us)
chosen_le test weak n [] all h = omega arith
chosen_le test weak n (u ∷ us) all h =
    chosen_one (test u.0.0) (weak u.0.0) u (chosen test us) (chosen weak us) (h u.0.0 (All-head (λ v. v.0.0 < n) u us all)) (chosen_le test weak n us (All-tail (λ v. v.0.0 < n) u us all) h)

any_cond : (d e : ℕ → Bool) (a b : Bool) (is : List ℕ) → (a ≡ true → b ≡ true) → Each (λ i. bit (d i) ≤ bit (e i)) is → bit (list_any d (cond a is [])) ≤ bit (list_any e (cond b is []))
any_cond d e true true is h le = any_each d e is le
any_cond d e true false is h le = absurd (never (sym (h refl)))
  where
    never : true ≡ false → ⊥
    never e = cc
any_cond d e false b is h le = omega arith

pub weaker : (test weak moved d : ℕ → Bool) (inputs : ℕ → List ℕ) (uses : ℕ → List (NodeId × ℕ)) (n : ℕ) → ((j : ℕ) → j < n → test j ≡ true → weak j ≡ true)
    → ((j : ℕ) → j < n → Each (λ i. i < n) (inputs j)) → ((j : ℕ) → All (λ u. u.0.0 < n) (uses j))
    → touch_among test moved d inputs uses n ≤ touch_among weak moved d inputs uses n
weaker test weak moved d inputs uses n h within users =
    touch_le (λ j. moved j && test j) (λ j. moved j && weak j) (λ j. d j && test j) (λ j. d j && weak j) (λ j. cond (test j) (inputs j) []) (λ j. cond (weak j) (inputs j) []) (λ j. chosen test (uses j)) (λ j. chosen weak (uses j)) n
    (λ j lt. and_le (moved j) (test j) (weak j) (h j lt)) (λ j lt. and_le (d j) (test j) (weak j) (h j lt))
    (λ j lt. any_cond (λ i. d i && test i) (λ i. d i && weak i) (test j) (weak j) (inputs j) (h j lt)
    (each_from (λ i. i < n) (λ i. bit (d i && test i) ≤ bit (d i && weak i)) (inputs j) (λ i low. and_le (d i) (test i) (weak i) (h i low)) (within j lt)))
    (λ j lt _. chosen_le test weak n (uses j) (users j) h)

every_one : (P : ℕ → Type 0) (is : List ℕ) → ((i : ℕ) → P i) → Each P is
every_one P [] h = tt
every_one P (i ∷ is) h = (h i, every_one P is h)

cond_less : (d e : ℕ → Bool) (a : Bool) (is : List ℕ) → ((i : ℕ) → bit (d i) ≤ bit (e i)) → bit (list_any d (cond a is [])) ≤ bit (list_any e is)
cond_less d e true is le = any_each d e is (every_one (λ i. bit (d i) ≤ bit (e i)) is le)
cond_less d e false is le = omega arith

less_one : (b : Bool) (u : NodeId × ℕ) (us vs : List (NodeId × ℕ)) → length vs ≤ length us → length (cond b (u ∷ vs) vs) ≤ length (u ∷ us)
less_one true u us vs le = omega (arith, le)
less_one false u us vs le = omega (arith, le)

chosen_less : (test : ℕ → Bool) (us : List (NodeId × ℕ)) → length (chosen test us) ≤ length us
chosen_less test [] = omega arith
chosen_less test (u ∷ us) = less_one (test u.0.0) u us (chosen test us) (chosen_less test us)

pub among_less : (test moved d : ℕ → Bool) (inputs : ℕ → List ℕ) (uses : ℕ → List (NodeId × ℕ)) (n : ℕ) → touch_among test moved d inputs uses n ≤ touch moved d inputs uses n
among_less test moved d inputs uses n =
    touch_le (λ j. moved j && test j) moved (λ j. d j && test j) d (λ j. cond (test j) (inputs j) []) inputs (λ j. chosen test (uses j)) uses n
    (λ j lt. and_less (moved j) (test j)) (λ j lt. and_less (d j) (test j))
    (λ j lt. cond_less (λ i. d i && test i) d (test j) (inputs j) (λ i. and_less (d i) (test i)))
    (λ j lt _. chosen_less test (uses j))
