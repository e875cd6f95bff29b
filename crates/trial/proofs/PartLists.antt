-- Lists of which what passes a test is kept.
use Rattle.std.proofs.Common.{◌≡◌, ℕ, zero, suc, ◌+◌, ◌<◌, ◌≤◌, Bool, true, false, cond, nat_eq, List, [], ◌∷◌, map, length, get_or, slice_get, Vec, Some, All, refl, ap, ◌∙◌, arith}
use Rattle.std.specs.declared.alloc.Global.{Global}
use Rattle.std.proofs.lemmas.Bool.Decides.{eqb_tells}
use Rattle.std.proofs.lemmas.List.Elements.{All-cons, All-head, All-tail}
use Rattle.cbl_base.specs.declared.ids.NodeId.{NodeId}
use Rattle.store_turns.specs.Cones.{chosen}
use Rattle.store_turns.specs.Meaning.{lists_of}
use Rattle.store_turns.specs.Telling.{places_in}
use denote.RawPtr.{null_ptr}
use Rattle.std.proofs.Common.{inl, inr}

-- a list that is no longer than that of a `Vec` is one of a `Vec`
abbrev pub shorter : {A B : Type 0} (v : Vec A Global) (ys : List B) → length ys ≤ length v.items → Vec B Global
shorter v ys le = record {
  ptr = null_ptr;
  len = length ys;
  cap = length ys;
  alloc = v.alloc;
  items = ys;
  ok = (refl, omega arith);
  small = let most = v.small in omega (arith, most, le);
}

-- from a number on what passes, and else another
abbrev pub keep_from : {A : Type 0} → (ℕ → Bool) → ℕ → A → List A → List A
keep_from test n other [] = []
keep_from test n other (x ∷ xs) = cond (test n) x other ∷ keep_from test (suc n) other xs

pub length_keep : {A : Type 0} (test : ℕ → Bool) (n : ℕ) (other : A) (xs : List A) → length (keep_from test n other xs) ≡ length xs
length_keep test n other [] = refl
length_keep test n other (x ∷ xs) = ap suc (length_keep test (suc n) other xs)

either_way : {A : Type 0} (b : Bool) (x : A) → x ≡ cond b x x
either_way true x = refl
either_way false x = refl

pub at_keep : {A : Type 0} (test : ℕ → Bool) (n : ℕ) (other : A) (xs : List A) (i k : ℕ) → n + i ≡ k → get_or (keep_from test n other xs) i other ≡ cond (test k) (get_or xs i other) other
at_keep test n other [] i k e = either_way (test k) other
at_keep test n other (x ∷ xs) zero k e = let same : n ≡ k = omega (arith, e) in ap (λ m. cond (test m) x other) same
at_keep test n other (x ∷ xs) (suc i) k e = at_keep test (suc n) other xs i k (omega (arith, e))

pub found_keep : {A : Type 0} (test : ℕ → Bool) (n : ℕ) (other : A) (xs : List A) (i k : ℕ) → n + i ≡ k → test k ≡ true → slice_get (keep_from test n other xs) i ≡ slice_get xs i
found_keep test n other [] i k e t = refl
found_keep test n other (x ∷ xs) zero k e t = let same : n ≡ k = omega (arith, e) in ap (λ y. Some y) (ap (λ m. cond (test m) x other) same ∙ ap (λ b. cond b x other) t)
found_keep test n other (x ∷ xs) (suc i) k e t = found_keep test (suc n) other xs i k (omega (arith, e)) t

pub other_keep : {A : Type 0} (test : ℕ → Bool) (n : ℕ) (other : A) (xs : List A) (i k : ℕ) → n + i ≡ k → i < length xs → test k ≡ false → slice_get (keep_from test n other xs) i ≡ Some other
other_keep test n other [] i k e lt t = absurd (omega (arith, lt))
other_keep test n other (x ∷ xs) zero k e lt t = let same : n ≡ k = omega (arith, e) in ap (λ y. Some y) (ap (λ m. cond (test m) x other) same ∙ ap (λ b. cond b x other) t)
other_keep test n other (x ∷ xs) (suc i) k e lt t = other_keep test (suc n) other xs i k (omega (arith, e)) (omega (arith, lt)) t

items_either : {A : Type 0} (b : Bool) (v w : Vec A Global) → (cond b v w).items ≡ cond b v.items w.items
items_either true v w = refl
items_either false v w = refl

pub lists_keep : {A : Type 0} (test : ℕ → Bool) (n : ℕ) (other : Vec A Global) (vs : List (Vec A Global)) → lists_of (keep_from test n other vs) ≡ keep_from test n other.items (lists_of vs)
lists_keep test n other [] = refl
lists_keep test n other (v ∷ vs) = ap (λ l. l ∷ lists_of (keep_from test (suc n) other vs)) (items_either (test n) v other) ∙ ap (λ l. cond (test n) v.items other.items ∷ l) (lists_keep test (suc n) other vs)

-- ---- uses by what passes
fewer_one : (b : Bool) (u : NodeId × ℕ) (us vs : List (NodeId × ℕ)) → length us ≤ length vs → length (cond b (u ∷ us) us) ≤ length (u ∷ vs)
fewer_one true u us vs le = omega (arith, le)
fewer_one false u us vs le = omega (arith, le)

pub no_more : (test : ℕ → Bool) (us : List (NodeId × ℕ)) → length (chosen test us) ≤ length us
no_more test [] = omega arith
no_more test (u ∷ us) = fewer_one (test u.0.0) u (chosen test us) us (no_more test us)

abbrev pub chosen_vec : (ℕ → Bool) → Vec (NodeId × ℕ) Global → Vec (NodeId × ℕ) Global
chosen_vec test v = shorter v (chosen test v.items) (no_more test v.items)

pub chosen_lists : (test : ℕ → Bool) (vs : List (Vec (NodeId × ℕ) Global)) (i : ℕ) → get_or (lists_of (map (chosen_vec test) vs)) i [] ≡ chosen test (get_or (lists_of vs) i [])
chosen_lists test [] i = refl
chosen_lists test (v ∷ vs) zero = refl
chosen_lists test (v ∷ vs) (suc i) = chosen_lists test vs i

pub length_map : {A B : Type 0} (f : A → B) (xs : List A) → length (map f xs) ≡ length xs
length_map f [] = refl
length_map f (x ∷ xs) = ap suc (length_map f xs)

all_one : (P : NodeId × ℕ → Type 0) (b : Bool) (u : NodeId × ℕ) (us : List (NodeId × ℕ)) → P u → All P us → All P (cond b (u ∷ us) us)
all_one P true u us p h = All-cons P u us p h
all_one P false u us p h = h

pub all_chosen : (P : NodeId × ℕ → Type 0) (test : ℕ → Bool) (us : List (NodeId × ℕ)) → All P us → All P (chosen test us)
all_chosen P test [] h = h
all_chosen P test (u ∷ us) h = all_one P (test u.0.0) u (chosen test us) (All-head P u us h) (all_chosen P test us (All-tail P u us h))

place_here : (a b : Bool) (j : ℕ) (u : NodeId × ℕ) (us cs : List (NodeId × ℕ)) → nat_eq u.0.0 j ≡ true → a ≡ b → places_in j cs ≡ cond b (places_in j us) [] → places_in j (cond a (u ∷ cs) cs) ≡ cond b (places_in j (u ∷ us)) []
place_here true true j u us cs t e rest = rw t (ap (λ l. u.1 ∷ l) rest)
place_here false false j u us cs t e rest = rest
place_here true false j u us cs t e rest = absurd (cc)
place_here false true j u us cs t e rest = absurd (cc)

place_elsewhere : (a b : Bool) (j : ℕ) (u : NodeId × ℕ) (us cs : List (NodeId × ℕ)) → nat_eq u.0.0 j ≡ false → places_in j cs ≡ cond b (places_in j us) [] → places_in j (cond a (u ∷ cs) cs) ≡ cond b (places_in j (u ∷ us)) []
place_elsewhere true b j u us cs f rest = rw f rest
place_elsewhere false b j u us cs f rest = rw f rest

-- the places of a user that passes are there, and those of another are gone
pub places_chosen : (test : ℕ → Bool) (j : ℕ) (us : List (NodeId × ℕ)) → places_in j (chosen test us) ≡ cond (test j) (places_in j us) []
places_chosen test j [] = either_way (test j) []
places_chosen test j (u ∷ us) = elim (eqb_tells u.0.0 j) [
  | inl t ↦ place_here (test u.0.0) (test j) j u us (chosen test us) t.0 (ap test t.1) (places_chosen test j us)
  | inr f ↦ place_elsewhere (test u.0.0) (test j) j u us (chosen test us) f.0 (places_chosen test j us)
]
