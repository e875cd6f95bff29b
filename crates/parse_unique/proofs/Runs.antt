-- Two derivations of the same tokens are the same.
use Rattle.std.specs.Prelude.{ℕ, Bool, true, false, List, [], ◌∷◌, ◌++◌, ◌||◌, ◌&&◌, ◌≡◌, ◌⊎◌, refl}
use Rattle.std.proofs.Common.{◌∙◌, ap, subst, arith, inl, inr}
use Rattle.std.proofs.lemmas.Bool.Decides.{nat_tests}
use Rattle.comet_syntax.specs.declared.token.Token.{Token}
use Rattle.comet_syntax.specs.Grammar.Kinds.{Kind, a_name, a_number, a_string, numbered_word, kind, kind_eq, one_of, next_in}
use Rattle.comet_syntax.specs.Grammar.Symbols.{Part, Symbol, token, same, deeper, default}
use Rattle.comet_syntax.specs.Grammar.Alternatives.{alternatives}
use Rattle.comet_syntax.specs.Grammar.First.{first}
use Rattle.comet_syntax.specs.Derivation.{Item, want, part, push, Event, chose, read, OneOf, here, there, MayTake, Derives, ends, reads, takes}
use Rattle.comet_syntax.specs.Refusal.{Whole}
use Rattle.parse_base.specs.Reading.{fits, IsSolid, MustTake}
use Rattle.comet_syntax.specs.Grammar.Heads.{heads, flat_heads, within}
use Rattle.comet_syntax.proofs.Heads.{covers}
use Rattle.parse_base.proofs.Table.{solid_head, all_solid, are_solid}
use Rattle.parse_base.proofs.Machine.{kind_is, solid_of, picked, by_default}

or_false : (a b : Bool) → (a || b) ≡ true → (a ≡ true) ⊎ (b ≡ true)
or_false true b h = inl refl
or_false false b h = inr h

or_left : (a b : Bool) → a ≡ true → (a || b) ≡ true
or_left true b h = refl
or_left false b h = absurd cc

or_right : (a b : Bool) → b ≡ true → (a || b) ≡ true
or_right true b h = refl
or_right false b h = h

and_left : (a b : Bool) → (a && b) ≡ true → a ≡ true
and_left true b h = refl
and_left false b h = absurd cc

and_right : (a b : Bool) → (a && b) ≡ true → b ≡ true
and_right true b h = h
and_right false b h = absurd cc

kind_equal : (j k : Kind) → kind_eq j k ≡ true → j ≡ k
kind_equal a_name a_name h = refl
kind_equal a_name a_number h = absurd cc
kind_equal a_name a_string h = absurd cc
kind_equal a_name (numbered_word b) h = absurd cc
kind_equal a_number a_name h = absurd cc
kind_equal a_number a_number h = refl
kind_equal a_number a_string h = absurd cc
kind_equal a_number (numbered_word b) h = absurd cc
kind_equal a_string a_name h = absurd cc
kind_equal a_string a_number h = absurd cc
kind_equal a_string a_string h = refl
kind_equal a_string (numbered_word b) h = absurd cc
kind_equal (numbered_word a) a_name h = absurd cc
kind_equal (numbered_word a) a_number h = absurd cc
kind_equal (numbered_word a) a_string h = absurd cc
kind_equal (numbered_word a) (numbered_word b) h = let e : a ≡ b = grind (arith, nat_tests) in ap numbered_word e

among_left : (a b : List Kind) (k : Kind) → one_of a k ≡ true → one_of (a ++ b) k ≡ true
among_left [] b k h = absurd cc
among_left (j ∷ js) b k h = elim (or_false (kind_eq j k) (one_of js k) h)
    [ inl e ↦ or_left (kind_eq j k) (one_of (js ++ b) k) e | inr e ↦ or_right (kind_eq j k) (one_of (js ++ b) k) (among_left js b k e) ]

among_right : (a b : List Kind) (k : Kind) → one_of b k ≡ true → one_of (a ++ b) k ≡ true
among_right [] b k h = h
among_right (j ∷ js) b k h = or_right (kind_eq j k) (one_of (js ++ b) k) (among_right js b k h)

within_has : (ks js : List Kind) (k : Kind) → within ks js ≡ true → one_of ks k ≡ true → one_of js k ≡ true
within_has [] js k w h = absurd cc
within_has (i ∷ ks) js k w h = elim (or_false (kind_eq i k) (one_of ks k) h) [
  | inl e ↦ subst (λ x. one_of js x ≡ true) (kind_equal i k e) (and_left (one_of js i) (within ks js) w)
  | inr e ↦ within_has ks js k (and_right (one_of js i) (within ks js) w) e
]

in_flat : {bs : List (List Symbol)} {b : List Symbol} (k : Kind) → OneOf bs b → one_of (heads b) k ≡ true → one_of (flat_heads bs) k ≡ true
in_flat k (here {a = b} {xs = bs}) h = among_left (heads b) (flat_heads bs) k h
in_flat k (there {b = b} {xs = bs} o) h = among_right (heads b) (flat_heads bs) k (in_flat k o h)

-- what begins a form begins the part
in_first : (n : Part) (b : List Symbol) (k : Kind) → OneOf (alternatives n) b → one_of (heads b) k ≡ true → one_of (first n) k ≡ true
in_first n b k o h = within_has (flat_heads (alternatives n)) (first n) k (covers n) (in_flat k o h)

next_in_first : (n : Part) (b : List Symbol) (X : List Token) → OneOf (alternatives n) b → next_in (heads b) X ≡ true → next_in (first n) X ≡ true
next_in_first n b [] o h = h
next_in_first n b (t ∷ ts) o h = in_first n b (kind t) o h

solid_in : (bs : List (List Symbol)) (b : List Symbol) → all_solid bs ≡ true → OneOf bs b → solid_head b ≡ true
solid_in [] b h o = elim o [ ]
solid_in (c ∷ bs) b h here = and_left (solid_head c) (all_solid bs) h
solid_in (c ∷ bs) b h (there o) = solid_in bs b (and_right (solid_head c) (all_solid bs) h) o

no_item : {i : Item} {K : List Item} → i ∷ K ≡ [] → ⊥
no_item h = cc

begins_token : {A : ℕ → Type 0} {X : List Token} {m : Bool} {k : Kind} {K : List Item} {tree : List Event} → Derives A Whole (want m k ∷ K) tree X → next_in (k ∷ []) X ≡ true
begins_token (ends e) = absurd (no_item e.0)
begins_token (reads {k = k} {t = t} e r) = kind_is (kind t) k e

-- a part that is never empty begins with what begins it
begins_part : {A : ℕ → Type 0} {X : List Token} {m : Part} {d : ℕ} {K : List Item} {tree : List Event} → IsSolid m → Derives A Whole (part m d ∷ K) tree X → next_in (first m) X ≡ true
begins_part solid (ends e) = absurd (no_item e.0)
begins_part solid (takes [] a o may r) = absurd (solid [] o refl)
begins_part solid (takes (default g l ∷ b) a o may r) = absurd (solid (default g l ∷ b) o refl)
begins_part {X = X} {m = m} solid (takes (token q k ∷ b) a o may r) = next_in_first m (token q k ∷ b) X o (begins_token r)
begins_part {X = X} {m = m} solid (takes (same l ∷ b) a o may r) =
    next_in_first m (same l ∷ b) X o (begins_part (solid_of l (solid_in (alternatives m) (same l ∷ b) (are_solid m) o)) r)
begins_part {X = X} {m = m} solid (takes (deeper l ∷ b) a o may r) =
    next_in_first m (deeper l ∷ b) X o (begins_part (solid_of l (solid_in (alternatives m) (deeper l ∷ b) (are_solid m) o)) r)

-- a form that was taken goes with the next token
goes : {A : ℕ → Type 0} {X : List Token} {tree : List Event} (d : ℕ) (K : List Item) (n : Part) (b : List Symbol) → OneOf (alternatives n) b → Derives A Whole (push b d K) tree X → fits n b X ≡ true
goes d K n [] o r = refl
goes d K n (default g l ∷ b) o r = refl
goes d K n (token q k ∷ b) o r = begins_token r
goes d K n (same l ∷ b) o r = begins_part (solid_of l (solid_in (alternatives n) (same l ∷ b) (are_solid n) o)) r
goes d K n (deeper l ∷ b) o r = begins_part (solid_of l (solid_in (alternatives n) (deeper l ∷ b) (are_solid n) o)) r

-- and no other does
must : {A : ℕ → Type 0} {X : List Token} {tree : List Event} (d : ℕ) (K : List Item) (n : Part) (b : List Symbol) → OneOf (alternatives n) b → MayTake n b X → Derives A Whole (push b d K) tree X → MustTake n b X
must {X = X} d K n [] o may r = by_default n [] X o refl may
must {X = X} d K n (default g l ∷ b) o may r = by_default n (default g l ∷ b) X o refl may
must {X = X} d K n (token q k ∷ b) o may r = picked n (token q k ∷ b) X o (goes d K n (token q k ∷ b) o r)
must {X = X} d K n (same l ∷ b) o may r = picked n (same l ∷ b) X o (goes d K n (same l ∷ b) o r)
must {X = X} d K n (deeper l ∷ b) o may r = picked n (deeper l ∷ b) X o (goes d K n (deeper l ∷ b) o r)

nothing_left : {B : ℕ → Type 0} {tree : List Event} {ts : List Token} → Derives B Whole [] tree ts → tree ≡ []
nothing_left (ends e) = refl

-- at the end of one, the other ends too
at_end : {B : ℕ → Type 0} {K : List Item} {tree : List Event} {ts : List Token} → K ≡ [] → Derives B Whole K tree ts → tree ≡ []
at_end {B} {K} {tree} {ts} e r = nothing_left (subst (λ z. Derives B Whole z tree ts) e r)

pub one_run : {A B : ℕ → Type 0} {K : List Item} {tree other : List Event} {ts : List Token} → Derives A Whole K tree ts → Derives B Whole K other ts → other ≡ tree
one_run (ends e) r = at_end e.0 r
one_run (reads e r) (ends f) = absurd (no_item f.0)
one_run (reads {m = m} {t = t} e r) (reads f q) = ap (λ z. read m t ∷ z) (one_run r q)
one_run (takes b a o may r) (ends f) = absurd (no_item f.0)
one_run {A} {B} (takes {n = n} {d = d} {items = K} {events = tree} {ts = ts} b a o may r) (takes {events = other} c a' o' may' r') =
    let e : c ≡ b = must d K n b o may r c o' may' (goes d K n c o' r') in
    ap (λ z. chose n z ∷ other) e ∙ ap (λ z. chose n b ∷ z) (one_run r (subst (λ z. Derives B Whole (push z d K) other ts) e r'))

-- at a greater depth all the same
pub at_any : {A B : ℕ → Type 0} {K : List Item} {tree : List Event} {ts : List Token} → ((d : ℕ) → A d → B d) → Derives A Whole K tree ts → Derives B Whole K tree ts
at_any f (ends e) = ends e
at_any f (reads e r) = reads e (at_any f r)
at_any f (takes {d = d} b a o may r) = takes b (f d a) o may (at_any f r)
