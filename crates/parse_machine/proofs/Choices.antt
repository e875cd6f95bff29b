-- What the row that the next token picks says of a part.
use Rattle.std.specs.Prelude.{ℕ, Bool, true, false, List, [], ◌∷◌, ◌++◌, ◌||◌, ◌&&◌, ◌+◌, ◌≡◌, ◌≤◌, ◌<◌, ◌==◌, ◌⊎◌, not, map, refl, length, Option, None, Some, if◌then◌else◌}
use Rattle.std.specs.List.{list_any}
use Rattle.std.proofs.Common.{sym, ◌∙◌, ap, subst, arith, inl, inr}
use Rattle.cbl_base.specs.declared.limits.TheConstants.{MAX_NESTING}
use Rattle.comet_syntax.specs.declared.token.Token.{Token}
use Rattle.comet_syntax.specs.Grammar.Kinds.{Kind, kind, kind_eq, one_of, next_in}
use Rattle.comet_syntax.specs.Grammar.Symbols.{Part, Symbol, token, same, deeper, default, program}
use Rattle.comet_syntax.specs.Grammar.Alternatives.{alternatives}
use Rattle.comet_syntax.specs.Grammar.First.{first}
use Rattle.comet_syntax.specs.Grammar.Heads.{heads, flat_heads, within}
use Rattle.comet_syntax.specs.Derivation.{OneOf, here, there, MayTake}
use Rattle.comet_syntax.specs.declared.stop.FormCause.TheVariants.{TooDeep}
use Rattle.parse_base.specs.Promise.{Fails}
use Rattle.parse_base.specs.Reading.{is_default, cause_at}
use Rattle.parse_base.specs.declared.stop.Stop.TheVariants.{Fault}
use Rattle.parse_base.proofs.Machine.{and_left, and_right, kind_equal, next_in_first, picked, by_default}
use Rattle.parse_base.proofs.Steps.{skips_all, fails_deep, fails_closed}
use Rattle.parse_machine.specs.Choosing as choosing
use Rattle.parse_machine.specs.Choosing.{Picks, headroom, CanCome, Chosen}
use Rattle.parse_machine.specs.Parts.{kind_in}
use Rattle.parse_machine.specs.Rows.{Production, production, late}
use Rattle.parse_machine.specs.declared.grammar.Kind.{Kind as KindCode}

-- what the code asks of a list of kinds, in the grammar's words
pub among : (x : Kind) (ks : List KindCode) → list_any (λ k. kind_eq (kind_in k) x) ks ≡ one_of (map kind_in ks) x
among x [] = refl
among x (k ∷ ks) = ap (λ z. kind_eq (kind_in k) x || z) (among x ks)

pub is_kind : (j k l : Kind) → kind_eq j k ≡ true → k ≡ l → l ≡ j
is_kind j k l h e = sym e ∙ sym (kind_equal j k h)

pub differs : (j k l : Kind) → kind_eq j k ≡ false → k ≡ l → (kind_eq j l || false) ≡ false
differs j k l h e = no_more (kind_eq j l) (sym (ap (kind_eq j) e) ∙ h)
  where
    no_more : (a : Bool) → a ≡ false → (a || false) ≡ false
    no_more true h = h
    no_more false h = refl

-- only the last of the forms may be one for all other tokens
abbrev last_default : List (List Symbol) → Bool
last_default [] = true
last_default (b ∷ []) = true
last_default (b ∷ c ∷ bs) = not (is_default b) && last_default (c ∷ bs)

are_late : (n : Part) → last_default (late (alternatives n)) ≡ true
are_late program = refl
are_late _ = refl

covered_late : (n : Part) → within (first n) (flat_heads (late (alternatives n))) ≡ true
covered_late program = refl
covered_late _ = refl

-- each part begins with some kind
some_first : (n : Part) → (length (first n) == 0) ≡ false
some_first program = refl
some_first _ = refl

-- a form begins with no kind where it is one for all others, and only there
headless : (b : List Symbol) → (length (heads b) == 0) ≡ is_default b
headless [] = refl
headless (token m k ∷ b) = refl
headless (same m ∷ b) = some_first m
headless (default c m ∷ b) = refl
headless (deeper m ∷ b) = some_first m

or_cases : (a b : Bool) → (a || b) ≡ true → (a ≡ true) ⊎ (b ≡ true)
or_cases true b h = inl refl
or_cases false b h = inr h

or_none : (a b : Bool) → (a || b) ≡ false → (a ≡ false) × (b ≡ false)
or_none true b h = absurd cc
or_none false b h = (refl, h)

not_so : (a : Bool) → not a ≡ true → a ≡ false
not_so true h = absurd cc
not_so false h = refl

so_or_not : (a : Bool) → (a ≡ true) ⊎ (a ≡ false)
so_or_not true = inl refl
so_or_not false = inr refl

within_none : (ks js : List Kind) (k : Kind) → within ks js ≡ true → one_of js k ≡ false → one_of ks k ≡ false
within_none [] js k w h = refl
within_none (i ∷ ks) js k w h = elim (so_or_not (kind_eq i k)) [
  | inl e ↦ let f : one_of js k ≡ true = subst (λ z. one_of js z ≡ true) (kind_equal i k e) (and_left (one_of js i) (within ks js) w) in absurd cc
  | inr e ↦ rw e (within_none ks js k (and_right (one_of js i) (within ks js) w) h)
]

next_none : (ks js : List Kind) (ts : List Token) → within ks js ≡ true → next_in js ts ≡ false → next_in ks ts ≡ false
next_none ks js [] w h = refl
next_none ks js (t ∷ ts) w h = within_none ks js (kind t) w h

none_else : (n : Part) (ts : List Token) → next_in (flat_heads (late (alternatives n))) ts ≡ false → next_in (first n) ts ≡ false
none_else n ts h = next_none (first n) (flat_heads (late (alternatives n))) ts (covered_late n) h

-- how a form is picked of these
record Pick (bs : List (List Symbol)) (ts : List Token) (n : Part) (p : Production) : Type 0 where
  body : List Symbol
  is : p ≡ production n body
  among_these : OneOf bs body
  how : (next_in (heads body) ts ≡ true) ⊎ ((is_default body ≡ true) × (next_in (flat_heads bs) ts ≡ false))

some_is : {c d : Production} → Some c ≡ Some d → d ≡ c
some_is e = cc

default_heads : (b : List Symbol) → is_default b ≡ true → heads b ≡ []
default_heads [] h = refl
default_heads (default c m ∷ b) h = refl
default_heads (token m k ∷ b) h = absurd cc
default_heads (same m ∷ b) h = absurd cc
default_heads (deeper m ∷ b) h = absurd cc

if_true : (b : Bool) (x y : Option Production) → b ≡ true → (if b then x else y) ≡ x
if_true true x y h = refl
if_true false x y h = absurd cc

if_false : (b : Bool) (x y : Option Production) → b ≡ false → (if b then x else y) ≡ y
if_false true x y h = absurd cc
if_false false x y h = refl

nothing_in : (ts : List Token) → next_in [] ts ≡ false
nothing_in [] = refl
nothing_in (t ∷ ts) = refl

only_default : (b : List Symbol) (bs : List (List Symbol)) → last_default (b ∷ bs) ≡ true → is_default b ≡ true → bs ≡ []
only_default b [] l d = refl
only_default b (c ∷ bs) l d = let e = not_so (is_default b) (and_left (not (is_default b)) (last_default (c ∷ bs)) l) in absurd cc

late_behind : (b : List Symbol) (bs : List (List Symbol)) → last_default (b ∷ bs) ≡ true → last_default bs ≡ true
late_behind b [] l = refl
late_behind b (c ∷ bs) l = and_right (not (is_default b)) (last_default (c ∷ bs)) l

-- whether the form goes with the next token
abbrev goes : List Symbol → List Token → Bool
goes b ts = (length (heads b) == 0) || next_in (heads b) ts

picks : (n : Part) (bs : List (List Symbol)) (ts : List Token) (p : Production) → last_default bs ≡ true → choosing.picked (map (production n) bs) ts ≡ Some p → Pick bs ts n p
picks n [] ts p l h = absurd cc
picks n (b ∷ bs) ts p l h = elim (so_or_not (goes b ts)) [
  | inl e ↦
      let f = if_true (goes b ts) (Some (production n b)) (choosing.picked (map (production n) bs) ts) e in
      record {
        body = b;
        is = some_is (sym f ∙ h);
        among_these = here;
        how = elim (or_cases (length (heads b) == 0) (next_in (heads b) ts) e) [
          | inl d ↦
              let d' : is_default b ≡ true = sym (headless b) ∙ d in
              inr (d', rw (only_default b bs l d', default_heads b d') (nothing_in ts))
          | inr g ↦ inl g
        ];
      }
  | inr e ↦
      let f = if_false (goes b ts) (Some (production n b)) (choosing.picked (map (production n) bs) ts) e in
      let p' = picks n bs ts p (late_behind b bs l) (sym f ∙ h) in
      let o = or_none (length (heads b) == 0) (next_in (heads b) ts) e in
      record {
        body = p'.body;
        is = p'.is;
        among_these = there p'.among_these;
        how = elim p'.how [ inl q ↦ inl q | inr q ↦ inr (q.0, skips_all (heads b) (flat_heads bs) ts o.1 q.1) ];
      }
]

none_picked : (n : Part) (bs : List (List Symbol)) (ts : List Token) → choosing.picked (map (production n) bs) ts ≡ None
    → (next_in (flat_heads bs) ts ≡ false) × ((b : List Symbol) → OneOf bs b → is_default b ≡ true → ⊥)
none_picked n [] ts h = (nothing_in ts, λ b o d. elim o [ ])
none_picked n (b ∷ bs) ts h = elim (so_or_not (goes b ts)) [
  | inl e ↦ let f = if_true (goes b ts) (Some (production n b)) (choosing.picked (map (production n) bs) ts) e in absurd cc
  | inr e ↦
      let f = if_false (goes b ts) (Some (production n b)) (choosing.picked (map (production n) bs) ts) e in
      let r = none_picked n bs ts (sym f ∙ h) in
      let o = or_none (length (heads b) == 0) (next_in (heads b) ts) e in (
        skips_all (heads b) (flat_heads bs) ts o.1 r.0,
        λ b' at d. solid_at b' at d (sym (headless b) ∙ o.0) r.1,
      )
]
  where
    solid_at : {b : List Symbol} {bs : List (List Symbol)} (b' : List Symbol) → OneOf (b ∷ bs) b' → is_default b' ≡ true → is_default b ≡ false
        → ((c : List Symbol) → OneOf bs c → is_default c ≡ true → ⊥) → ⊥
    solid_at b' here d e f = cc
    solid_at b' (there o) d e f = f b' o d

-- the table's order leaves no form out, and adds none
late_from : (bs : List (List Symbol)) (b : List Symbol) → OneOf (late bs) b → OneOf bs b
late_from [] b o = o
late_from ([] ∷ bs) b o = at_last bs b o
  where
    at_last : (bs : List (List Symbol)) (b : List Symbol) → OneOf (bs ++ ([] ∷ [])) b → OneOf ([] ∷ bs) b
    at_last [] b o = o
    at_last (c ∷ bs) b here = there here
    at_last (c ∷ bs) b (there o) = swap (at_last bs b o)
      where
        swap : {c b : List Symbol} {bs : List (List Symbol)} → OneOf ([] ∷ bs) b → OneOf ([] ∷ c ∷ bs) b
        swap here = here
        swap (there o) = there (there o)
late_from ((x ∷ c) ∷ bs) b o = o

late_has : (bs : List (List Symbol)) (b : List Symbol) → OneOf bs b → OneOf (late bs) b
late_has [] b o = o
late_has ([] ∷ bs) b here = at_end_of bs
  where
    at_end_of : (bs : List (List Symbol)) → OneOf (bs ++ ([] ∷ [])) []
    at_end_of [] = here
    at_end_of (c ∷ bs) = there (at_end_of bs)
late_has ([] ∷ bs) b (there o) = before bs b o
  where
    before : (bs : List (List Symbol)) (b : List Symbol) → OneOf bs b → OneOf (bs ++ ([] ∷ [])) b
    before [] b o = elim o [ ]
    before (c ∷ bs) b here = here
    before (c ∷ bs) b (there o) = there (before bs b o)
late_has ((x ∷ c) ∷ bs) b o = o

-- what begins a form that is no default is no default itself
takes_picked : (n : Part) (body : List Symbol) (ts : List Token) → next_in (heads body) ts ≡ true → MayTake n body ts
takes_picked n [] [] h = absurd cc
takes_picked n [] (t ∷ ts) h = absurd cc
takes_picked n (token m k ∷ body) ts h = tt
takes_picked n (same l ∷ body) ts h = tt
takes_picked n (deeper l ∷ body) ts h = tt
takes_picked n (default b l ∷ body) [] h = absurd cc
takes_picked n (default b l ∷ body) (t ∷ ts) h = absurd cc

takes_default : (n : Part) (body : List Symbol) (ts : List Token) → is_default body ≡ true → next_in (first n) ts ≡ false → MayTake n body ts
takes_default n [] ts d h = h
takes_default n (default b l ∷ body) ts d h = h
takes_default n (token m k ∷ body) ts d h = absurd cc
takes_default n (same l ∷ body) ts d h = absurd cc
takes_default n (deeper l ∷ body) ts d h = absurd cc

-- the part has the form that is picked, and must have it
pub chosen : (n : Part) (d : ℕ) (ts : List Token) (ps : List Production) (p : Production) → ps ≡ map (production n) (late (alternatives n)) → Picks ps ts p → d ≤ MAX_NESTING → CanCome n d
    → Chosen n d ts p
chosen n d ts ps p e is le o =
    let q = picks n (late (alternatives n)) ts p (are_late n) (subst (λ z. choosing.picked z ts ≡ Some p) e is.is) in
    let low : d + headroom n ≤ MAX_NESTING = elim o [ inl a ↦ a | inr a ↦ absurd (let z = a.0 in omega arith) ] in
    let one = late_from (alternatives n) q.body q.among_these in
    subst (Chosen n d ts) (sym q.is) (record {
      low = le;
      lower = low;
      of_is = refl;
      body_is = refl;
      among = one;
      may = elim q.how [ inl h ↦ takes_picked n q.body ts h | inr h ↦ takes_default n q.body ts h.0 (none_else n ts h.1) ];
      must = elim q.how [ inl h ↦ picked n q.body ts one h | inr h ↦ by_default n q.body ts one h.0 (none_else n ts h.1) ];
      how = elim q.how [ inl h ↦ inl h | inr h ↦ inr (h.0, none_else n ts h.1) ];
    })

-- a part that is too deep begins here
pub too_deep : (n : Part) (d : ℕ) (ts : List Token) (ps : List Production) (p : Production) → ps ≡ map (production n) (late (alternatives n)) → Picks ps ts p → MAX_NESTING < d → CanCome n d
    → Fails MAX_NESTING (same n ∷ []) d ts (Fault (length ts) TooDeep)
too_deep n d ts ps p e is lt o =
    let q = picks n (late (alternatives n)) ts p (are_late n) (subst (λ z. choosing.picked z ts ≡ Some p) e is.is) in
    let one = late_from (alternatives n) q.body q.among_these in
    elim o [
      | inl a ↦ absurd (omega arith)
      | inr a ↦ elim q.how [ inl h ↦ fails_deep n (next_in_first n q.body ts one h) a.0 | inr h ↦ absurd (a.1 q.body one h.0) ]
    ]

-- no form goes with the next token
pub refused : (n : Part) (d : ℕ) (ts : List Token) (ps : List Production) → ps ≡ map (production n) (late (alternatives n)) → choosing.picked ps ts ≡ None
    → Fails MAX_NESTING (same n ∷ []) d ts (Fault (length ts) (cause_at ts))
refused n d ts ps e none =
    let q = none_picked n (late (alternatives n)) ts (subst (λ z. choosing.picked z ts ≡ None) e none) in
    fails_closed n (λ b o h. q.1 b (late_has (alternatives n) b o) h) (none_else n ts q.0)
