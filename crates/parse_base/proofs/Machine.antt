-- What is read for sure is the beginning of every derivation, whole, cut or too deep.
use Rattle.std.specs.Prelude.{ℕ, Bool, true, false, nat_eq, List, [], ◌∷◌, ◌++◌, ◌||◌, ◌&&◌, not, ◌+◌, ◌≡◌, ◌≤◌, ◌<◌, refl, ◌⊎◌, length, nat_lt}
use Rattle.std.proofs.Common.{sym, ◌∙◌, ap, subst, arith, inl, inr, append-nil, suc, zero}
use Rattle.std.proofs.lemmas.Bool.Decides.{nat_tests}
use Rattle.comet_syntax.specs.declared.token.Token.{Token}
use Rattle.comet_syntax.specs.declared.stop.FormCause.{FormCause}
use Rattle.comet_syntax.specs.declared.stop.FormCause.TheVariants.{TooDeep}
use Rattle.comet_syntax.specs.Grammar.Kinds.{Kind, a_name, a_number, a_string, numbered_word, kind, kind_eq, one_of, next_in}
use Rattle.comet_syntax.specs.Grammar.Symbols.{Part, Symbol, token, same, deeper, default}
use Rattle.comet_syntax.specs.Grammar.Alternatives.{alternatives}
use Rattle.comet_syntax.specs.Grammar.First.{first}
use Rattle.comet_syntax.specs.Grammar.Heads.{heads, flat_heads, within}
use Rattle.comet_syntax.proofs.Heads.{covers, covered}
use Rattle.comet_syntax.specs.Derivation.{Item, want, part, push, Event, chose, read, OneOf, here, there, MayTake, Derives, ends, reads, takes}
use Rattle.comet_syntax.specs.Refusal.{Whole, Broken, AnyDepth, Deeper, start, DerivesAll, DerivesAny, IsPossible, IsDeepAtLast, NoneDeep, EachPossible, NoTree, Refused}
use Rattle.parse_base.specs.Reading.{fits, is_default, IsSolid, MustTake, Leads, stays, gets, picks, Stops, wrong, closed, deep, over, cause_at}
use Rattle.parse_base.proofs.Table.{some_empty, solid_head, all_solid, disjoint, empty, apart_from, apart, rank, below, all_below, are_solid, are_apart, are_below}

or_false : (a b : Bool) → (a || b) ≡ true → (a ≡ true) ⊎ (b ≡ true)
or_false true b h = inl refl
or_false false b h = inr h

or_left : (a b : Bool) → a ≡ true → (a || b) ≡ true
or_left true b h = refl
or_left false b h = cc

or_right : (a b : Bool) → b ≡ true → (a || b) ≡ true
or_right true b h = refl
or_right false b h = h

pub and_left : (a b : Bool) → (a && b) ≡ true → a ≡ true
and_left true b h = refl
and_left false b h = cc

pub and_right : (a b : Bool) → (a && b) ≡ true → b ≡ true
and_right true b h = h
and_right false b h = cc

one_of_left : (a b : List Kind) (k : Kind) → one_of a k ≡ true → one_of (a ++ b) k ≡ true
one_of_left [] b k h = cc
one_of_left (j ∷ js) b k h = elim (or_false (kind_eq j k) (one_of js k) h)
    [ inl e ↦ or_left _ _ e | inr e ↦ or_right (kind_eq j k) _ (one_of_left js b k e) ]

one_of_right : (a b : List Kind) (k : Kind) → one_of b k ≡ true → one_of (a ++ b) k ≡ true
one_of_right [] b k h = h
one_of_right (j ∷ js) b k h = or_right (kind_eq j k) _ (one_of_right js b k h)

one_of_split : (a b : List Kind) (k : Kind) → one_of (a ++ b) k ≡ true → (one_of a k ≡ true) ⊎ (one_of b k ≡ true)
one_of_split [] b k h = inr h
one_of_split (j ∷ js) b k h = elim (or_false (kind_eq j k) _ h) [
  | inl e ↦ inl (or_left _ _ e)
  | inr e ↦ elim (one_of_split js b k e) [ inl f ↦ inl (or_right (kind_eq j k) _ f) | inr f ↦ inr f ]
]

one_alone : (j k : Kind) → one_of (j ∷ []) k ≡ true → kind_eq j k ≡ true
one_alone j k h = elim (or_false (kind_eq j k) false h) [ inl e ↦ e | inr e ↦ absurd cc ]

eqb_same : (a : ℕ) → nat_eq a a ≡ true
eqb_same a = grind arith

kind_same : (k : Kind) → kind_eq k k ≡ true
kind_same a_name = refl
kind_same a_number = refl
kind_same a_string = refl
kind_same (numbered_word a) = eqb_same a

pub kind_is : (j k : Kind) → j ≡ k → (kind_eq k j || false) ≡ true
kind_is j k e = or_left _ _ (subst (λ x. kind_eq k x ≡ true) (sym e) (kind_same k))

pub kind_equal : (j k : Kind) → kind_eq j k ≡ true → j ≡ k
kind_equal a_name a_name h = refl
kind_equal a_name a_number h = cc
kind_equal a_name a_string h = cc
kind_equal a_name (numbered_word b) h = cc
kind_equal a_number a_name h = cc
kind_equal a_number a_number h = refl
kind_equal a_number a_string h = cc
kind_equal a_number (numbered_word b) h = cc
kind_equal a_string a_name h = cc
kind_equal a_string a_number h = cc
kind_equal a_string a_string h = refl
kind_equal a_string (numbered_word b) h = cc
kind_equal (numbered_word a) a_name h = cc
kind_equal (numbered_word a) a_number h = cc
kind_equal (numbered_word a) a_string h = cc
kind_equal (numbered_word a) (numbered_word b) h = let e : a ≡ b = grind arith in ap numbered_word e

within_has : (ks js : List Kind) (k : Kind) → within ks js ≡ true → one_of ks k ≡ true → one_of js k ≡ true
within_has [] js k w h = cc
within_has (i ∷ ks) js k w h = elim (or_false (kind_eq i k) _ h) [
  | inl e ↦ subst (λ x. one_of js x ≡ true) (kind_equal i k e) (and_left _ _ w)
  | inr e ↦ within_has ks js k (and_right (one_of js i) _ w) e
]

in_flat : {bs : List (List Symbol)} {b : List Symbol} (k : Kind) → OneOf bs b → one_of (heads b) k ≡ true → one_of (flat_heads bs) k ≡ true
in_flat k here h = one_of_left _ _ k h
in_flat k (there o) h = one_of_right _ _ k (in_flat k o h)

-- what begins a form begins the part
in_first : (n : Part) (b : List Symbol) (k : Kind) → OneOf (alternatives n) b → one_of (heads b) k ≡ true → one_of (first n) k ≡ true
in_first n b k o h = within_has (flat_heads (alternatives n)) (first n) k (covers n) (in_flat k o h)

pub next_in_first : (n : Part) (b : List Symbol) (X : List Token) → OneOf (alternatives n) b → next_in (heads b) X ≡ true → next_in (first n) X ≡ true
next_in_first n b [] o h = h
next_in_first n b (t ∷ ts) o h = in_first n b (kind t) o h

-- lemmas on what is computed
not_empty : (bs : List (List Symbol)) (b : List Symbol) → OneOf bs b → is_default b ≡ true → some_empty bs ≡ true
not_empty [] b o h = elim o [ ]
not_empty (c ∷ bs) b here h = or_left _ _ h
not_empty (c ∷ bs) b (there o) h = or_right (is_default c) _ (not_empty bs b o h)

not_true : (b : Bool) → not b ≡ true → b ≡ true → ⊥
not_true true h e = cc
not_true false h e = cc

pub solid_of : (m : Part) → not (some_empty (alternatives m)) ≡ true → IsSolid m
solid_of m h b o e = not_true _ h (not_empty _ b o e)

solid_in : (bs : List (List Symbol)) (b : List Symbol) → all_solid bs ≡ true → OneOf bs b → solid_head b ≡ true
solid_in [] b h o = elim o [ ]
solid_in (c ∷ bs) b h here = and_left _ _ h
solid_in (c ∷ bs) b h (there o) = solid_in bs b (and_right (solid_head c) _ h) o

-- What an end of a run has to be, at these tokens, so that it doesn't come before the run has gone beyond what was read.
record Fit (limit : ℕ) (End : List Item → List Token → Type 0) (X : List Token) : Type 0 where
  wanted : (m : Bool) (k : Kind) (K : List Item) → End (want m k ∷ K) X → ⊥
  beyond : (n : Part) (d : ℕ) (K : List Item) → End (part n d ∷ K) X → limit < d
  begun : (n : Part) (d : ℕ) (K : List Item) → End (part n d ∷ K) X → IsSolid n → next_in (first n) X ≡ true

begins_part : {limit : ℕ} {A : ℕ → Type 0} {E : List Item → List Token → Type 0} {X : List Token} {m : Part} {d : ℕ} {K : List Item} {tree : List Event}
    → Fit limit E X → IsSolid m → Derives A E (part m d ∷ K) tree X → next_in (first m) X ≡ true
begins_part f solid (ends e) = f.begun _ _ _ e solid
begins_part f solid (takes [] a o may r) = absurd (solid _ o refl)
begins_part f solid (takes (default g l ∷ b) a o may r) = absurd (solid _ o refl)
begins_part f solid (takes (token q k ∷ b) a o may (ends e)) = absurd (f.wanted _ _ _ e)
begins_part {m = m} f solid (takes (token q k ∷ b) a o may (reads {t = t} e r)) =
    in_first m (token q k ∷ b) (kind t) o (kind_is _ k e)
begins_part {m = m} f solid (takes (same l ∷ b) a o may r) =
    next_in_first m (same l ∷ b) _ o (begins_part f (solid_of l (solid_in _ (same l ∷ b) (are_solid m) o)) r)
begins_part {m = m} f solid (takes (deeper l ∷ b) a o may r) =
    next_in_first m (deeper l ∷ b) _ o (begins_part f (solid_of l (solid_in _ (deeper l ∷ b) (are_solid m) o)) r)

begins_body : {limit : ℕ} {A : ℕ → Type 0} {E : List Item → List Token → Type 0} {X : List Token} {tree : List Event} (d : ℕ) (K : List Item)
    → Fit limit E X → (n : Part) (b : List Symbol) → OneOf (alternatives n) b → Derives A E (push b d K) tree X → fits n b X ≡ true
begins_body d K f n [] o r = refl
begins_body d K f n (token q k ∷ b) o (ends e) = absurd (f.wanted _ _ _ e)
begins_body d K f n (token q k ∷ b) o (reads {t = t} e r) = kind_is _ k e
begins_body d K f n (same l ∷ b) o r = begins_part f (solid_of l (solid_in _ (same l ∷ b) (are_solid n) o)) r
begins_body d K f n (default g l ∷ b) o r = refl
begins_body d K f n (deeper l ∷ b) o r = begins_part f (solid_of l (solid_in _ (deeper l ∷ b) (are_solid n) o)) r

tokens_of : List Event → List Token
tokens_of [] = []
tokens_of (chose n b ∷ tree) = tokens_of tree
tokens_of (read m t ∷ tree) = t ∷ tokens_of tree

-- at two continuations the next token is the same
Alike : List Token → List Token → Type 0
Alike x r = (ks : List Kind) (a : List Token) → next_in ks (a ++ x) ≡ next_in ks (a ++ r)

spelled : {limit : ℕ} {K K' : List Item} {ts r : List Token} {tree : List Event} → Leads limit K ts tree K' r → ts ≡ tokens_of tree ++ r
unfolding tokens_of
spelled stays = refl
spelled (gets {t = t} e l) = ap (λ z. t ∷ z) (spelled l)
spelled (picks b le o may must l) = spelled l

may_along : (n : Part) (b : List Symbol) (X Y : List Token) → next_in (first n) X ≡ next_in (first n) Y → MayTake n b X → MayTake n b Y
may_along n [] X Y e m = sym e ∙ m
may_along n (default g l ∷ b) X Y e m = sym e ∙ m
may_along n (token q k ∷ b) X Y e m = tt
may_along n (same l ∷ b) X Y e m = tt
may_along n (deeper l ∷ b) X Y e m = tt

fits_along : (n : Part) (b : List Symbol) (X Y : List Token) → ((ks : List Kind) → next_in ks X ≡ next_in ks Y) → fits n b X ≡ true → fits n b Y ≡ true
fits_along n [] X Y e h = refl
fits_along n (default g l ∷ b) X Y e h = refl
fits_along n (token q k ∷ b) X Y e h = sym (e (k ∷ [])) ∙ h
fits_along n (same l ∷ b) X Y e h = sym (e (first l)) ∙ h
fits_along n (deeper l ∷ b) X Y e h = sym (e (first l)) ∙ h

record Rest (A : ℕ → Type 0) (E : List Item → List Token → Type 0) (tree : List Event) (K' : List Item) (other : List Event) (x : List Token) : Type 0 where
  more : List Event
  split : other ≡ tree ++ more
  run : Derives A E K' more x

-- a run that begins with a part, at tokens of any form
record Taken (A : ℕ → Type 0) (E : List Item → List Token → Type 0) (n : Part) (d : ℕ) (K : List Item) (other : List Event) (X : List Token) : Type 0 where
  body : List Symbol
  after : List Event
  split : other ≡ chose n body ∷ after
  among : OneOf (alternatives n) body
  may : MayTake n body X
  run : Derives A E (push body d K) after X

taken : {limit : ℕ} {A : ℕ → Type 0} {E : List Item → List Token → Type 0} {n : Part} {d : ℕ} {K : List Item} {other : List Event} {X : List Token}
    → Fit limit E X → d ≤ limit → Derives A E (part n d ∷ K) other X → Taken A E n d K other X
taken f le (ends e) = let lt = f.beyond _ _ _ e in absurd (omega arith)
taken f le (takes {events = tree} b a o may r) = record { body = b; after = tree; split = refl; among = o; may = may; run = r }

follow : {limit : ℕ} {A : ℕ → Type 0} {E : List Item → List Token → Type 0} {K K' : List Item} {ts r : List Token} {tree other : List Event} (x : List Token)
    → Alike x r → ((a : List Token) → Fit limit E (a ++ x)) → Leads limit K ts tree K' r → Derives A E K other (tokens_of tree ++ x)
    → Rest A E tree K' other x
unfolding tokens_of Alike
follow {other = other} x al fit stays run = record { more = other; split = refl; run = run }
follow x al fit (gets {t = t} {tree = tree} e l) (ends e') = absurd ((fit (t ∷ tokens_of tree)).wanted _ _ _ e')
follow x al fit (gets {m = m} {t = t} e l) (reads e' run) =
    let rest = follow x al fit l run in record { more = rest.more; split = ap (λ z. read m t ∷ z) rest.split; run = rest.run }
follow {A = A} {E = E} {ts = ts} {r = r} x al fit (picks {n = n} {d = d} {K = K} {tree = tree} b le o may must l) run =
    let t = taken (fit (tokens_of tree)) le run in
    let agree : (ks : List Kind) → next_in ks (tokens_of tree ++ x) ≡ next_in ks ts = λ ks. al ks (tokens_of tree) ∙ ap (λ z. next_in ks z) (sym (spelled l)) in
    let e : t.body ≡ b = must t.body t.among (may_along n t.body _ ts (agree (first n)) t.may)
    (fits_along n t.body _ ts agree (begins_body d K (fit (tokens_of tree)) n t.body t.among t.run)) in
    let run' : Derives A E (push b d K) t.after (tokens_of tree ++ x) = subst (λ z. Derives A E (push z d K) t.after (tokens_of tree ++ x)) e t.run in
    let rest = follow x al fit l run' in
    taken_rest t.split e rest
  where
    taken_rest : {A : ℕ → Type 0} {E : List Item → List Token → Type 0} {n : Part} {b body : List Symbol} {after other tree : List Event} {K' : List Item} {x : List Token}
        → other ≡ chose n body ∷ after → body ≡ b → Rest A E tree K' after x → Rest A E (chose n b ∷ tree) K' other x
    taken_rest {n = n} {b = b} {after = after} s e rest = record { more = rest.more; split = s ∙ (ap (λ z. chose n z ∷ after) e ∙ ap (λ z. chose n b ∷ z) rest.split); run = rest.run }

-- A run goes on from where what is read leads.
Along : List Token → List Token → Type 0
Along x r = (ks : List Kind) (a : List Token) → next_in ks (a ++ r) ≡ false → next_in ks (a ++ x) ≡ false

may_before : (n : Part) (b : List Symbol) (X Y : List Token) → (next_in (first n) X ≡ false → next_in (first n) Y ≡ false) → MayTake n b X → MayTake n b Y
may_before n [] X Y e m = e m
may_before n (default g l ∷ b) X Y e m = e m
may_before n (token q k ∷ b) X Y e m = tt
may_before n (same l ∷ b) X Y e m = tt
may_before n (deeper l ∷ b) X Y e m = tt

extend : {limit : ℕ} {A : ℕ → Type 0} {E : List Item → List Token → Type 0} {K K' : List Item} {ts r : List Token} {tree more : List Event} (x : List Token)
    → Along x r → ((d : ℕ) → d ≤ limit → A d) → Leads limit K ts tree K' r → Derives A E K' more x → Derives A E K (tree ++ more) (tokens_of tree ++ x)
unfolding tokens_of Along
extend x al ok stays run = run
extend x al ok (gets e l) run = reads e (extend x al ok l run)
extend {ts = ts} x al ok (picks {n = n} {d = d} {tree = tree} b le o may must l) run =
    takes b (ok d le) o
    (may_before n b ts _ (λ h. al (first n) (tokens_of tree) (subst (λ z. next_in (first n) z ≡ false) (spelled l) h)) may)
    (extend x al ok l run)

-- where a token within what is read stands
record Reached (limit : ℕ) (K : List Item) (ts : List Token) (front : List Token) (w : Token) : Type 0 where
  tree : List Event
  keeps : Bool
  kind_of : Kind
  items : List Item
  rest : List Token
  leads : Leads limit K ts tree (want keeps kind_of ∷ items) (w ∷ rest)
  before : tokens_of tree ≡ front
  is : kind w ≡ kind_of

reach : {limit : ℕ} {K K' : List Item} {ts r : List Token} {tree : List Event} (front : List Token) (w : Token) (more : List Token)
    → Leads limit K ts tree K' r → tokens_of tree ≡ front ++ (w ∷ more) → Reached limit K ts front w
unfolding tokens_of
reach [] w more stays h = absurd cc
reach (q ∷ front) w more stays h = absurd cc
reach {limit = limit} [] w more (gets {m = m} {k = k} {K = K} {t = t} {ts = ts} e l) h =
    let same : t ≡ w = cc in
    subst (λ z. Reached limit (want m k ∷ K) (t ∷ ts) [] z) same (record { tree = []; keeps = m; kind_of = k; items = K; rest = ts; leads = stays; before = refl; is = e })
reach (q ∷ front) w more (gets {m = m} {k = k} {t = t} {tree = tree} e l) h =
    let at = reach front w more l (tails h) in
    record {
      tree = read m t ∷ at.tree;
      keeps = at.keeps;
      kind_of = at.kind_of;
      items = at.items;
      rest = at.rest;
      leads = gets e at.leads;
      before = ap (λ z. t ∷ z) at.before ∙ ap (λ z. z ∷ front) (heads_of h);
      is = at.is;
    }
  where
    tails : {a b : Token} {x y : List Token} → a ∷ x ≡ b ∷ y → x ≡ y
    tails h = cc

    heads_of : {a b : Token} {x y : List Token} → a ∷ x ≡ b ∷ y → a ≡ b
    heads_of h = cc
reach front w more (picks {n = n} b le o may must l) h =
    let at = reach front w more l h in
    record { tree = chose n b ∷ at.tree; keeps = at.keeps; kind_of = at.kind_of; items = at.items; rest = at.rest; leads = picks b le o may must at.leads; before = at.before; is = at.is }

cons_after : (a : List Token) (t : Token) (q : List Token) → a ++ (t ∷ q) ≡ [] → ⊥
cons_after [] t q h = cc
cons_after (b ∷ a) t q h = cc

alike_at : (t : Token) (q s : List Token) → Alike (t ∷ q) (t ∷ s)
unfolding Alike
alike_at t q s ks [] = refl
alike_at t q s ks (b ∷ a) = refl

alike_same : (x : List Token) → Alike x x
unfolding Alike
alike_same x ks a = refl

along_one : (t : Token) (s : List Token) → Along (t ∷ []) (t ∷ s)
unfolding Along
along_one t s ks [] h = h
along_one t s ks (b ∷ a) h = h

along_none : (r : List Token) → Along [] r
unfolding Along
along_none r ks [] h = refl
along_none r ks (b ∷ a) h = h

along_same : (r : List Token) → Along r r
unfolding Along
along_same r ks a h = h

fit_broken : (limit : ℕ) (a : List Token) (t : Token) (q : List Token) → Fit limit Broken (a ++ (t ∷ q))
fit_broken limit a t q = record {
  wanted = λ m k K e. cons_after a t q e;
  beyond = λ n d K e. absurd (cons_after a t q e);
  begun = λ n d K e solid. absurd (cons_after a t q e);
}

fit_whole : (limit : ℕ) (X : List Token) → Fit limit Whole X
fit_whole limit X = record {
  wanted = λ m k K e. absurd (no_item e.0);
  beyond = λ n d K e. absurd (no_item e.0);
  begun = λ n d K e solid. absurd (no_item e.0);
}
  where
    no_item : {i : Item} {K : List Item} → i ∷ K ≡ [] → ⊥
    no_item h = cc

fit_one : (limit : ℕ) (X : List Token) → length X ≡ 1 → Fit limit Broken X
fit_one limit [] h = absurd (omega arith)
fit_one limit (t ∷ ts) h = fit_broken limit [] t ts

fit_deeper : (limit : ℕ) (X : List Token) → Fit limit (Deeper limit) X
fit_deeper limit X = record {
  wanted = λ m k K e. e;
  beyond = λ n d K e. let h = e.0 in omega arith;
  begun = λ n d K e solid. begins_part (fit_one limit X e.1) solid e.3;
}

never_deep : (limit : ℕ) {A : ℕ → Type 0} {K : List Item} {tree : List Event} {X : List Token} → X ≡ [] → Derives A (Deeper limit) K tree X → ⊥
never_deep limit {K = []} h (ends e) = e
never_deep limit {K = want m k ∷ K} h (ends e) = e
never_deep limit {K = part n d ∷ K} h (ends e) = let l = e.1 in let z = ap length h in omega arith
never_deep limit h (reads e r) = cc
never_deep limit h (takes b a o may r) = never_deep limit h r

none_deep : {limit : ℕ} {K' : List Item} {ts r : List Token} {tree : List Event} → Leads limit start ts tree K' r → NoneDeep limit (tokens_of tree)
unfolding tokens_of
none_deep {limit = limit} l front w more h (cut, run) =
    let at = reach front w more l h in
    let run' : Derives AnyDepth (Deeper limit) start cut (tokens_of at.tree ++ (w ∷ [])) = subst (λ z. Derives AnyDepth (Deeper limit) start cut (z ++ (w ∷ []))) (sym at.before) run in
    let rest = follow (w ∷ []) (alike_at w [] at.rest) (λ a. fit_deeper limit (a ++ (w ∷ []))) at.leads run' in
    at_want limit rest.run
  where
    at_want : (limit : ℕ) {m : Bool} {k : Kind} {K : List Item} {w : Token} {tree : List Event} → Derives AnyDepth (Deeper limit) (want m k ∷ K) tree (w ∷ []) → ⊥
    at_want limit (ends e) = e
    at_want limit (reads e r) = never_deep limit refl r

each_possible : {limit : ℕ} {K' : List Item} {ts r : List Token} {tree : List Event} → Leads limit start ts tree K' r → EachPossible (tokens_of tree)
each_possible l front w more h =
    let at = reach front w more l h in (
      at.tree ++ (read at.keeps w ∷ []),
      subst (λ z. Derives AnyDepth Broken start (at.tree ++ (read at.keeps w ∷ [])) (z ++ (w ∷ []))) at.before
          (extend (w ∷ []) (along_one w at.rest) (λ d le. tt) at.leads (reads at.is (ends refl))),
    )

-- where reading stops, no run goes on
stuck : {limit : ℕ} {A : ℕ → Type 0} {E : List Item → List Token → Type 0} {K : List Item} {other : List Event} {X r : List Token} {c : FormCause}
    → ((ks : List Kind) → next_in ks X ≡ next_in ks r) → Fit limit E X → ((t : Token) (ts : List Token) → r ≡ t ∷ ts → E [] X → ⊥) → (c ≡ TooDeep → ⊥) → Stops limit K r c → Derives A E K other X → ⊥
stuck al f none ne (wrong h) (ends e) = f.wanted _ _ _ e
stuck al f none ne (wrong {k = k} h) (reads {t = t} e run) = let y = kind_is (kind t) k e in let z = al (k ∷ []) in cc
stuck al f none ne (closed {n = n} solid h) run = let y = begins_part f solid run in let z = al (first n) in cc
stuck al f none ne (deep h e) run = ne refl
stuck al f none ne over (ends e) = none _ _ refl e

-- the part that begins with this kind
among_heads : (bs : List (List Symbol)) (k : Kind) → one_of (flat_heads bs) k ≡ true → (b : List Symbol) × OneOf bs b × (one_of (heads b) k ≡ true)
among_heads [] k h = absurd cc
among_heads (b ∷ bs) k h = elim (one_of_split (heads b) (flat_heads bs) k h)
    [ inl e ↦ (b, here, e) | inr e ↦ let m = among_heads bs k e in (m.0, there m.1, m.2) ]

is_below : (n : ℕ) (bs : List (List Symbol)) (b : List Symbol) → all_below n bs ≡ true → OneOf bs b → below n b ≡ true
is_below n [] b h o = elim o [ ]
is_below n (c ∷ bs) b h here = and_left _ _ h
is_below n (c ∷ bs) b h (there o) = is_below n bs b (and_right (below n c) _ h) o

lt_of : (a b : ℕ) → nat_lt a b ≡ true → a < b
lt_of a b h = grind (arith, nat_tests)

Begun : Part → ℕ → List Item → Token → Type 0
Begun n d K w = (cut : List Event) × Derives AnyDepth Broken (part n d ∷ K) cut (w ∷ [])

begun_by : (n : Part) (d : ℕ) (K : List Item) (w : Token) → ((m : Part) (e : ℕ) (L : List Item) → rank m < rank n → one_of (first m) (kind w) ≡ true → Begun m e L w)
    → (b : List Symbol) → OneOf (alternatives n) b → one_of (heads b) (kind w) ≡ true → below (rank n) b ≡ true → Begun n d K w
unfolding Begun
begun_by n d K w inner [] o h low = absurd cc
begun_by n d K w inner (default g l ∷ b) o h low = absurd cc
begun_by n d K w inner (token q k ∷ b) o h low =
    (chose n (token q k ∷ b) ∷ (read q w ∷ []), takes (token q k ∷ b) tt o tt (reads (sym (kind_equal k (kind w) (one_alone k (kind w) h))) (ends refl)))
begun_by n d K w inner (same l ∷ b) o h low =
    let r = inner l d (push b d K) (lt_of _ _ low) h in (chose n (same l ∷ b) ∷ r.0, takes (same l ∷ b) tt o tt r.1)
begun_by n d K w inner (deeper l ∷ b) o h low =
    let r = inner l (d + 1) (push b d K) (lt_of _ _ low) h in (chose n (deeper l ∷ b) ∷ r.0, takes (deeper l ∷ b) tt o tt r.1)

can_begin : (fuel : ℕ) (n : Part) (d : ℕ) (K : List Item) (w : Token) → rank n < fuel → one_of (first n) (kind w) ≡ true → Begun n d K w
can_begin zero n d K w lt h = absurd (omega arith)
can_begin (suc fuel) n d K w lt h =
    let m = among_heads (alternatives n) (kind w) (within_has (first n) _ (kind w) (covered n) h) in
    begun_by n d K w (λ m e L lt' h'. can_begin fuel m e L w (omega arith) h') m.0 m.1 m.2 (is_below (rank n) _ m.0 (are_below n) m.1)

spells_one : (limit : ℕ) (ts : List Token) (tree : List Event) → Leads limit start ts tree [] []
    → DerivesAll limit tree ts × ((other : List Event) → DerivesAny other ts → other ≡ tree) × EachPossible ts × NoneDeep limit ts
spells_one limit ts tree l =
    let e : ts ≡ tokens_of tree = spelled l ∙ append-nil (tokens_of tree) in
    let run : Derives (λ d. d ≤ limit) Whole start (tree ++ []) (tokens_of tree ++ []) = extend [] (along_same []) (λ d le. le) l (ends (refl, refl)) in (
      subst (λ z. DerivesAll limit tree z) (sym (spelled l)) (subst (λ z. Derives (λ d. d ≤ limit) Whole start z (tokens_of tree ++ [])) (append-nil tree) run),
      (λ other o.
          let rest = follow [] (alike_same []) (λ a. fit_whole limit (a ++ [])) l (subst (λ z. DerivesAny other z) (spelled l) o) in
          rest.split ∙ (ap (λ z. tree ++ z) (nothing rest.run) ∙ append-nil tree)),
      subst (λ z. EachPossible z) (sym e) (each_possible l),
      subst (λ z. NoneDeep limit z) (sym e) (none_deep l),
    )
  where
    nothing : {more : List Event} → Derives AnyDepth Whole [] more [] → more ≡ []
    nothing (ends e) = refl

no_tree : {limit : ℕ} {K : List Item} {ts r : List Token} {tree : List Event} {c : FormCause} → Leads limit start ts tree K r → Stops limit K r c → (c ≡ TooDeep → ⊥) → NoTree ts
no_tree {limit = limit} {r = r} l s ne other run =
    let rest = follow r (alike_same r) (λ a. fit_whole limit (a ++ r)) l (subst (λ z. DerivesAny other z) (spelled l) run) in
    stuck (λ ks. refl) (fit_whole limit r) (λ t ts h e. let z = e.1 in cc) ne s rest.run

not_possible : {limit : ℕ} {K : List Item} {ts more : List Token} {u : Token} {tree : List Event} {c : FormCause} → Leads limit start ts tree K (u ∷ more)
    → Stops limit K (u ∷ more) c → (c ≡ TooDeep → ⊥) → IsPossible (tokens_of tree ++ (u ∷ [])) → ⊥
not_possible {limit = limit} {more = more} {u = u} l s ne (cut, run) =
    let rest = follow (u ∷ []) (alike_at u [] more) (λ a. fit_broken limit a u []) l run in
    stuck (λ ks. refl) (fit_broken limit [] u []) (λ t ts h e. cons_after [] u [] e) ne s rest.run

too_deep : {limit : ℕ} {K : List Item} {ts more : List Token} {w : Token} {tree : List Event} → Leads limit start ts tree K (w ∷ more)
    → (n : Part) (d : ℕ) (L : List Item) → K ≡ part n d ∷ L → next_in (first n) (w ∷ more) ≡ true → d ≡ limit + 1
    → IsDeepAtLast limit (tokens_of tree ++ (w ∷ [])) × IsPossible (tokens_of tree ++ (w ∷ [])) × ((other : List Event) → DerivesAll limit other ts → ⊥)
unfolding Begun
too_deep {limit = limit} {K = K} {ts = ts} {more = more} {w = w} {tree = tree} l n d L e h far =
    let l' : Leads limit start ts tree (part n d ∷ L) (w ∷ more) = subst (λ z. Leads limit start ts tree z (w ∷ more)) e l in
    let alone = can_begin (suc (rank n)) n d [] w (omega arith) h in
    let whole = can_begin (suc (rank n)) n d L w (omega arith) h in (
      (tree ++ [], extend (w ∷ []) (along_one w more) (λ d le. tt) l' (ends (far, refl, alone.0, alone.1))),
      (tree ++ whole.0, extend (w ∷ []) (along_one w more) (λ d le. tt) l' whole.1),
      (λ other o.
          let rest = follow (w ∷ more) (alike_same (w ∷ more)) (λ a. fit_whole limit (a ++ (w ∷ more))) l' (subst (λ z. DerivesAll limit other z) (spelled l) o) in
          too_low far rest.run),
    )
  where
    too_low : {limit d : ℕ} {n : Part} {L : List Item} {other : List Event} {X : List Token} → d ≡ limit + 1 → Derives (λ d. d ≤ limit) Whole (part n d ∷ L) other X → ⊥
    too_low far (ends e) = let z = e.0 in cc
    too_low far (takes b a o may r) = omega arith

each_and : (ts : List Token) (w : Token) → EachPossible ts → IsPossible (ts ++ (w ∷ [])) → EachPossible (ts ++ (w ∷ []))
each_and ts w each last front v more h = elim (end_of ts w front v more h)
    [ inl e ↦ subst IsPossible e last | inr e ↦ each front v e.0 e.1 ]
  where
    end_of : (ts : List Token) (w : Token) (front : List Token) (v : Token) (more : List Token) → ts ++ (w ∷ []) ≡ front ++ (v ∷ more)
        → (ts ++ (w ∷ []) ≡ front ++ (v ∷ [])) ⊎ ((rest : List Token) × (ts ≡ front ++ (v ∷ rest)))
    end_of [] w [] v more h = let e : w ≡ v = cc in inl (ap (λ z. z ∷ []) e)
    end_of [] w (q ∷ []) v more h = absurd cc
    end_of [] w (q ∷ q' ∷ front) v more h = absurd cc
    end_of (t ∷ ts) w [] v more h = let e : t ≡ v = cc in inr (ts, ap (λ z. z ∷ ts) e)
    end_of (t ∷ ts) w (q ∷ front) v more h =
        let e : t ≡ q = cc in
        let h' : ts ++ (w ∷ []) ≡ front ++ (v ∷ more) = cc in
        elim (end_of ts w front v more h') [ inl f ↦ inl (let g = ap (λ z. t ∷ z) f in cc) | inr f ↦ inr (f.0, let g = f.1 in cc) ]

record IsFar (limit : ℕ) (K : List Item) (r : List Token) : Type 0 where
  of : Part
  depth : ℕ
  behind : List Item
  is : K ≡ part of depth ∷ behind
  begins : next_in (first of) r ≡ true
  far : depth ≡ limit + 1

stop_is : {limit : ℕ} {K : List Item} {r : List Token} {c : FormCause} → Stops limit K r c → (c ≡ cause_at r) ⊎ ((c ≡ TooDeep) × IsFar limit K r)
stop_is (wrong h) = inl refl
stop_is (closed solid h) = inl refl
stop_is (deep {n = n} {d = d} {K = K} h e) = inr (refl, record { of = n; depth = d; behind = K; is = refl; begins = h; far = e })
stop_is over = inl refl

plain : {limit : ℕ} {K : List Item} {ts : List Token} (r : List Token) {tree : List Event} {c : FormCause} → Leads limit start ts tree K r → c ≡ cause_at r → Stops limit K r c
    → Refused limit ts (tokens_of tree) r (cause_at r)
plain {limit = limit} {ts = ts} [] {tree = tree} l e s =
    let same : ts ≡ tokens_of tree = spelled l ∙ append-nil (tokens_of tree) in
    (same, subst (λ z. EachPossible z) (sym same) (each_possible l), no_tree l s (λ h. cc), subst (λ z. NoneDeep limit z) (sym same) (none_deep l))
plain (u ∷ more) l e s =
    (spelled l, each_possible l, not_possible l s (λ h. cc), no_tree l s (λ h. cc), none_deep l)

far_off : {limit : ℕ} {K : List Item} {ts : List Token} (r : List Token) {tree : List Event} → Leads limit start ts tree K r → IsFar limit K r
    → Refused limit ts (tokens_of tree) r TooDeep
far_off [] l f = let h = f.begins in absurd cc
far_off (w ∷ more) {tree = tree} l f =
    let t = too_deep l f.of f.depth f.behind f.is f.begins f.far in
    (spelled l, each_and (tokens_of tree) w (each_possible l) t.1, t.0, t.2, none_deep l)

pub theorem : ((limit : ℕ) (ts : List Token) (tree : List Event) → Leads limit start ts tree [] []
    → DerivesAll limit tree ts × ((other : List Event) → DerivesAny other ts → other ≡ tree) × EachPossible ts × NoneDeep limit ts)
    × ((limit : ℕ) (ts : List Token) (tree : List Event) (K : List Item) (rest : List Token) (c : FormCause) → Leads limit start ts tree K rest → Stops limit K rest c
    → (before : List Token) × Refused limit ts before rest c)
theorem = (
  spells_one,
  λ limit ts tree K rest c l s. (
    tokens_of tree,
    elim (stop_is s) [
      | inl e ↦ subst (λ z. Refused limit ts (tokens_of tree) rest z) (sym e) (plain rest l e s)
      | inr e ↦ subst (λ z. Refused limit ts (tokens_of tree) rest z) (sym e.0) (far_off rest l e.1)
    ],
  ),
)

-- Which form a part must have at the next token.

apart_at : (b c : List Symbol) (bs : List (List Symbol)) (k : Kind) → apart_from b bs ≡ true → OneOf bs c → one_of (heads b) k ≡ true → one_of (heads c) k ≡ true → ⊥
apart_at b c [] k h o p q = elim o [ ]
apart_at b c (c' ∷ bs) k h here p q = differ (heads b) (heads c) k (and_left _ _ h) p q
  where
    differ : (ks js : List Kind) (k : Kind) → disjoint ks js ≡ true → one_of ks k ≡ true → one_of js k ≡ true → ⊥
    differ [] js k d p q = cc
    differ (i ∷ ks) js k d p q = elim (or_false (kind_eq i k) _ p) [
      | inl e ↦ not_true _ (and_left _ _ d) (subst (λ z. one_of js z ≡ true) (sym (kind_equal i k e)) q)
      | inr e ↦ differ ks js k (and_right (not (one_of js i)) _ d) e q
    ]
apart_at b c (c' ∷ bs) k h (there o) p q = apart_at b c bs k (and_right (not (empty b && empty c')) _ (and_right (disjoint (heads b) (heads c')) _ h)) o p q

same_form : (bs : List (List Symbol)) (b c : List Symbol) (k : Kind) → apart bs ≡ true → OneOf bs b → OneOf bs c → one_of (heads b) k ≡ true → one_of (heads c) k ≡ true → c ≡ b
same_form [] b c k h o p x y = elim o [ ]
same_form (b' ∷ bs) b c k h here here x y = refl
same_form (b' ∷ bs) b c k h here (there p) x y = absurd (apart_at b c bs k (and_left _ _ h) p x y)
same_form (b' ∷ bs) b c k h (there o) here x y = absurd (apart_at c b bs k (and_left _ _ h) o y x)
same_form (b' ∷ bs) b c k h (there o) (there p) x y = same_form bs b c k (and_right (apart_from b' bs) _ h) o p x y

-- the next token begins the form
pub picked : (n : Part) (b : List Symbol) (ts : List Token) → OneOf (alternatives n) b → next_in (heads b) ts ≡ true → MustTake n b ts
picked n b [] o h other p may e = absurd cc
picked n b (t ∷ ts) o h [] p may e = let y = in_first n b (kind t) o h in absurd cc
picked n b (t ∷ ts) o h (default g l ∷ c) p may e = let y = in_first n b (kind t) o h in absurd cc
picked n b (t ∷ ts) o h (token q k ∷ c) p may e = same_form (alternatives n) b (token q k ∷ c) (kind t) (are_apart n) o p h e
picked n b (t ∷ ts) o h (same l ∷ c) p may e = same_form (alternatives n) b (same l ∷ c) (kind t) (are_apart n) o p h e
picked n b (t ∷ ts) o h (deeper l ∷ c) p may e = same_form (alternatives n) b (deeper l ∷ c) (kind t) (are_apart n) o p h e

two_defaults : (b c : List Symbol) (bs : List (List Symbol)) → apart_from b bs ≡ true → OneOf bs c → is_default b ≡ true → is_default c ≡ true → ⊥
two_defaults b c [] h o p q = elim o [ ]
two_defaults b c (c' ∷ bs) h here p q = not_true _ (and_left _ _ (and_right (disjoint (heads b) (heads c)) _ h)) (both _ _ p q)
  where
    both : (x y : Bool) → x ≡ true → y ≡ true → (x && y) ≡ true
    both true y p q = q
    both false y p q = cc
two_defaults b c (c' ∷ bs) h (there o) p q = two_defaults b c bs (and_right (not (empty b && empty c')) _ (and_right (disjoint (heads b) (heads c')) _ h)) o p q

one_default : (bs : List (List Symbol)) (b c : List Symbol) → apart bs ≡ true → OneOf bs b → OneOf bs c → is_default b ≡ true → is_default c ≡ true → c ≡ b
one_default [] b c h o p x y = elim o [ ]
one_default (b' ∷ bs) b c h here here x y = refl
one_default (b' ∷ bs) b c h here (there p) x y = absurd (two_defaults b c bs (and_left _ _ h) p x y)
one_default (b' ∷ bs) b c h (there o) here x y = absurd (two_defaults c b bs (and_left _ _ h) o y x)
one_default (b' ∷ bs) b c h (there o) (there p) x y = one_default bs b c (and_right (apart_from b' bs) _ h) o p x y

-- the next token begins no other form, so it is the default
pub by_default : (n : Part) (b : List Symbol) (ts : List Token) → OneOf (alternatives n) b → is_default b ≡ true → next_in (first n) ts ≡ false → MustTake n b ts
by_default n b ts o d h [] p may e = one_default (alternatives n) b [] (are_apart n) o p d refl
by_default n b ts o d h (default g l ∷ c) p may e = one_default (alternatives n) b (default g l ∷ c) (are_apart n) o p d refl
by_default n b ts o d h (token q k ∷ c) p may e = let y = next_in_first n (token q k ∷ c) ts p e in absurd cc
by_default n b ts o d h (same l ∷ c) p may e = let y = next_in_first n (same l ∷ c) ts p e in absurd cc
by_default n b ts o d h (deeper l ∷ c) p may e = let y = next_in_first n (deeper l ∷ c) ts p e in absurd cc
