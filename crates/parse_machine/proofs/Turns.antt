-- How many turns the machine has left at most. A form that is picked leads to the next token, by parts of lower and lower rank; a form for all other tokens leaves fewer turns than its part.
use Rattle.std.specs.Prelude.{ℕ, Bool, true, false, List, [], ◌∷◌, ◌+◌, ◌*◌, ◌-◌, ◌≡◌, ◌≤◌, ◌<◌, ◌&&◌, ◌||◌, not, refl, cond, length, nat_lt}
use Rattle.std.proofs.Common.{sym, ◌∙◌, ap, subst, arith, inl, inr}
use Rattle.std.proofs.lemmas.Bool.Decides.{nat_tests}
use Rattle.comet_syntax.specs.declared.token.Token.{Token}
use Rattle.comet_syntax.specs.Grammar.Kinds.{Kind, kind, next_in}
use Rattle.comet_syntax.specs.Grammar.Symbols.{Part, Symbol, token, same, deeper, default, program, named_simple, dimension_rest, pair_named}
use Rattle.comet_syntax.specs.Grammar.Alternatives.{alternatives}
use Rattle.comet_syntax.specs.Grammar.First.{first}
use Rattle.comet_syntax.specs.Grammar.Heads.{heads}
use Rattle.comet_syntax.specs.Derivation.{Item, want, part, push, OneOf, here, there}
use Rattle.parse_base.specs.Reading.{is_default}
use Rattle.parse_base.proofs.Table.{rank, below, all_below, are_below}
use Rattle.parse_base.proofs.Machine.{and_left, and_right, kind_is, next_in_first}
use Rattle.parse_machine.specs.Choosing.{Chosen, IsNext}
use Rattle.parse_machine.specs.Rows.{Production}

-- the turns of a part where it is read without a token, and one for each that reads one
abbrev weight_of : Part → ℕ
weight_of named_simple = 4
weight_of dimension_rest = 10
weight_of pair_named = 14
weight_of n = 1

abbrev weight : Item → ℕ
weight (want m k) = 1
weight (part n d) = weight_of n

abbrev total : List Item → ℕ
total [] = 0
total (i ∷ K) = weight i + total K

abbrev weight_in : Symbol → ℕ
weight_in (token m k) = 1
weight_in (same n) = weight_of n
weight_in (deeper n) = weight_of n
weight_in (default b n) = weight_of n

abbrev sum : List Symbol → ℕ
sum [] = 0
sum (s ∷ f) = weight_in s + sum f

-- whether the next token is sure to be read by the item, and through how many parts at most
abbrev begins : Item → List Token → Bool
begins (want m k) ts = next_in (k ∷ []) ts
begins (part n d) ts = next_in (first n) ts

abbrev height : Item → ℕ
height (want m k) = 0
height (part n d) = rank n + 1

abbrev ahead : Item → List Token → ℕ
ahead i ts = cond (begins i ts) (128 * (length ts - 1) + 16 * height i) (128 * length ts)

abbrev pub turns : List Item → List Token → ℕ
turns [] ts = 0
turns (i ∷ K) ts = weight i + (total K + ahead i ts)

-- what is true of this grammar, by computation
abbrev light : List (List Symbol) → Bool
light [] = true
light (b ∷ bs) = nat_lt (sum b) 16 && light bs

all_light : (n : Part) → light (alternatives n) ≡ true
all_light program = refl
all_light _ = refl

abbrev lighter : ℕ → List (List Symbol) → Bool
lighter w [] = true
lighter w (b ∷ bs) = (not (is_default b) || nat_lt (sum b) w) && lighter w bs

all_lighter : (n : Part) → lighter (weight_of n) (alternatives n) ≡ true
all_lighter program = refl
all_lighter _ = refl

low_rank : (n : Part) → nat_lt (rank n) 7 ≡ true
low_rank program = refl
low_rank _ = refl

lt_of : (a b : ℕ) → nat_lt a b ≡ true → a < b
lt_of a b h = grind (arith, nat_tests)

light_in : (bs : List (List Symbol)) (b : List Symbol) → light bs ≡ true → OneOf bs b → sum b < 16
light_in [] b h o = elim o [ ]
light_in (c ∷ bs) b h here = lt_of (sum c) 16 (and_left (nat_lt (sum c) 16) (light bs) h)
light_in (c ∷ bs) b h (there o) = light_in bs b (and_right (nat_lt (sum c) 16) (light bs) h) o

lighter_in : (w : ℕ) (bs : List (List Symbol)) (b : List Symbol) → lighter w bs ≡ true → OneOf bs b → is_default b ≡ true → sum b < w
lighter_in w [] b h o d = elim o [ ]
lighter_in w (c ∷ bs) b h here d = lt_of (sum c) w (if_so (is_default c) (nat_lt (sum c) w) d (and_left (not (is_default c) || nat_lt (sum c) w) (lighter w bs) h))
  where
    if_so : (a b : Bool) → a ≡ true → (not a || b) ≡ true → b ≡ true
    if_so true b e h = h
    if_so false b e h = absurd cc
lighter_in w (c ∷ bs) b h (there o) d = lighter_in w bs b (and_right (not (is_default c) || nat_lt (sum c) w) (lighter w bs) h) o d

below_in : (r : ℕ) (bs : List (List Symbol)) (b : List Symbol) → all_below r bs ≡ true → OneOf bs b → below r b ≡ true
below_in r [] b h o = elim o [ ]
below_in r (c ∷ bs) b h here = and_left (below r c) (all_below r bs) h
below_in r (c ∷ bs) b h (there o) = below_in r bs b (and_right (below r c) (all_below r bs) h) o

total_push : (f : List Symbol) (d : ℕ) (K : List Item) → total (push f d K) ≡ sum f + total K
total_push [] d K = omega arith
total_push (token m k ∷ f) d K = let e = total_push f d K in omega (arith, e)
total_push (same n ∷ f) d K = let e = total_push f d K in omega (arith, e)
total_push (deeper n ∷ f) d K = let e = total_push f d K in omega (arith, e)
total_push (default b n ∷ f) d K = let e = total_push f d K in omega (arith, e)

cond_most : (b : Bool) (x y : ℕ) → x ≤ y → cond b x y ≤ y
cond_most true x y h = h
cond_most false x y h = omega arith

ahead_most : (i : Item) (ts : List Token) → ahead i ts ≤ 128 * length ts
ahead_most (want m k) [] = omega arith
ahead_most (want m k) (t ∷ ts) = cond_most (next_in (k ∷ []) (t ∷ ts)) (128 * (length (t ∷ ts) - 1) + 16 * 0) (128 * length (t ∷ ts)) (omega arith)
ahead_most (part n d) [] = omega arith
ahead_most (part n d) (t ∷ ts) =
    let low = lt_of (rank n) 7 (low_rank n) in
    cond_most (next_in (first n) (t ∷ ts)) (128 * (length (t ∷ ts) - 1) + 16 * (rank n + 1)) (128 * length (t ∷ ts)) (omega (arith, low))

at_most : (K : List Item) (ts : List Token) → turns K ts ≤ total K + 128 * length ts
at_most [] ts = omega arith
at_most (i ∷ K) ts = let h = ahead_most i ts in omega (arith, h)

-- where an item is sure to read the next token
begun : (i : Item) (K : List Item) (ts : List Token) → begins i ts ≡ true → turns (i ∷ K) ts ≡ weight i + (total K + (128 * (length ts - 1) + 16 * height i))
begun i K ts h = ap (λ z. weight i + (total K + cond z (128 * (length ts - 1) + 16 * height i) (128 * length ts))) h

-- a token is read
pub fewer_read : {m : Bool} {k : Kind} {K L : List Item} {ts rest : List Token} → L ≡ want m k ∷ K → IsNext ts k rest → turns K rest < turns L ts
fewer_read {m} {k} {K} {L} {ts} {rest} is n =
    let here_is : next_in (k ∷ []) ts ≡ true = subst (λ z. next_in (k ∷ []) z ≡ true) (sym n.is) (kind_is (kind n.next) k n.kind_is) in
    let old : turns L ts ≡ 1 + (total K + (128 * (length ts - 1) + 16 * 0)) = ap (λ z. turns z ts) is ∙ begun (want m k) K ts here_is in
    let size : length ts ≡ length rest + 1 = ap length n.is ∙ omega arith in
    let most = at_most K rest in
    omega (arith, old, size, most)

-- a part has a form for all other tokens
fewer_default : (n : Part) (d : ℕ) (K : List Item) (ts : List Token) (body : List Symbol) → OneOf (alternatives n) body → is_default body ≡ true → next_in (first n) ts ≡ false
    → turns (push body d K) ts < turns (part n d ∷ K) ts
fewer_default n d K ts body o e h =
    let old : turns (part n d ∷ K) ts ≡ weight_of n + (total K + 128 * length ts) = ap (λ z. weight_of n + (total K + cond z (128 * (length ts - 1) + 16 * (rank n + 1)) (128 * length ts))) h in
    let most = at_most (push body d K) ts in
    let all = total_push body d K in
    let less = lighter_in (weight_of n) (alternatives n) body (all_lighter n) o e in
    omega (arith, old, most, all, less)

nothing_begins : (ts : List Token) → next_in [] ts ≡ true → ⊥
nothing_begins [] h = cc
nothing_begins (t ∷ ts) h = cc

-- a part has the form that the next token begins
fewer_picked : (n : Part) (d : ℕ) (K : List Item) (ts : List Token) (body : List Symbol) → OneOf (alternatives n) body → next_in (heads body) ts ≡ true
    → turns (push body d K) ts < turns (part n d ∷ K) ts
fewer_picked n d K ts [] o h = absurd (nothing_begins ts h)
fewer_picked n d K ts (default b l ∷ f) o h = absurd (nothing_begins ts h)
fewer_picked n d K ts (token m k ∷ f) o h =
    let old = begun (part n d) K ts (next_in_first n (token m k ∷ f) ts o h) in
    let new = begun (want m k) (push f d K) ts h in
    let all = total_push f d K in
    let less = light_in (alternatives n) (token m k ∷ f) (all_light n) o in
    omega (arith, old, new, all, less)
fewer_picked n d K ts (same l ∷ f) o h =
    let old = begun (part n d) K ts (next_in_first n (same l ∷ f) ts o h) in
    let new = begun (part l d) (push f d K) ts h in
    let all = total_push f d K in
    let less = light_in (alternatives n) (same l ∷ f) (all_light n) o in
    let lower = lt_of (rank l) (rank n) (below_in (rank n) (alternatives n) (same l ∷ f) (are_below n) o) in
    omega (arith, old, new, all, less, lower)
fewer_picked n d K ts (deeper l ∷ f) o h =
    let old = begun (part n d) K ts (next_in_first n (deeper l ∷ f) ts o h) in
    let new = begun (part l (d + 1)) (push f d K) ts h in
    let all = total_push f d K in
    let less = light_in (alternatives n) (deeper l ∷ f) (all_light n) o in
    let lower = lt_of (rank l) (rank n) (below_in (rank n) (alternatives n) (deeper l ∷ f) (are_below n) o) in
    omega (arith, old, new, all, less, lower)

-- a part has its form
pub fewer_chosen : {n : Part} {d : ℕ} {K K' L : List Item} {ts : List Token} {p : Production} → L ≡ part n d ∷ K → K' ≡ push p.body d K → Chosen n d ts p → turns K' ts < turns L ts
fewer_chosen {n} {d} {K} {K'} {L} {ts} {p} is pushed c = subst (λ z. turns K' ts < turns z ts) (sym is) (subst (λ z. turns z ts < turns (part n d ∷ K) ts) (sym pushed) fewer)
  where
    fewer : turns (push p.body d K) ts < turns (part n d ∷ K) ts
    fewer = elim c.how [ inl h ↦ fewer_picked n d K ts p.body c.among h | inr h ↦ fewer_default n d K ts p.body c.among h.0 h.1 ]
