-- A listing, from its end: what its last event shows, and which item it answers.
use Rattle.std.specs.Prelude.{ℕ, Bool, true, false, List, [], ◌∷◌, ◌++◌, ◌+◌, ◌≡◌, ◌<◌, length, refl}
use Rattle.std.proofs.Common.{sym, ◌∙◌, ap, subst, arith}
use Rattle.std.proofs.lemmas.List.{length-append}
use Rattle.comet_syntax.specs.declared.token.Token.{Token}
use Rattle.comet_syntax.specs.Grammar.Kinds.{Kind, kind}
use Rattle.comet_syntax.specs.Derivation.{Item, want, part}
use Rattle.comet_syntax.specs.Written.Shown.{Shown, form, shown}
use Rattle.parse_base.specs.Promise.{Carries, waits, gains, settles}
use Rattle.parse_machine.specs.declared.event.Event.{Event}
use Rattle.parse_machine.specs.declared.event.Event.TheVariants as events
use Rattle.parse_machine.specs.declared.form.Form.{Form}
use Rattle.parse_machine.specs.Forms.{part_in, body_in}
use Rattle.parse_machine.specs.Listing.{reads, shown_all}
use Rattle.parse_machine.specs.Undoing.{after, items_after, Needs}

pub reads-append : (log more : List Event) → reads (log ++ more) ≡ reads log + reads more
reads-append [] more = omega arith
reads-append (events.Chose f ∷ log) more = reads-append log more
reads-append (events.Read m ∷ log) more = let e = reads-append log more in omega (arith, e)

-- what more events show, behind the tokens that the first ones read
pub shown_all-append : (log more : List Event) (front ts : List Token) → reads log ≡ length front → shown_all (log ++ more) (front ++ ts) ≡ shown_all log front ++ shown_all more ts
shown_all-append [] more [] ts h = refl
shown_all-append [] more (t ∷ front) ts h = absurd (omega (arith, h))
shown_all-append (events.Chose f ∷ log) more front ts h = ap (λ z. form (part_in f) (body_in f) ∷ z) (shown_all-append log more front ts h)
shown_all-append (events.Read m ∷ log) more [] ts h = absurd (omega (arith, h))
shown_all-append (events.Read m ∷ log) more (t ∷ front) ts h = ap (λ z. shown m t ∷ z) (shown_all-append log more front ts (omega (arith, h)))

no_more : {A : Type 0} (xs : List A) → xs ++ [] ≡ xs
no_more [] = refl
no_more (x ∷ xs) = ap (λ z. x ∷ z) (no_more xs)

-- The last event chose a form: it read no token.
pub reads_chose : (log : List Event) (f : Form) → reads (log ++ (events.Chose f ∷ [])) ≡ reads log
reads_chose log f = let e = reads-append log (events.Chose f ∷ []) in omega (arith, e)

pub shown_chose : (log : List Event) (f : Form) (ts : List Token) → reads log ≡ length ts
    → shown_all (log ++ (events.Chose f ∷ [])) ts ≡ shown_all log ts ++ (form (part_in f) (body_in f) ∷ [])
shown_chose log f ts h =
    ap (shown_all (log ++ (events.Chose f ∷ []))) (sym (no_more ts)) ∙ shown_all-append log (events.Chose f ∷ []) ts [] h

-- The last event read a token: there is a last one, the others were read before, and it is shown.
pub reads_read : (log : List Event) (m : Bool) → reads (log ++ (events.Read m ∷ [])) ≡ reads log + 1
reads_read log m = let e = reads-append log (events.Read m ∷ []) in omega (arith, e)

pub some_token : (log : List Event) (m : Bool) (ts : List Token) → reads (log ++ (events.Read m ∷ [])) ≡ length ts → 0 < length ts
some_token log m ts h = let e = reads_read log m in omega (arith, e, h)

pub reads_before : (log : List Event) (m : Bool) (front : List Token) (t : Token) → reads (log ++ (events.Read m ∷ [])) ≡ length (front ++ (t ∷ [])) → reads log ≡ length front
reads_before log m front t h =
    let e = reads_read log m in
    let size = length-append front (t ∷ []) in
    omega (arith, e, size, h)

pub shown_read : (log : List Event) (m : Bool) (front : List Token) (t : Token) → reads log ≡ length front
    → shown_all (log ++ (events.Read m ∷ [])) (front ++ (t ∷ [])) ≡ shown_all log front ++ (shown m t ∷ [])
shown_read log m front t h = shown_all-append log (events.Read m ∷ []) front (t ∷ []) h

-- one event more
pub items_after_one : (L : List Shown) (x : Shown) (K : List Item) → items_after (L ++ (x ∷ [])) K ≡ after x (items_after L K)
items_after_one [] x K = refl
items_after_one (y ∷ L) x K = items_after_one L x (after y K)

token_needs : (m : Bool) (t : Token) (k : Kind) (K : List Item) → kind t ≡ k → Needs (shown m t) (want m k ∷ K)
token_needs false t k K e = record { behind = K; is = ap (λ z. want false z ∷ K) (sym e) }
token_needs true t k K e = record { behind = K; is = ap (λ z. want true z ∷ K) (sym e) }

pub token_after : (m : Bool) (t : Token) (k : Kind) (K : List Item) → after (shown m t) (want m k ∷ K) ≡ K
token_after false t k K = refl
token_after true t k K = refl

pub heads_same : {A : Type 0} {x y : A} {xs ys : List A} → x ∷ xs ≡ y ∷ ys → x ≡ y
heads_same e = cc

pub tails_same : {A : Type 0} {x y : A} {xs ys : List A} → x ∷ xs ≡ y ∷ ys → xs ≡ ys
tails_same e = cc

-- what is read leads to the items that it leaves to come
pub items_after_all : {limit : ℕ} {K K' : List Item} {ts r : List Token} {tree : List Shown} → Carries limit K ts tree K' r → items_after tree K ≡ K'
items_after_all waits = refl
items_after_all (gains {m = m} {k = k} {K = K} {t = t} {tree = tree} h l) = ap (items_after tree) (token_after m t k K) ∙ items_after_all l
items_after_all (settles body le o may must l) = items_after_all l

-- and each event on the way answers the item that comes next there
pub needs : {limit : ℕ} {K K' : List Item} {ts r : List Token} {tree : List Shown} → Carries limit K ts tree K' r
    → (front : List Shown) (x : Shown) (rest : List Shown) → tree ≡ front ++ (x ∷ rest) → Needs x (items_after front K)
needs waits [] x rest e = absurd cc
needs (gains {m = m} {k = k} {K = K} {t = t} h l) [] x rest e = subst (λ z. Needs z (want m k ∷ K)) (heads_same e) (token_needs m t k K h)
needs (settles {n = n} {d = d} {K = K} body le o may must l) [] x rest e = subst (λ z. Needs z (part n d ∷ K)) (heads_same e) (record { depth = d; behind = K; is = refl })
needs waits (y ∷ front) x rest e = absurd cc
needs (gains {m = m} {k = k} {K = K} {t = t} h l) (y ∷ front) x rest e =
    subst (λ z. Needs x (items_after front (after z (want m k ∷ K)))) (heads_same e)
    (subst (λ z. Needs x (items_after front z)) (sym (token_after m t k K)) (needs l front x rest (tails_same e)))
needs (settles {n = n} {d = d} {K = K} body le o may must l) (y ∷ front) x rest e =
    subst (λ z. Needs x (items_after front (after z (part n d ∷ K)))) (heads_same e) (needs l front x rest (tails_same e))
