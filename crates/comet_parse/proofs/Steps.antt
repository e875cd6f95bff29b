-- The steps of undoing a listing from its end.
use Rattle.std.specs.Prelude.{ℕ, ℤ, Bool, true, false, List, [], ◌∷◌, ◌++◌, ◌&&◌, ◌≡◌, ◌<◌, length, reverse, refl}
use Rattle.std.proofs.Common.{sym, ◌∙◌, ap, subst, arith, append_assoc}
use Rattle.std.specs.declared.alloc.Global.{Global}
use Rattle.std.specs.declared.vec.Vec.{Vec}
use Rattle.cbl_base.specs.declared.limits.TheConstants.{MAX_NESTING}
use denote.Enum.Declared.{tag_of}
use Rattle.cbl_base.specs.declared.place.Place.{Place}
use Rattle.comet_syntax.specs.contracts.token.Word.{the_type}
use Rattle.comet_syntax.specs.declared.token.Token.{Token}
use Rattle.comet_syntax.specs.declared.token.TokenKind.{TokenKind}
use Rattle.comet_syntax.specs.declared.token.TokenKind.TheVariants as kinds
use Rattle.comet_syntax.specs.declared.token.Word.{Word}
use Rattle.comet_syntax.specs.declared.token.Word.TheVariants as words
use Rattle.comet_syntax.specs.declared.tree.program.TopPart.{TopPart}
use Rattle.comet_syntax.specs.Grammar.Alternatives.{alternatives}
use Rattle.comet_syntax.specs.Grammar.First.{first}
use Rattle.comet_syntax.specs.Grammar.Kinds.{Kind, a_name, a_number, a_string, numbered_word, kind_of, next_in}
use Rattle.comet_syntax.specs.Grammar.Symbols.{Part, Symbol, token, same, deeper, default, program}
use Rattle.comet_syntax.specs.Derivation.{Item, want, part, push, OneOf, here, there, MayTake}
use Rattle.comet_syntax.specs.Refusal.{start}
use Rattle.comet_syntax.specs.Written.Shown.{Shown, form, plain, placed, shown}
use Rattle.comet_syntax.specs.Written.Expressions.{Writing, written, number}
use Rattle.comet_syntax.specs.Written.Programs.{all_tops}
use Rattle.parse_base.specs.Promise.{Carries, waits, gains, settles}
use Rattle.parse_base.proofs.Machine.{and_left, and_right}
use Rattle.parse_machine.specs.declared.event.Event.{Event}
use Rattle.parse_machine.specs.declared.event.Event.TheVariants as events
use Rattle.parse_machine.specs.declared.form.Form.{Form}
use Rattle.parse_machine.specs.Forms.{part_in, body_in}
use Rattle.parse_machine.specs.Listing.{reads, shown_all}
use Rattle.parse_machine.specs.Undoing.{after, items_after, Needs, NeedsPart, NeedsToken}
use Rattle.parse_machine.proofs.Undoing.{reads_chose, shown_chose, reads_before, shown_read, some_token, items_after_one, items_after_all, needs, heads_same, tails_same, token_after}
use Rattle.parse_stacks.specs.Standing.{Stands, MayStand, next_shown, word_numbered}
use Rattle.parse_stacks.specs.Texts.{number_text}
use Rattle.parse_stacks.specs.Undoing.{Takes, Undoes}
use Rattle.parse_stacks.specs.Values.{State}
use Rattle.parse_stacks.proofs.Undone.{undone_form, ready_form}
use Rattle.comet_parse.specs.Building.{Building}
use Rattle.comet_parse.specs.Keeping.{KeepsKind, Keeps}
use Rattle.comet_parse.specs.Made.{Made}
use Rattle.comet_parse.proofs.Forms.{forms_fit}

-- the tokens that forms want: names and numbers with their places, strings without
abbrev usual : Bool → Kind → Bool
usual m (numbered_word w) = true
usual m a_name = m
usual m a_number = m
usual true a_string = false
usual false a_string = true

abbrev usual_form : List Symbol → Bool
usual_form [] = true
usual_form (token m k ∷ body) = usual m k && usual_form body
usual_form (same n ∷ body) = usual_form body
usual_form (deeper n ∷ body) = usual_form body
usual_form (default b n ∷ body) = usual_form body

abbrev usual_forms : List (List Symbol) → Bool
usual_forms [] = true
usual_forms (b ∷ bs) = usual_form b && usual_forms bs

all_usual : (n : Part) → usual_forms (alternatives n) ≡ true
all_usual program = refl
all_usual _ = refl

usual_in : (bs : List (List Symbol)) (f : List Symbol) → usual_forms bs ≡ true → OneOf bs f → usual_form f ≡ true
usual_in [] f w o = elim o [ ]
usual_in (b ∷ bs) f w here = and_left (usual_form b) (usual_forms bs) w
usual_in (b ∷ bs) f w (there o) = usual_in bs f (and_right (usual_form b) (usual_forms bs) w) o

abbrev Usual : List Item → Type 0
Usual [] = Unit {0}
Usual (want m k ∷ items) = (usual m k ≡ true) × Usual items
Usual (part n d ∷ items) = Usual items

usual_push : (body : List Symbol) (d : ℕ) (items : List Item) → usual_form body ≡ true → Usual items → Usual (push body d items)
usual_push [] d items w u = u
usual_push (token m k ∷ body) d items w u = (and_left (usual m k) (usual_form body) w, usual_push body d items (and_right (usual m k) (usual_form body) w) u)
usual_push (same n ∷ body) d items w u = usual_push body d items w u
usual_push (deeper n ∷ body) d items w u = usual_push body d items w u
usual_push (default h n ∷ body) d items w u = usual_push body d items w u

-- on the way only usual tokens are wanted
usual_on : {limit : ℕ} {K K' : List Item} {ts r : List Token} {tree : List Shown} → Carries limit K ts tree K' r
    → (front rest : List Shown) → tree ≡ front ++ rest → Usual K → Usual (items_after front K)
usual_on waits [] rest e u = u
usual_on (gains h l) [] rest e u = u
usual_on (settles body le o may must l) [] rest e u = u
usual_on waits (y ∷ front) rest e u = absurd cc
usual_on (gains {m = m} {k = k} {K = K} {t = t} h l) (y ∷ front) rest e u =
    subst (λ z. Usual (items_after front (after z (want m k ∷ K)))) (heads_same e) (subst (λ z. Usual (items_after front z)) (sym (token_after m t k K)) (usual_on l front rest (tails_same e) u.1))
usual_on (settles {n = n} {d = d} {K = K} body le o may must l) (y ∷ front) rest e u =
    subst (λ z. Usual (items_after front (after z (part n d ∷ K)))) (heads_same e)
    (usual_on l front rest (tails_same e) (usual_push body d K (usual_in (alternatives n) body (all_usual n) o) u))

-- where all tokens are read, the next one of a listing is the next one
next_is : {limit : ℕ} {K : List Item} {ts : List Token} {tree : List Shown} (ks : List Kind) → Carries limit K ts tree [] [] → next_shown ks tree ≡ next_in ks ts
next_is ks waits = refl
next_is ks (gains {m = true} h l) = refl
next_is ks (gains {m = false} h l) = refl
next_is ks (settles body le o may must l) = next_is ks l

may_here : {limit : ℕ} (n : Part) (d : ℕ) (K : List Item) {ts : List Token} {tree : List Shown} (body : List Symbol) → MayTake n body ts → Carries limit (push body d K) ts tree [] [] → MayStand n body tree
may_here n d K [] may l = next_is (first n) l ∙ may
may_here n d K (default b m ∷ body) may l = next_is (first n) l ∙ may
may_here n d K (token m k ∷ body) may l = tt
may_here n d K (same m ∷ body) may l = tt
may_here n d K (deeper m ∷ body) may l = tt

form_body : {n m : Part} {b c : List Symbol} → form n b ≡ form m c → (n ≡ m) × (b ≡ c)
form_body e = (cc, cc)

not_token : {A : Type 0} (m : Bool) (t : Token) {n : Part} {b : List Symbol} → shown m t ≡ form n b → A
not_token true t e = absurd cc
not_token false t e = absurd cc

may_on : {limit : ℕ} {K : List Item} {ts : List Token} {tree : List Shown} → Carries limit K ts tree [] [] → (front : List Shown) (n : Part) (b : List Symbol) (rest : List Shown) → tree ≡ front ++ (form n b ∷ rest) → MayStand n b rest
may_on waits [] n b rest e = absurd cc
may_on (gains {m = m} {t = t} h l) [] n b rest e = not_token m t (heads_same e)
may_on (settles {n = q} {d = d} {K = K} {tree = tree} body le o may must l) [] n b rest e =
    let f = form_body (heads_same e) in
    subst (λ z. MayStand z b rest) f.0 (subst (λ z. MayStand q z rest) f.1 (subst (MayStand q body) (tails_same e) (may_here q d K body may l)))
may_on waits (y ∷ front) n b rest e = absurd cc
may_on (gains h l) (y ∷ front) n b rest e = may_on l front n b rest (tails_same e)
may_on (settles body le o may must l) (y ∷ front) n b rest e = may_on l front n b rest (tails_same e)

-- a token that is kept stands on the stacks
word_is : (w : Word) → word_numbered (tag_of the_type w) ≡ w
word_is words.LeftParenthesis = refl
word_is _ = refl

-- a token, as it is shown
abbrev showing : Bool → TokenKind → Place → Shown
showing true k p = placed k p
showing false k p = plain k

showing_is : (m : Bool) (t : Token) → showing m t.kind t.place ≡ shown m t
showing_is true t = refl
showing_is false t = refl

number_shown : (w : Writing) (v : ℤ) (p : Place) → w ≡ number v p → (L : List Shown) → placed (kinds.Number v) p ∷ L ≡ number_text w L
number_shown w v p e L = ap (λ z. number_text z L) (sym e)

kept_stands : (m : Bool) (k : TokenKind) (p : Place) (items : List Item) (a b : State) (L : List Shown) → usual m (kind_of k) ≡ true → KeepsKind m k p a b → Stands items a L
    → Stands (want m (kind_of k) ∷ items) b (showing m k p ∷ L)
kept_stands true (kinds.Name text) p items a b L u (n, e, d, top, rest) s =
    (n, a.names, top, (L, ap (λ z. placed (kinds.Name z) p ∷ L) (sym e) ∙ ap (λ z. placed (kinds.Name n.text) z ∷ L) (sym d), tt, subst (λ z. Stands items z L) (sym rest) s))
kept_stands false (kinds.Name text) p items a b L u h s = absurd cc
kept_stands true (kinds.Number v) p items a b L u (e, w, top, rest) s =
    (e, a.expressions, top, (L, number_shown (written e) v p w L, (v, p, w), subst (λ z. Stands items z L) (sym rest) s))
kept_stands false (kinds.Number v) p items a b L u h s = absurd cc
kept_stands true (kinds.Str text) p items a b L u h s = absurd cc
kept_stands false (kinds.Str text) p items a b L u (top, rest) s = (text, a.texts, top, (L, refl, tt, subst (λ z. Stands items z L) (sym rest) s))
kept_stands true (kinds.Word w) p items a b L u (top, rest) s =
    (p, a.places, top, (L, ap (λ z. placed (kinds.Word z) p ∷ L) (sym (word_is w)), tt, subst (λ z. Stands items z L) (sym rest) s))
kept_stands false (kinds.Word w) p items a b L u h s = (L, ap (λ z. plain (kinds.Word z) ∷ L) (sym (word_is w)), tt, subst (λ z. Stands items z L) (sym h) s)

-- at the start
none_behind : {A : Type 0} (xs : List A) → xs ++ [] ≡ xs
none_behind [] = refl
none_behind (x ∷ xs) = ap (λ z. x ∷ z) (none_behind xs)

pub begun : (log : List Event) (ts : List Token) (st : State) → reads log ≡ length ts → Carries MAX_NESTING start ts (shown_all log ts) [] [] → Building (shown_all log ts) log ts st
begun log ts st r run = record {
  undone = [];
  whole = sym (none_behind (shown_all log ts));
  all_read = r;
  stands = subst (λ z. Stands z st []) (sym (items_after_all run)) refl;
}

-- the last event chose a form
record Chose (all : List Shown) (log' : List Event) (f : Form) (ts : List Token) (st : State) : Type 0 where
  undone : List Shown
  whole : all ≡ shown_all log' ts ++ (form (part_in f) (body_in f) ∷ undone)
  all_read : reads log' ≡ length ts
  depth : ℕ
  behind : List Item
  items_are : items_after (shown_all log' ts) start ≡ part (part_in f) depth ∷ behind
  stands : Stands (push (body_in f) depth behind) st undone

chose : (all : List Shown) (tokens ts : List Token) (log log' : List Event) (f : Form) (st : State) → Carries MAX_NESTING start tokens all [] [] → log ≡ log' ++ (events.Chose f ∷ []) → Building all log ts st → Chose all log' f ts st
chose all tokens ts log log' f st run e b =
    let r : reads log' ≡ length ts = sym (reads_chose log' f) ∙ (ap reads (sym e) ∙ b.all_read) in
    let x : Shown = form (part_in f) (body_in f) in
    let s : shown_all log ts ≡ shown_all log' ts ++ (x ∷ []) = ap (λ z. shown_all z ts) e ∙ shown_chose log' f ts r in
    let w : all ≡ shown_all log' ts ++ (x ∷ b.undone) = b.whole ∙ (ap (λ z. z ++ b.undone) s ∙ append_assoc (shown_all log' ts) (x ∷ []) b.undone) in
    let n : NeedsPart (part_in f) (items_after (shown_all log' ts) start) = needs run (shown_all log' ts) x b.undone w in
    let i : items_after (shown_all log ts) start ≡ push (body_in f) n.depth n.behind = ap (λ z. items_after z start) s ∙ (items_after_one (shown_all log' ts) x start ∙ ap (after x) n.is) in
    record { undone = b.undone; whole = w; all_read = r; depth = n.depth; behind = n.behind; items_are = n.is; stands = subst (λ z. Stands z st b.undone) i b.stands }

pub ready_chose : (all : List Shown) (tokens ts : List Token) (log log' : List Event) (f : Form) (st : State) → Carries MAX_NESTING start tokens all [] [] → log ≡ log' ++ (events.Chose f ∷ []) → Building all log ts st
    → Takes (body_in f) st (λ v b. Unit {0})
ready_chose all tokens ts log log' f st run e b = let h = chose all tokens ts log log' f st run e b in ready_form (body_in f) h.depth h.behind st h.undone h.stands

pub done_chose : (all : List Shown) (tokens ts : List Token) (log log' : List Event) (f : Form) (st st' : State) → Carries MAX_NESTING start tokens all [] [] → log ≡ log' ++ (events.Chose f ∷ []) → Building all log ts st
    → Undoes (part_in f) (body_in f) (Made f) st st' → Building all log' ts st'
done_chose all tokens ts log log' f st st' run e b u =
    let h = chose all tokens ts log log' f st run e b in
    let may : MayStand (part_in f) (body_in f) h.undone = may_on run (shown_all log' ts) (part_in f) (body_in f) h.undone h.whole in
    record {
      undone = form (part_in f) (body_in f) ∷ h.undone;
      whole = h.whole;
      all_read = h.all_read;
      stands = subst (λ z. Stands z st' (form (part_in f) (body_in f) ∷ h.undone)) (sym h.items_are)
          (undone_form (part_in f) (body_in f) (Made f) (forms_fit f) h.depth h.behind st st' h.undone may h.stands u);
    }

-- the last event read a token
pub some_read : (all : List Shown) (ts : List Token) (log log' : List Event) (m : Bool) (st : State) → log ≡ log' ++ (events.Read m ∷ []) → Building all log ts st → 0 < length ts
some_read all ts log log' m st e b = some_token log' m ts (ap reads (sym e) ∙ b.all_read)

needs_kind : (m : Bool) (t : Token) (K : List Item) → Needs (shown m t) K → NeedsToken m t.kind K
needs_kind true t K n = n
needs_kind false t K n = n

after_kind : (m : Bool) (t : Token) (k : Kind) (K : List Item) → after (shown m t) (want m k ∷ K) ≡ K
after_kind true t k K = refl
after_kind false t k K = refl

pub done_read : (all : List Shown) (tokens ts front : List Token) (log log' : List Event) (m : Bool) (t : Token) (st st' : State) → Carries MAX_NESTING start tokens all [] [] → log ≡ log' ++ (events.Read m ∷ []) → ts ≡ front ++ (t ∷ [])
    → Building all log ts st → Keeps m t st st' → Building all log' front st'
done_read all tokens ts front log log' m t st st' run e d b k =
    let r : reads log' ≡ length front = reads_before log' m front t (ap reads (sym e) ∙ (b.all_read ∙ ap length d)) in
    let s : shown_all log ts ≡ shown_all log' front ++ (shown m t ∷ []) = ap (λ z. shown_all z ts) e ∙ (ap (shown_all (log' ++ (events.Read m ∷ []))) d ∙ shown_read log' m front t r) in
    let w : all ≡ shown_all log' front ++ (shown m t ∷ b.undone) = b.whole ∙ (ap (λ z. z ++ b.undone) s ∙ append_assoc (shown_all log' front) (shown m t ∷ []) b.undone) in
    let n : NeedsToken m t.kind (items_after (shown_all log' front) start) = needs_kind m t (items_after (shown_all log' front) start) (needs run (shown_all log' front) (shown m t) b.undone w) in
    let i : items_after (shown_all log ts) start ≡ n.behind =
    ap (λ z. items_after z start) s ∙ (items_after_one (shown_all log' front) (shown m t) start ∙ (ap (after (shown m t)) n.is ∙ after_kind m t (kind_of t.kind) n.behind)) in
    let u : Usual (want m (kind_of t.kind) ∷ n.behind) = subst Usual n.is (usual_on run (shown_all log' front) (shown m t ∷ b.undone) w tt) in
    let k' : Stands (want m (kind_of t.kind) ∷ n.behind) st' (showing m t.kind t.place ∷ b.undone) =
    kept_stands m t.kind t.place n.behind st st' b.undone u.0 k (subst (λ z. Stands z st b.undone) i b.stands) in
    record {
      undone = shown m t ∷ b.undone;
      whole = w;
      all_read = r;
      stands = subst (λ z. Stands z st' (shown m t ∷ b.undone)) (sym n.is) (subst (λ z. Stands (want m (kind_of t.kind) ∷ n.behind) st' (z ∷ b.undone)) (showing_is m t) k');
    }

-- nothing is left
record Ended (all : List Shown) (st : State) : Type 0 where
  parts : Vec TopPart Global
  others : List (Vec TopPart Global)
  top : st.programs ≡ parts ∷ others
  is : all ≡ all_tops (reverse parts.items) []

ended : (all : List Shown) (ts : List Token) (log : List Event) (st : State) → log ≡ [] → Building all log ts st → Ended all st
ended all ts log st e b =
    let n : shown_all log ts ≡ [] = ap (λ z. shown_all z ts) e in
    let s : Stands start st b.undone = subst (λ z. Stands (items_after z start) st b.undone) n b.stands in
    record { parts = s.0; others = s.1; top = s.2; is = b.whole ∙ (ap (λ z. z ++ b.undone) n ∙ (s.3.1 ∙ ap (all_tops (reverse s.0.items)) s.3.3)) }

pub some_program : (all : List Shown) (ts : List Token) (log : List Event) (st : State) → log ≡ [] → Building all log ts st → 0 < length st.programs
some_program all ts log st e b = let h = ended all ts log st e b in let n = ap length h.top in omega (arith, n)

pub built : (all : List Shown) (ts : List Token) (log : List Event) (st : State) (parts : Vec TopPart Global) (others : List (Vec TopPart Global)) → log ≡ [] → Building all log ts st → st.programs ≡ parts ∷ others
    → all_tops (reverse parts.items) [] ≡ all
built all ts log st parts others e b top = let h = ended all ts log st e b in ap (λ z. all_tops (reverse z.items) []) (heads_same (sym top ∙ h.top)) ∙ sym h.is
