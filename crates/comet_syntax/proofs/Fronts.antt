-- What stands at the front of a text, and that it is one thing at most.
use Rattle.std.specs.Prelude.{◌≡◌, ◌≤◌, ◌==◌, ◌&&◌, ◌||◌, ℕ, Bool, true, false, not, List, [], ◌∷◌, ◌++◌, length, take, drop, codes, refl}
use Rattle.std.specs.List.{list_all}
use Rattle.std.proofs.Common.{arith, ap, sym, ◌∙◌, subst}
use Rattle.std.proofs.Math.Seq.{take-append_seam}
use Rattle.std.proofs.lemmas.List.{take-append-drop, length-take-le, append_cancel_left}
use Rattle.comet_syntax.specs.declared.token.TokenKind.{TokenKind}
use Rattle.comet_syntax.specs.declared.token.TokenKind.TheVariants as kinds
use Rattle.comet_syntax.specs.Lexeme.{is_space, is_letter, is_digit, is_sign, signs, IsLexeme, a_word, a_number, a_sign}
use Rattle.comet_syntax.specs.Tokens.Comment.{is_line_feed, begins_comment, ends_line, IsUpToClose, IsUpToLineEnd, IsComment, of_a_line, closed}
use Rattle.comet_syntax.specs.Tokens.StringLiteral.{IsStringBehindQuote}
use Rattle.comet_syntax.specs.Tokens.Front.{IsSkipped, space, comment, IsLongest, IsOfKind, IsToken, a_string, a_lexeme}
use Rattle.comet_syntax.specs.Tokens.TokenFault.{IsStuck}
use Rattle.comet_syntax.proofs.Lexing.{and_left, and_right, clash, among_passes, lexeme_head}
use Rattle.comet_syntax.proofs.TokenKinds.{kind_one}
use Rattle.comet_syntax.proofs.Strings.{string_one}

-- two fronts of equal length of one text are equal, and so are the rests
fronts_one : {A : Type 0} (w v r s : List A) → w ++ r ≡ v ++ s → length w ≡ length v → (w ≡ v) × (r ≡ s)
fronts_one w v r s whole same =
    let fronts : w ≡ v = sym (take-append_seam w r) ∙ ap (λ x. take (length w) x) whole ∙ ap (λ x. take x (v ++ s)) same ∙ take-append_seam v s in
    (fronts, append_cancel_left v r s (ap (λ x. x ++ r) (sym fronts) ∙ whole))

-- lexemes
pub longest_at : {text : List ℕ} {len : ℕ} → len ≤ length text → IsLexeme (take len text) → ((w r : List ℕ) → text ≡ w ++ r → IsLexeme w → length w ≤ len)
    → IsLongest text (take len text) (drop len text)
longest_at {text} {len} within lexeme longest = record {
  spelled = sym (take-append-drop len text);
  is_lexeme = lexeme;
  longest = λ longer behind e l. let size : length (take len text) ≡ len = length-take-le len text within in let most : length longer ≤ len = longest longer behind e l in omega arith;
}

pub longest_one : {text w v r s : List ℕ} → IsLongest text w r → IsLongest text v s → (w ≡ v) × (r ≡ s)
longest_one {text} {w} {v} {r} {s} x y =
    let low : length w ≤ length v = y.longest w r x.spelled x.is_lexeme in
    let high : length v ≤ length w = x.longest v s y.spelled y.is_lexeme in
    fronts_one w v r s (sym x.spelled ∙ y.spelled) (omega arith)

-- no lexeme begins with a quote
abbrev begins_with_no_quote : List ℕ → Bool
begins_with_no_quote [] = true
begins_with_no_quote (c ∷ cs) = not (c == 34)

sign_no_quote : (w : List ℕ) → is_sign w ≡ true → begins_with_no_quote w ≡ true
unfolding is_sign
sign_no_quote w h = among_passes begins_with_no_quote signs w h refl

letter_no_quote : (c : ℕ) → is_letter c ≡ true → not (c == 34) ≡ true
letter_no_quote c h = grind arith

digit_no_quote : (c : ℕ) → is_digit c ≡ true → not (c == 34) ≡ true
digit_no_quote c h = grind arith

lexeme_no_quote : (w : List ℕ) → IsLexeme w → begins_with_no_quote w ≡ true
lexeme_no_quote w (a_sign h) = sign_no_quote w h
lexeme_no_quote [] (a_word h) = refl
lexeme_no_quote (c ∷ cs) (a_word h) = letter_no_quote c (and_left _ _ h)
lexeme_no_quote [] (a_number h) = refl
lexeme_no_quote (c ∷ cs) (a_number h) = digit_no_quote c (and_left _ _ h)

head_one : {a b : ℕ} {xs ys : List ℕ} → a ∷ xs ≡ b ∷ ys → a ≡ b
head_one e = cc

tail_one : {a b : ℕ} {xs ys : List ℕ} → a ∷ xs ≡ b ∷ ys → xs ≡ ys
tail_one e = cc

quote_is : (c : ℕ) → not (c == 34) ≡ true → c ≡ 34 → ⊥
quote_is c h e = grind arith

-- the first byte of a longest lexeme is that of its text, and no space
longest_head : {text w r : List ℕ} → IsLongest text w r → (c : ℕ) × (cs : List ℕ) × (text ≡ c ∷ cs) × (is_space c ≡ false) × (c ≡ 34 → ⊥)
longest_head {text} {w} {r} x =
    let (c, cs, e, no_space) = lexeme_head w x.is_lexeme in
    let no_quote : not (c == 34) ≡ true = subst (λ z. begins_with_no_quote z ≡ true) e (lexeme_no_quote w x.is_lexeme) in
    (c, cs ++ r, x.spelled ∙ ap (λ z. z ++ r) e, no_space, quote_is c no_quote)

-- comments
slash_is : (a b : ℕ) → (a == 47 && (b == 47 || b == 42)) ≡ true → a ≡ 47
slash_is a b h = grind arith

begins_slash : {c : ℕ} {text rest : List ℕ} → begins_comment text ≡ true → text ≡ c ∷ rest → c ≡ 47
begins_slash {text = []} h e = absurd (cc)
begins_slash {text = a ∷ []} h e = absurd (cc)
begins_slash {text = a ∷ b ∷ bs} h e = head_one (sym e) ∙ slash_is a b h

pub comment_begins : {text rest : List ℕ} → IsComment text rest → begins_comment text ≡ true
comment_begins (of_a_line e up) = ap begins_comment e
comment_begins (closed e up) = ap begins_comment e

quote_or_slash : (c : ℕ) → c ≡ 34 → c ≡ 47 → ⊥
quote_or_slash c e f = absurd (omega (arith, e, f))

no_space_slash : (c : ℕ) → c ≡ 47 → is_space c ≡ true → ⊥
no_space_slash c e h = let k : is_space 47 ≡ true = subst (λ x. is_space x ≡ true) e h in cc

no_space_quote : (c : ℕ) → c ≡ 34 → is_space c ≡ true → ⊥
no_space_quote c e h = let k : is_space 34 ≡ true = subst (λ x. is_space x ≡ true) e h in cc

-- what can be skipped is a space, or begins as a comment
skipped_head : {text rest : List ℕ} → IsSkipped text rest → (c : ℕ) × (cs : List ℕ) × (text ≡ c ∷ cs)
skipped_head (space {c} {rest} h) = (c, rest, refl)
skipped_head (comment {text} x) = comment_head text (comment_begins x)
  where
    comment_head : (t : List ℕ) → begins_comment t ≡ true → (c : ℕ) × (cs : List ℕ) × (t ≡ c ∷ cs)
    comment_head [] h = absurd (cc)
    comment_head (a ∷ rest) h = (a, rest, refl)

token_head : {text rest : List ℕ} {kind : TokenKind} → IsToken text kind rest → (c : ℕ) × (cs : List ℕ) × (text ≡ c ∷ cs)
token_head (a_string {c} {text} e s) = (c, text, refl)
token_head (a_lexeme bare x k) = let (c, cs, e, s, q) = longest_head x in (c, cs, e)

nothing_there : {c : ℕ} {text cs : List ℕ} → text ≡ [] → text ≡ c ∷ cs → ⊥
nothing_there e f = cc

pub nothing_skipped : {text rest : List ℕ} → text ≡ [] → IsSkipped text rest → ⊥
nothing_skipped e x = let (c, cs, f) = skipped_head x in nothing_there e f

pub nothing_taken : {text rest : List ℕ} {kind : TokenKind} → text ≡ [] → IsToken text kind rest → ⊥
nothing_taken e x = let (c, cs, f) = token_head x in nothing_there e f

-- an unclosed comment
pub stuck_comment : {text : List ℕ} → begins_comment text ≡ true → ((rest : List ℕ) → IsComment text rest → ⊥) → IsStuck text
stuck_comment {text} begins none = record {
  more = λ e. clash false (subst (λ t. begins_comment t ≡ true) e begins) refl;
  not_skipped = λ behind x. skips x begins none;
  no_token = λ kind behind x. takes x begins;
}
  where
    skips : {t r : List ℕ} → IsSkipped t r → begins_comment t ≡ true → ((s : List ℕ) → IsComment t s → ⊥) → ⊥
    skips (space {c} h) b bare = no_space_slash c (begins_slash b refl) h
    skips {r = r} (comment x) b bare = bare r x

    takes : {t r : List ℕ} {k : TokenKind} → IsToken t k r → begins_comment t ≡ true → ⊥
    takes (a_string {c} e s) b = quote_or_slash c e (begins_slash b refl)
    takes (a_lexeme bare x k) b = clash _ b bare

-- a bad string
pub stuck_string : {c : ℕ} {text behind : List ℕ} → text ≡ c ∷ behind → c ≡ 34 → ((value rest : List ℕ) → IsStringBehindQuote behind value rest → ⊥) → IsStuck text
stuck_string {c} {text} {behind} e f none = record {
  more = λ g. nothing_there g e;
  not_skipped = λ after x. skips x e;
  no_token = λ kind after x. takes x e;
}
  where
    skips : {t r : List ℕ} → IsSkipped t r → t ≡ c ∷ behind → ⊥
    skips (space {c = d} h) g = no_space_quote d (head_one g ∙ f) h
    skips (comment x) g = quote_or_slash c f (begins_slash (comment_begins x) g)

    takes : {t r : List ℕ} {k : TokenKind} → IsToken t k r → t ≡ c ∷ behind → ⊥
    takes (a_string {value} {rest} h s) g = none value rest (subst (λ t. IsStringBehindQuote t value rest) (tail_one g) s)
    takes (a_lexeme bare x k) g = let (d, ds, h, s, q) = longest_head x in q (head_one (sym h ∙ g) ∙ f)

-- no lexeme of a kind
pub stuck_lexeme : {c : ℕ} {text behind : List ℕ} → text ≡ c ∷ behind → begins_comment text ≡ false → is_space c ≡ false → (c ≡ 34 → ⊥)
    → ((lexeme rest : List ℕ) (kind : TokenKind) → IsLongest text lexeme rest → IsOfKind lexeme kind → ⊥) → IsStuck text
stuck_lexeme {c} {text} {behind} e no_comment no_space no_quote none = record {
  more = λ g. nothing_there g e;
  not_skipped = λ after x. skips x e no_comment;
  no_token = λ kind after x. takes x e none;
}
  where
    skips : {t r : List ℕ} → IsSkipped t r → t ≡ c ∷ behind → begins_comment t ≡ false → ⊥
    skips (space {c = d} h) g bare = clash (is_space c) (subst (λ x. is_space x ≡ true) (head_one g) h) no_space
    skips (comment x) g bare = clash _ (comment_begins x) bare

    takes : {t r : List ℕ} {k : TokenKind} → IsToken t k r → t ≡ c ∷ behind → ((lexeme rest : List ℕ) (kind : TokenKind) → IsLongest t lexeme rest → IsOfKind lexeme kind → ⊥) → ⊥
    takes (a_string h s) g bare = no_quote (head_one (sym g) ∙ h)
    takes (a_lexeme {lexeme} {rest} {kind} plain x k) g bare = bare lexeme rest kind x k

-- one comment at most
up_to_close_one : {text b d r s : List ℕ} → IsUpToClose text b r → IsUpToClose text d s → r ≡ s
up_to_close_one {text} {b} {d} {r} {s} x y =
    let low : length b ≤ length d = x.first d s y.spelled in
    let high : length d ≤ length b = y.first b r x.spelled in
    let rests : codes "*/" ++ r ≡ codes "*/" ++ s = (fronts_one b d (codes "*/" ++ r) (codes "*/" ++ s) (sym x.spelled ∙ y.spelled) (omega arith)).1 in
    append_cancel_left (codes "*/") r s rests

line_one : (b d r s : List ℕ) → b ++ r ≡ d ++ s → list_all (λ byte. not (is_line_feed byte)) b ≡ true → list_all (λ byte. not (is_line_feed byte)) d ≡ true → ends_line r ≡ true → ends_line s ≡ true → r ≡ s
line_one [] [] r s e h k x y = e
line_one [] (c ∷ d) r s e h k x y = absurd (both_ways c (and_left _ _ k) (subst (λ t. ends_line t ≡ true) e x))
  where
    both_ways : (z : ℕ) → not (is_line_feed z) ≡ true → is_line_feed z ≡ true → ⊥
    both_ways z p q = grind arith
line_one (c ∷ b) [] r s e h k x y = absurd (both_ways c (and_left _ _ h) (subst (λ t. ends_line t ≡ true) (sym e) y))
  where
    both_ways : (z : ℕ) → not (is_line_feed z) ≡ true → is_line_feed z ≡ true → ⊥
    both_ways z p q = grind arith
line_one (c ∷ b) (z ∷ d) r s e h k x y = line_one b d r s (tail_one e) (and_right (not (is_line_feed c)) _ h) (and_right (not (is_line_feed z)) _ k) x y

inside_one : {a b c d : ℕ} {xs ys : List ℕ} → a ∷ b ∷ xs ≡ c ∷ d ∷ ys → xs ≡ ys
inside_one e = cc

openings_apart : {xs ys : List ℕ} → 47 ∷ 47 ∷ xs ≡ 47 ∷ 42 ∷ ys → ⊥
openings_apart e = cc

line_same : (inside other : List ℕ) {b d r s : List ℕ} → inside ≡ other → IsUpToLineEnd inside b r → IsUpToLineEnd other d s → r ≡ s
line_same inside other {b} {d} {r} {s} same x y = line_one b d r s (sym x.spelled ∙ same ∙ y.spelled) x.one_line y.one_line x.ended y.ended

block_same : (inside other : List ℕ) {b d r s : List ℕ} → inside ≡ other → IsUpToClose inside b r → IsUpToClose other d s → r ≡ s
block_same inside other {b} {d} {r} {s} same x y = up_to_close_one x (subst (λ t. IsUpToClose t d s) (sym same) y)

line_is : (text inside b r s : List ℕ) → text ≡ 47 ∷ 47 ∷ inside → IsUpToLineEnd inside b r → IsComment text s → r ≡ s
line_is text inside b r s e x (of_a_line {inside = other} f y) = line_same inside other (inside_one (sym e ∙ f)) x y
line_is text inside b r s e x (closed f y) = absurd (openings_apart (sym e ∙ f))

block_is : (text inside b r s : List ℕ) → text ≡ 47 ∷ 42 ∷ inside → IsUpToClose inside b r → IsComment text s → r ≡ s
block_is text inside b r s e x (of_a_line f y) = absurd (openings_apart (sym f ∙ e))
block_is text inside b r s e x (closed {inside = other} f y) = block_same inside other (inside_one (sym e ∙ f)) x y

comment_one : {text r s : List ℕ} → IsComment text r → IsComment text s → r ≡ s
comment_one {text} {r} {s} (of_a_line {inside} {body} e x) y = line_is text inside body r s e x y
comment_one {text} {r} {s} (closed {inside} {body} e x) y = block_is text inside body r s e x y

-- one thing at most stands at the front of a text
pub skipped_one : {text r s : List ℕ} → IsSkipped text r → IsSkipped text s → r ≡ s
skipped_one (space h) (space k) = refl
skipped_one (space {c} h) (comment y) = absurd (no_space_slash c (begins_slash (comment_begins y) refl) h)
skipped_one (comment x) (space {c} h) = absurd (no_space_slash c (begins_slash (comment_begins x) refl) h)
skipped_one (comment x) (comment y) = comment_one x y

pub taken_one : {text r s : List ℕ} {k l : TokenKind} → IsToken text k r → IsToken text l s → (k ≡ l) × (r ≡ s)
taken_one (a_string e x) (a_string f y) = (ap kinds.Str (string_one x y).0, (string_one x y).1)
taken_one (a_string e x) (a_lexeme bare y k) = let (d, ds, h, s, q) = longest_head y in absurd (q (head_one (sym h) ∙ e))
taken_one (a_lexeme bare x k) (a_string e y) = let (d, ds, h, s, q) = longest_head x in absurd (q (head_one (sym h) ∙ e))
taken_one {l = m} (a_lexeme {lexeme = w} bare x k) (a_lexeme {lexeme = v} none y l) =
    let same : v ≡ w = sym (longest_one x y).0 in
    let moved : IsOfKind w m = subst (λ z. IsOfKind z m) same l in
    (kind_one k moved, (longest_one x y).1)

pub skipped_or_taken : {text r s : List ℕ} {k : TokenKind} → IsSkipped text r → IsToken text k s → ⊥
skipped_or_taken (space {c} h) (a_string e y) = no_space_quote c e h
skipped_or_taken (space {c} h) (a_lexeme bare y k) = let (d, ds, e, s, q) = longest_head y in clash (is_space c) h (subst (λ x. is_space x ≡ false) (head_one (sym e)) s)
skipped_or_taken (comment x) (a_string {c} e y) = quote_or_slash c e (begins_slash (comment_begins x) refl)
skipped_or_taken (comment x) (a_lexeme bare y k) = clash _ (comment_begins x) bare

-- the same, in the steps of the code
pub token_of_len : {text lexeme rest : List ℕ} {len : ℕ} {kind : TokenKind} → begins_comment text ≡ false → len ≤ length text → IsLexeme (take len text)
    → ((w r : List ℕ) → text ≡ w ++ r → IsLexeme w → length w ≤ len) → lexeme ≡ take len text → rest ≡ drop len text → IsOfKind lexeme kind → IsToken text kind rest
token_of_len {text} {lexeme} {rest} {len} {kind} plain within is longest e f k =
    subst (λ r. IsToken text kind r) (sym f) (a_lexeme plain (longest_at within is longest) (subst (λ w. IsOfKind w kind) e k))

pub no_kind_of_len : {text lexeme : List ℕ} {len : ℕ} → len ≤ length text → IsLexeme (take len text)
    → ((w r : List ℕ) → text ≡ w ++ r → IsLexeme w → length w ≤ len) → lexeme ≡ take len text → ((kind : TokenKind) → IsOfKind lexeme kind → ⊥)
    → (w r : List ℕ) (kind : TokenKind) → IsLongest text w r → IsOfKind w kind → ⊥
no_kind_of_len {text} {lexeme} {len} within is longest e none w r kind x k =
    let same : w ≡ lexeme = (longest_one x (longest_at within is longest)).0 ∙ sym e in
    none kind (subst (λ z. IsOfKind z kind) same k)

pub comment_front : {text rest : List ℕ} → IsComment text rest → IsSkipped text rest
comment_front x = comment x

pub space_front : {c : ℕ} {text rest : List ℕ} → text ≡ c ∷ rest → is_space c ≡ true → IsSkipped text rest
space_front {c} {text} {rest} e h = subst (λ t. IsSkipped t rest) (sym e) (space h)

pub string_front : {c : ℕ} {text behind value rest : List ℕ} → text ≡ c ∷ behind → c ≡ 34 → IsStringBehindQuote behind value rest → IsToken text (kinds.Str value) rest
string_front {c} {text} {behind} {value} {rest} e f x = subst (λ t. IsToken t (kinds.Str value) rest) (sym e) (a_string f x)
