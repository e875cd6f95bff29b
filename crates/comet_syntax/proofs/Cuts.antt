-- How a text is cut, and that it is cut in one way.
use Rattle.std.specs.Prelude.{◌≡◌, ◌<◌, ◌≤◌, ◌+◌, ◌-◌, ◌==◌, ℕ, Bool, true, false, List, [], ◌∷◌, ◌++◌, length, take, codes, Option, Some, None, if◌then◌else◌, refl}
use Rattle.std.specs.List.{fold}
use Rattle.std.specs.Str.{IsUtf8, IsValidUpTo}
use Rattle.std.specs.Str.Lossy.{utf8_valid_len}
use Rattle.std.proofs.Common.{arith, ap, sym, ◌∙◌, subst, inl, inr, append_assoc, append-nil, length-append}
use Rattle.std.proofs.Math.Seq.{take-append_seam}
use Rattle.std.proofs.lemmas.List.Sums.{fold-append}
use Rattle.std.proofs.lemmas.Str.{utf8_valid_len-IsUtf8, utf8_valid_len-IsValidUpTo}
use Rattle.cbl_base.specs.declared.place.Place.{Place}
use Rattle.comet_syntax.specs.declared.token.Token.{Token}
use Rattle.comet_syntax.specs.declared.token.TokenKind.{TokenKind}
use Rattle.comet_syntax.specs.Place.{first_place, next_place, place_behind, index_of, place_of}
use Rattle.comet_syntax.specs.Tokens.Comment.{IsComment, of_a_line, closed}
use Rattle.comet_syntax.specs.Tokens.StringLiteral.{IsSpelledByte, plain, escaped, IsStringBehindQuote, quote, more}
use Rattle.comet_syntax.specs.Tokens.Front.{IsSkipped, space, comment, IsToken, a_string, a_lexeme, IsFront}
use Rattle.comet_syntax.specs.Tokens.TokenList.{token_at, tokens_at, AreCut, nothing, skipped, taken}
use Rattle.comet_syntax.specs.Tokens.TokenFault.{IsEnd}
use Rattle.comet_syntax.proofs.Lexing.{lexeme_head}
use Rattle.comet_syntax.proofs.Fronts.{nothing_skipped, nothing_taken, skipped_one, taken_one, skipped_or_taken}

-- places
picked_line : (b : Bool) (x y : Place) (n : ℕ) → x.line ≤ n → y.line ≤ n → (if b then x else y).line ≤ n
picked_line true x y n h k = h
picked_line false x y n h k = k

picked_column : (b : Bool) (x y : Place) (n : ℕ) → x.col ≤ n → y.col ≤ n → (if b then x else y).col ≤ n
picked_column true x y n h k = h
picked_column false x y n h k = k

line_step : (place : Place) (byte : ℕ) → (next_place place byte).line ≤ place.line + 1
line_step place byte = picked_line (byte == 10) (record { line = place.line + 1; col = 1 }) (record { line = place.line; col = place.col + 1 }) (place.line + 1) (omega arith) (omega arith)

column_step : (place : Place) (byte : ℕ) → (next_place place byte).col ≤ place.col + 1
column_step place byte = picked_column (byte == 10) (record { line = place.line + 1; col = 1 }) (record { line = place.line; col = place.col + 1 }) (place.col + 1) (omega arith) (omega arith)

line_bound : (place : Place) (bytes : List ℕ) → (fold next_place place bytes).line ≤ place.line + length bytes
line_bound place [] = omega arith
line_bound place (c ∷ cs) = omega (arith, line_bound (next_place place c) cs, line_step place c)

column_bound : (place : Place) (bytes : List ℕ) → (fold next_place place bytes).col ≤ place.col + length bytes
column_bound place [] = omega arith
column_bound place (c ∷ cs) = omega (arith, column_bound (next_place place c) cs, column_step place c)

-- what stands before a rest
index_front : (text front rest : List ℕ) → text ≡ front ++ rest → index_of text rest ≡ length front
index_front text front rest e = let size : length text ≡ length front + length rest = ap length e ∙ simp length-append in omega arith

take_front : (text front rest : List ℕ) → text ≡ front ++ rest → take (index_of text rest) text ≡ front
take_front text front rest e = ap (λ n. take n text) (index_front text front rest e) ∙ ap (take (length front)) e ∙ take-append_seam front rest

pub place_front : (text front rest : List ℕ) → text ≡ front ++ rest → place_of text rest ≡ place_behind front
place_front text front rest e = ap place_behind (take_front text front rest e)

-- the place behind what was cut off
pub place_on : {text rest behind : List ℕ} (place : Place) → (front : List ℕ) × (text ≡ front ++ rest) → (w : List ℕ) × (rest ≡ w ++ behind) × (0 < length w)
    → place ≡ place_of text rest → fold next_place place (take (length rest - length behind) rest) ≡ place_of text behind
place_on {text} {rest} {behind} place (front, e) (w, f, some) h =
    let whole : text ≡ (front ++ w) ++ behind = e ∙ ap (λ x. front ++ x) f ∙ sym (append_assoc front w behind) in
    ap (λ x. fold next_place place x) (take_front rest w behind f) ∙ ap (λ p. fold next_place p w) (h ∙ place_front text front rest e)
    ∙ sym (fold-append next_place first_place front w) ∙ sym (place_front text (front ++ w) behind whole)

pub line_fits : {text rest : List ℕ} (place : Place) → (front : List ℕ) × (text ≡ front ++ rest) → place ≡ place_of text rest → place.line + length rest ≤ 1 + length text
line_fits {text} {rest} place (front, e) h =
    let size : length text ≡ length front + length rest = ap length e ∙ simp length-append in
    let same : place.line ≡ (place_behind front).line = ap (λ p. p.line) (h ∙ place_front text front rest e) in
    omega (arith, size, same, line_bound first_place front)

pub column_fits : {text rest : List ℕ} (place : Place) → (front : List ℕ) × (text ≡ front ++ rest) → place ≡ place_of text rest → place.col + length rest ≤ 1 + length text
column_fits {text} {rest} place (front, e) h =
    let size : length text ≡ length front + length rest = ap length e ∙ simp length-append in
    let same : place.col ≡ (place_behind front).col = ap (λ p. p.col) (h ∙ place_front text front rest e) in
    omega (arith, size, same, column_bound first_place front)

-- what is cut off has a byte
byte_part : {text rest : List ℕ} {b : ℕ} → IsSpelledByte text b rest → (w : List ℕ) × (text ≡ w ++ rest)
byte_part (plain {c} h) = (c ∷ [], refl)
byte_part (escaped {c} {letter} e h) = (c ∷ letter ∷ [], refl)

string_part : {text value rest : List ℕ} → IsStringBehindQuote text value rest → (w : List ℕ) × (text ≡ w ++ rest)
string_part (quote {c} e) = (c ∷ [], refl)
string_part {text} {rest = rest} (more {behind} x s) =
    let (v, e) = byte_part x in
    let (w, f) = string_part s in
    (v ++ w, e ∙ ap (λ z. v ++ z) f ∙ sym (append_assoc v w rest))

comment_part : {text rest : List ℕ} → IsComment text rest → (w : List ℕ) × (text ≡ w ++ rest) × (0 < length w)
comment_part {rest = rest} (of_a_line {inside} {body} e x) = (codes "//" ++ body, e ∙ ap (λ z. codes "//" ++ z) x.spelled, omega arith)
comment_part {rest = rest} (closed {inside} {body} e x) =
    (codes "/*" ++ (body ++ codes "*/"), e ∙ ap (λ z. codes "/*" ++ z) (x.spelled ∙ sym (append_assoc body (codes "*/") rest)), omega arith)

pub front_part : {text rest : List ℕ} (kind : Option TokenKind) → IsFront text kind rest → (w : List ℕ) × (text ≡ w ++ rest) × (0 < length w)
front_part None (space {c} h) = (c ∷ [], refl, omega arith)
front_part None (comment x) = comment_part x
front_part (Some kind) (a_string {c} e s) = let (w, f) = string_part s in (c ∷ w, ap (λ z. c ∷ z) f, omega arith)
front_part (Some kind) (a_lexeme {lexeme} bare x k) =
    let (c, cs, e, no_space) = lexeme_head lexeme x.is_lexeme in
    let size : length lexeme ≡ length (c ∷ cs) = ap length e in
    (lexeme, x.spelled, omega arith)

pub front_on : {text rest behind : List ℕ} → (front : List ℕ) × (text ≡ front ++ rest) → (w : List ℕ) × (rest ≡ w ++ behind) × (0 < length w) → (front : List ℕ) × (text ≡ front ++ behind)
front_on {text} {rest} {behind} (front, e) (w, f, some) = (front ++ w, e ∙ ap (λ x. front ++ x) f ∙ sym (append_assoc front w behind))

pub part_shorter : {rest behind : List ℕ} → (w : List ℕ) × (rest ≡ w ++ behind) × (0 < length w) → length behind < length rest
part_shorter {rest} {behind} (w, f, some) = let size : length rest ≡ length w + length behind = ap length f ∙ simp length-append in omega arith

pub rest_within : {text rest : List ℕ} → (front : List ℕ) × (text ≡ front ++ rest) → length rest ≤ length text
rest_within {text} {rest} (front, e) = let size : length text ≡ length front + length rest = ap length e ∙ simp length-append in omega arith

-- one thing more is cut off
pub cut_more : {text rest behind : List ℕ} (kind : Option TokenKind) → IsFront rest kind behind → {ts : List Token} {end : List ℕ} → AreCut text behind ts end → AreCut text rest (tokens_at text rest kind behind ++ ts) end
cut_more None x y = skipped x y
cut_more (Some kind) x y = taken x y

pub cut_on : {text rest behind : List ℕ} (kind : Option TokenKind) (old new : List Token) → IsFront rest kind behind → new ≡ old ++ tokens_at text rest kind behind
    → ((ts : List Token) (end : List ℕ) → AreCut text rest ts end → AreCut text text (old ++ ts) end)
    → (ts : List Token) (end : List ℕ) → AreCut text behind ts end → AreCut text text (new ++ ts) end
cut_on {text} {rest} {behind} kind old new x e forward ts end y =
    subst (λ z. AreCut text text z end) (sym (ap (λ z. z ++ ts) e ∙ append_assoc old (tokens_at text rest kind behind) ts))
    (forward (tokens_at text rest kind behind ++ ts) end (cut_more kind x y))

-- a text is cut in one way
end_not_skipped : {rest behind : List ℕ} → IsEnd rest → IsSkipped rest behind → ⊥
end_not_skipped (inl e) x = nothing_skipped e x
end_not_skipped {behind = behind} (inr stuck) x = stuck.not_skipped behind x

end_not_taken : {rest behind : List ℕ} {kind : TokenKind} → IsEnd rest → IsToken rest kind behind → ⊥
end_not_taken (inl e) x = nothing_taken e x
end_not_taken {behind = behind} {kind = kind} (inr stuck) x = stuck.no_token kind behind x

pub cut_one : {text from r s : List ℕ} {ts us : List Token} → AreCut text from ts r → AreCut text from us s → IsEnd r → IsEnd s → (ts ≡ us) × (r ≡ s)
cut_one nothing nothing x y = (refl, refl)
cut_one nothing (skipped a b) x y = absurd (end_not_skipped x a)
cut_one nothing (taken a b) x y = absurd (end_not_taken x a)
cut_one (skipped a b) nothing x y = absurd (end_not_skipped y a)
cut_one (taken a b) nothing x y = absurd (end_not_taken y a)
cut_one (skipped a b) (taken d e) x y = absurd (skipped_or_taken a d)
cut_one (taken a b) (skipped d e) x y = absurd (skipped_or_taken d a)
cut_one {text} {s = s} {us = us} (skipped a b) (skipped d e) x y = cut_one b (subst (λ z. AreCut text z us s) (sym (skipped_one a d)) e) x y
cut_one {text} {from} {s = s} (taken {behind = p} {kind = k} {tokens = vs} a b) (taken {behind = q} {kind = l} {tokens = ws} d e) x y =
    let kinds : k ≡ l = (taken_one a d).0 in
    let rests : p ≡ q = (taken_one a d).1 in
    let moved : AreCut text p ws s = subst (λ z. AreCut text z ws s) (sym rests) e in
    let behind : (vs ≡ ws) × (_ ≡ s) = cut_one b moved x y in
    (ap (λ z. token_at text from k p ∷ z) behind.0 ∙ ap (λ z. token_at text from k z ∷ ws) rests ∙ ap (λ z. token_at text from z q ∷ ws) kinds, behind.1)

-- UTF-8 breaks at one byte
pub no_break : {text : List ℕ} {n : ℕ} → IsUtf8 text → IsValidUpTo text n → ⊥
no_break {text} {n} whole broken =
    let all : utf8_valid_len text ≡ length text = utf8_valid_len-IsUtf8 text whole in
    let some : utf8_valid_len text ≡ n = utf8_valid_len-IsValidUpTo text n broken in
    let short : n < length text = broken.short in
    absurd (omega (arith, all, some, short))

pub one_break : {text : List ℕ} {n m : ℕ} → IsValidUpTo text n → IsValidUpTo text m → n ≡ m
one_break {text} {n} {m} x y = sym (utf8_valid_len-IsValidUpTo text n x) ∙ utf8_valid_len-IsValidUpTo text m y

-- what is cut so far
pub cut_to : {text rest : List ℕ} {tokens : List Token} → ((ts : List Token) (end : List ℕ) → AreCut text rest ts end → AreCut text text (tokens ++ ts) end) → AreCut text text tokens rest
cut_to {text} {rest} {tokens} forward = subst (λ z. AreCut text text z rest) (append-nil tokens) (forward [] rest nothing)
