-- Strings, byte by byte.
use Rattle.std.specs.Prelude.{◌≡◌, ℕ, true, List, [], ◌∷◌, ◌++◌, length, Some, refl}
use Rattle.std.proofs.Common.{arith, ap, sym, ◌∙◌, subst, append_assoc, append-nil}
use Rattle.comet_syntax.specs.Tokens.StringLiteral.{escape, is_plain, IsSpelledByte, plain, escaped, IsStringBehindQuote, quote, more}

pub plain_at : {c : ℕ} {text rest : List ℕ} → text ≡ c ∷ rest → is_plain c ≡ true → IsSpelledByte text c rest
plain_at {c} {text} {rest} e h = subst (λ t. IsSpelledByte t c rest) (sym e) (plain h)

pub escaped_at : {c letter byte : ℕ} {text behind rest : List ℕ} → text ≡ c ∷ behind → behind ≡ letter ∷ rest → c ≡ 92 → escape letter ≡ Some byte → IsSpelledByte text byte rest
escaped_at {c} {letter} {byte} {text} {behind} {rest} e f h k = subst (λ t. IsSpelledByte t byte rest) (sym (e ∙ ap (λ t. c ∷ t) f)) (escaped h k)

-- a quote, a backslash and a line feed aren't plain
quote_not_plain : (c : ℕ) → c ≡ 34 → is_plain c ≡ true → ⊥
quote_not_plain c e h = let k : is_plain 34 ≡ true = subst (λ b. is_plain b ≡ true) e h in cc

backslash_not_plain : (c : ℕ) → c ≡ 92 → is_plain c ≡ true → ⊥
backslash_not_plain c e h = let k : is_plain 92 ≡ true = subst (λ b. is_plain b ≡ true) e h in cc

head_one : {a b : ℕ} {xs ys : List ℕ} → a ∷ xs ≡ b ∷ ys → a ≡ b
head_one e = cc

some_one : {A : Type 0} {a b : A} → Some a ≡ Some b → a ≡ b
some_one e = cc

-- one byte at most is spelled at the front of a text
pub spelled_one : {text r s : List ℕ} {a b : ℕ} → IsSpelledByte text a r → IsSpelledByte text b s → (a ≡ b) × (r ≡ s)
spelled_one (plain h) (plain k) = (refl, refl)
spelled_one (plain {c} h) (escaped e k) = absurd (backslash_not_plain c e h)
spelled_one (escaped {c} e h) (plain k) = absurd (backslash_not_plain c e k)
spelled_one (escaped e h) (escaped f k) = (some_one (sym h ∙ k), refl)

-- and no closing quote stands there then
pub spelled_no_quote : {text r : List ℕ} {a c : ℕ} {rest : List ℕ} → IsSpelledByte text a r → text ≡ c ∷ rest → c ≡ 34 → ⊥
spelled_no_quote (plain {c = d} h) e f = quote_not_plain d (head_one e ∙ f) h
spelled_no_quote (escaped {c = d} g h) e f = let same : d ≡ _ = head_one e in let low : d ≡ 34 = same ∙ f in absurd (omega (arith, g, low))

-- one string at most stands behind a quote
pub string_one : {text r s v w : List ℕ} → IsStringBehindQuote text v r → IsStringBehindQuote text w s → (v ≡ w) × (r ≡ s)
string_one (quote e) (quote f) = (refl, refl)
string_one (quote e) (more x h) = absurd (spelled_no_quote x refl e)
string_one (more x h) (quote e) = absurd (spelled_no_quote x refl e)
string_one (more {byte = a} {behind = p} {value = v} x h) (more {byte = b} {behind = q} {value = w} {rest = s} y k) =
    let e : a ≡ b = (spelled_one x y).0 in
    let f : p ≡ q = (spelled_one x y).1 in
    let moved : IsStringBehindQuote p w s = subst (λ t. IsStringBehindQuote t w s) (sym f) k in
    let same : v ≡ w = (string_one h moved).0 in
    (ap (λ z. a ∷ z) same ∙ ap (λ z. z ∷ w) e, (string_one h moved).1)

-- what stands behind a byte's spelling goes on as the string does
pub behind_byte : {text behind v r : List ℕ} {a : ℕ} → IsSpelledByte text a behind → IsStringBehindQuote text v r → (w : List ℕ) × IsStringBehindQuote behind w r
behind_byte x (quote e) = absurd (spelled_no_quote x refl e)
behind_byte {v = v} {r = r} x (more {value = w} y h) = (w, subst (λ t. IsStringBehindQuote t w r) (sym (spelled_one x y).1) h)

-- one byte more
pub byte_more : {text rest behind new : List ℕ} {a : ℕ} (front : List ℕ) → new ≡ front ++ (a ∷ []) → IsSpelledByte rest a behind
    → ((v r : List ℕ) → IsStringBehindQuote rest v r → IsStringBehindQuote text (front ++ v) r)
    → (v r : List ℕ) → IsStringBehindQuote behind v r → IsStringBehindQuote text (new ++ v) r
byte_more {text} {rest} {behind} {new} {a} front e x forward v r h =
    subst (λ z. IsStringBehindQuote text z r) (sym (ap (λ z. z ++ v) e ∙ append_assoc front (a ∷ []) v)) (forward (a ∷ v) r (more x h))

-- the closing quote
pub closed_at : {text rest behind front : List ℕ} {c : ℕ} → rest ≡ c ∷ behind → c ≡ 34
    → ((v r : List ℕ) → IsStringBehindQuote rest v r → IsStringBehindQuote text (front ++ v) r) → IsStringBehindQuote text front behind
closed_at {text} {rest} {behind} {front} {c} e f forward =
    subst (λ z. IsStringBehindQuote text z behind) (append-nil front) (forward [] behind (subst (λ t. IsStringBehindQuote t [] behind) (sym e) (quote f)))

-- neither a byte nor a closing quote
pub not_closed : {text rest : List ℕ} → ((byte : ℕ) (r : List ℕ) → IsSpelledByte rest byte r → ⊥) → ((c : ℕ) (behind : List ℕ) → rest ≡ c ∷ behind → c ≡ 34 → ⊥)
    → ((v r : List ℕ) → IsStringBehindQuote text v r → (w : List ℕ) × IsStringBehindQuote rest w r) → (v r : List ℕ) → IsStringBehindQuote text v r → ⊥
not_closed {text} {rest} none bare backward v r h = let (w, k) = backward v r h in ends k refl
  where
    ends : {t w' s : List ℕ} → IsStringBehindQuote t w' s → rest ≡ t → ⊥
    ends (quote {c} {rest = s} e) f = bare c s f e
    ends (more {byte} {behind = b} x k) f = none byte b (subst (λ t. IsSpelledByte t byte b) (sym f) x)

-- an empty text begins with no byte
pub begins_with_none : {rest : List ℕ} → length rest ≡ 0 → (c : ℕ) (behind : List ℕ) → rest ≡ c ∷ behind → c ≡ 34 → ⊥
begins_with_none {rest} e c behind f g = let long : length rest ≡ length (c ∷ behind) = ap length f in omega (arith, e, long)

-- nor with a quote a text that begins with another byte
pub begins_with_other : {rest others : List ℕ} {d : ℕ} → rest ≡ d ∷ others → (d ≡ 34 → ⊥) → (c : ℕ) (behind : List ℕ) → rest ≡ c ∷ behind → c ≡ 34 → ⊥
begins_with_other e apart c behind f g = apart (head_one (sym e ∙ f) ∙ g)
