-- The kind of token that a lexeme is.
use Rattle.std.specs.Prelude.{◌≡◌, ◌<◌, ◌^◌, ℕ, ℤ, pos, Bool, true, false, not, List, [], ◌∷◌, Some, None, nat_lt, if◌then◌else◌, FitsSigned, refl}
use Rattle.std.specs.Int.{w64, cast_signed, cast_unsigned}
use Rattle.std.proofs.Common.{arith, ap, sym, ◌∙◌, subst}
use Rattle.std.proofs.lemmas.Int.{to_z-of_z}
use Rattle.comet_syntax.specs.declared.token.TokenKind.{TokenKind}
use Rattle.comet_syntax.specs.declared.token.TokenKind.TheVariants as kinds
use Rattle.comet_syntax.specs.Lexeme.{is_number, is_letter}
use Rattle.comet_syntax.specs.Name.{is_name}
use Rattle.comet_syntax.specs.Number.{number_of_digits}
use Rattle.comet_syntax.specs.Tokens.Front.{IsOfKind, a_name, a_number, a_word}
use Rattle.comet_syntax.proofs.Lexing.{and_left, clash, digit_no_letter}
use Rattle.comet_syntax.proofs.Words.{spelled_one_way, word_is_no_name, word_is_no_number}

-- a number that fits
pub kind_number : (w : List ℕ) (x : ℤ) → is_number w ≡ true → Some x ≡ (if nat_lt (number_of_digits w) (2 ^ 63) then Some (pos (number_of_digits w)) else None) → FitsSigned w64 x
    → IsOfKind w (kinds.Number (cast_signed w64 (cast_unsigned w64 x)))
kind_number w x h e fits = subst (λ z. IsOfKind w (kinds.Number z)) (sym (to_z-of_z w64 x fits)) (by_test (nat_lt (number_of_digits w) (2 ^ 63)) refl e)
  where
    by_test : (b : Bool) → nat_lt (number_of_digits w) (2 ^ 63) ≡ b → Some x ≡ (if b then Some (pos (number_of_digits w)) else None) → IsOfKind w (kinds.Number x)
    by_test true k f = subst (λ z. IsOfKind w (kinds.Number z)) (same_some (sym f)) (a_number h (below k))
      where
        below : nat_lt (number_of_digits w) (2 ^ 63) ≡ true → number_of_digits w < 2 ^ 63
        below l = grind arith

        same_some : {A : Type 0} {a b : A} → Some a ≡ Some b → a ≡ b
        same_some f = cc
    by_test false k f = absurd (cc)

not_both : (b : Bool) → b ≡ true → not b ≡ true → ⊥
not_both b h k = cc

name_no_number : (w : List ℕ) → is_name w ≡ true → is_number w ≡ true → ⊥
name_no_number [] h k = cc
name_no_number (c ∷ cs) h k = clash (is_letter c) (and_left _ _ (and_left _ _ h)) (digit_no_letter c (and_left _ _ k))

-- a lexeme is of one kind at most
pub kind_one : {w : List ℕ} {k l : TokenKind} → IsOfKind w k → IsOfKind w l → k ≡ l
kind_one (a_name h) (a_name k) = refl
kind_one {w = w} (a_name h) (a_number k low) = absurd (name_no_number w h k)
kind_one (a_name h) (a_word {word} e) = absurd (not_both _ (subst (λ x. is_name x ≡ true) e h) (word_is_no_name word))
kind_one {w = w} (a_number h low) (a_name k) = absurd (name_no_number w k h)
kind_one (a_number h low) (a_number k high) = refl
kind_one (a_number h low) (a_word {word} e) = absurd (not_both _ (subst (λ x. is_number x ≡ true) e h) (word_is_no_number word))
kind_one (a_word {word} e) (a_name h) = absurd (not_both _ (subst (λ x. is_name x ≡ true) e h) (word_is_no_name word))
kind_one (a_word {word} e) (a_number h low) = absurd (not_both _ (subst (λ x. is_number x ≡ true) e h) (word_is_no_number word))
kind_one (a_word {word = x} e) (a_word {word = y} f) = ap kinds.Word (spelled_one_way x y (sym e ∙ f))
