-- What is read of a program's file decides what its whole text is, though it is cut behind the limit.
use Rattle.std.proofs.Common.{◌≡◌, ◌+◌, ◌<◌, ◌≤◌, ◌⊎◌, ℕ, Bool, true, false, List, Option, Some, length, take, refl, ◌∙◌, ap, subst, inl, inr, arith}
use Rattle.std.specs.Prelude.{nat_le}
use Rattle.std.proofs.lemmas.List.{take_all, length-take}
use Rattle.cbl_base.specs.declared.place.Place.{Place}
use Rattle.cbl_io.specs.Held.{Held, IsRead}
use Rattle.checked_tree.specs.Tasks.{Whole}
use Rattle.comet_front.specs.Reading.{HasProgram, IsIllFormed, IsIllTyped, no_tokens, no_tree, not_built}
use Rattle.comet_syntax.specs.Tokens.TokenFault.{too_long, not_utf8, not_read}
use Rattle.comet_syntax.specs.declared.limits.TheConstants.{MOST_BYTES}
use Rattle.comet_syntax.specs.declared.stop.FormCause.{FormCause}
use Rattle.comet.specs.Headline.{IsHeldProgram}
use Rattle.comet.specs.Loading.{IsTextStop, IsRefused, IsLoadStop}
use Rattle.comet.specs.declared.report.Cause.{Cause}
use Rattle.comet.specs.declared.report.Cause.TheVariants as causes
use Rattle.comet.specs.declared.report.FileRole.TheVariants as roles

-- what is read of a text that is within the limit is the whole text
short_is_read : (n : ℕ) (bytes whole : List ℕ) → bytes ≡ take (n + 1) whole → length whole ≤ n → bytes ≡ whole
short_is_read n bytes whole cut short =
    let fits : length whole ≤ n + 1 = omega arith in
    cut ∙ take_all (n + 1) whole fits

-- texts that are the same, or both too long
abbrev pub SameOrLong : List ℕ → List ℕ → Type 0
SameOrLong a b = (a ≡ b) ⊎ ((MOST_BYTES < length a) × (MOST_BYTES < length b))

up_to_or_past : (m n : ℕ) → (m ≤ n) ⊎ (n < m)
up_to_or_past m n = by_test (nat_le m n) refl
  where
    by_test : (b : Bool) → nat_le m n ≡ b → (m ≤ n) ⊎ (n < m)
    by_test true h = inl (grind arith)
    by_test false h = inr (grind arith)

long_is_read : (n : ℕ) (bytes whole : List ℕ) → bytes ≡ take (n + 1) whole → n < length whole → n < length bytes
long_is_read n bytes whole cut long = let size : length bytes ≡ length (take (n + 1) whole) = ap length cut in omega (arith, size, length-take (n + 1) whole, long)

read_alike : (bytes whole : List ℕ) → bytes ≡ take (MOST_BYTES + 1) whole → SameOrLong bytes whole
read_alike bytes whole cut = elim (up_to_or_past (length whole) MOST_BYTES) [
  | inl short ↦ inl (short_is_read MOST_BYTES bytes whole cut short)
  | inr long ↦ inr (long_is_read MOST_BYTES bytes whole cut long, long)
]

-- and they give the same
long_refused : {a b : List ℕ} {place : Place} {form : FormCause} → IsIllFormed a place form → MOST_BYTES < length a → MOST_BYTES < length b → IsIllFormed b place form
long_refused (no_tokens (too_long h)) p q = no_tokens (too_long q)
long_refused (no_tokens (not_utf8 short h k)) p q = absurd (omega (arith, p, short))
long_refused (no_tokens (not_read short h k)) p q = absurd (omega (arith, p, short))
long_refused (no_tree r) p q = absurd (omega (arith, p, r.listed.short))
long_refused (not_built r) p q = absurd (omega (arith, p, r.has.listed.short))

whole_program : {a b : List ℕ} {program : Whole} → SameOrLong a b → HasProgram a program → HasProgram b program
whole_program {program = program} (inl e) has = subst (λ text. HasProgram text program) e has
whole_program (inr (x, y)) has = absurd (omega (arith, x, has.has.listed.short))

whole_ill_formed : {a b : List ℕ} {place : Place} {form : FormCause} → SameOrLong a b → IsIllFormed a place form → IsIllFormed b place form
whole_ill_formed {place = place} {form = form} (inl e) stop = subst (λ text. IsIllFormed text place form) e stop
whole_ill_formed (inr (x, y)) stop = long_refused stop x y

whole_ill_typed : {a b : List ℕ} {place : Place} {code : ℕ} → SameOrLong a b → IsIllTyped a place code → IsIllTyped b place code
whole_ill_typed {place = place} {code = code} (inl e) stop = subst (λ text. IsIllTyped text place code) e stop
whole_ill_typed (inr (x, y)) stop = absurd (omega (arith, x, stop.has.listed.short))

-- what is read of the file that is held
known : (told : Option Held) (name bytes : List ℕ) (most : ℕ) (held : Held) → IsRead told name most bytes → told ≡ Some held → IsRead (Some held) name most bytes
known told name bytes most held read is_told = subst (λ o. IsRead o name most bytes) is_told read

pub held_program : (told : Option Held) (name bytes : List ℕ) (program : Whole) → IsRead told name MOST_BYTES bytes → HasProgram bytes program →
    (held : Held) → told ≡ Some held → IsHeldProgram name held program
held_program told name bytes program read has held is_told =
    let r : IsRead (Some held) name MOST_BYTES bytes = known told name bytes MOST_BYTES held read is_told in
    record { text = r.0; found = r.1; has = whole_program (read_alike bytes r.0 r.2) has }

held_ill_formed : (told : Option Held) (name bytes : List ℕ) (place : Place) (form : FormCause) → IsRead told name MOST_BYTES bytes → IsIllFormed bytes place form →
    (held : Held) → told ≡ Some held → IsRefused name held (causes.IllFormed place form)
held_ill_formed told name bytes place form read stop held is_told =
    let r : IsRead (Some held) name MOST_BYTES bytes = known told name bytes MOST_BYTES held read is_told in
    record { text = r.0; found = r.1; stop = whole_ill_formed (read_alike bytes r.0 r.2) stop }

held_ill_typed : (told : Option Held) (name bytes : List ℕ) (place : Place) (code : ℕ) → IsRead told name MOST_BYTES bytes → IsIllTyped bytes place code →
    (held : Held) → told ≡ Some held → IsRefused name held (causes.IllTyped place code)
held_ill_typed told name bytes place code read stop held is_told =
    let r : IsRead (Some held) name MOST_BYTES bytes = known told name bytes MOST_BYTES held read is_told in
    record { text = r.0; found = r.1; stop = whole_ill_typed (read_alike bytes r.0 r.2) stop }

-- why a text has no program is why it can't be loaded
pub text_stops : (told : Option Held) (name bytes : List ℕ) (old new : ℕ) (cause : Cause) → IsRead told name MOST_BYTES bytes → IsTextStop bytes cause → IsLoadStop name told old new cause
text_stops told name bytes old new (causes.IllFormed place form) read stop = held_ill_formed told name bytes place form read stop
text_stops told name bytes old new (causes.IllTyped place code) read stop = held_ill_typed told name bytes place code read stop
text_stops told name bytes old new causes.NoMemory read stop = tt
text_stops told name bytes old new causes.Done read stop = absurd stop
text_stops told name bytes old new causes.Words read stop = absurd stop
text_stops told name bytes old new (causes.Cyclic place names) read stop = absurd stop
text_stops told name bytes old new (causes.Run place fault) read stop = absurd stop
text_stops told name bytes old new (causes.Spent place) read stop = absurd stop
text_stops told name bytes old new (causes.Read role) read stop = absurd stop
text_stops told name bytes old new causes.Write read stop = absurd stop
