-- From a listing of the tokens to the program that they spell, and from where reading stops to the refusal.
use Rattle.std.specs.Prelude.{ℕ, List, [], ◌∷◌, ◌++◌, ◌+◌, ◌-◌, ◌≡◌, ◌≤◌, length, take, drop, refl}
use Rattle.std.proofs.Common.{sym, ◌∙◌, ap, subst, arith}
use Rattle.std.proofs.lemmas.List.{length-append}
use Rattle.cbl_base.specs.declared.limits.TheConstants.{MAX_NESTING}
use Rattle.comet_syntax.specs.declared.stop.FormCause.{FormCause}
use Rattle.comet_syntax.specs.declared.stop.FormCause.TheVariants as causes
use Rattle.comet_syntax.specs.declared.token.Token.{Token}
use Rattle.comet_syntax.specs.declared.tree.program.Program.{Program}
use Rattle.comet_syntax.specs.Refusal.{Refused}
use Rattle.comet_syntax.specs.Spells.{Spells, SpellsAtAnyDepth}
use Rattle.comet_syntax.specs.Written.Programs.{written_program}
use Rattle.parse_base.specs.declared.stop.Stop.TheVariants.{Fault}
use Rattle.parse_machine.specs.declared.event.Event.{Event}
use Rattle.parse_machine.specs.Listing.{Lists, IsStop, shown_all}
use Rattle.parse_unique.specs.Bare.{SameProgram}
use Rattle.parse_unique.proofs.Programs.{same_program, at_any_depth}
use Rattle.parse_unique.proofs.Refusals.{cut_of}
use Rattle.comet_parse.specs.declared.stop.ParseStop.TheVariants as refusals
use Rattle.comet_parse.specs.Refusals.{IsRefusal}

-- the program whose text is the listing is spelled by the tokens
pub spelled : (ts : List Token) (log : List Event) (p : Program) → Lists MAX_NESTING ts log → written_program p ≡ shown_all log ts → Spells MAX_NESTING p ts
spelled ts log p l e = (l.steps, l.derives, l.is ∙ sym e)

-- and no other program is
pub spelled_alone : (ts : List Token) (log : List Event) (p : Program) → Lists MAX_NESTING ts log → written_program p ≡ shown_all log ts → (other : Program) → SpellsAtAnyDepth other ts → SameProgram other p
spelled_alone ts log p l e other s = same_program ts other p s (at_any_depth MAX_NESTING ts p (spelled ts log p l e))

-- the cut of the tokens where they are refused
record Cut (ts before rest : List Token) (left number : ℕ) : Type 0 where
  front : before ≡ take number ts
  back : rest ≡ drop number ts
  size : length ts ≡ length before + length rest

-- the tokens are refused where so many are left
by_cause : (ts before rest : List Token) (left number : ℕ) (cause : FormCause) → Refused MAX_NESTING ts before rest cause → Cut ts before rest left number → left ≡ length rest → number ≡ length ts - left
    → IsRefusal MAX_NESTING ts (refusals.Fault number cause)
by_cause ts before [] left number causes.UnexpectedEnd r c l is = ((refl, r.1, r.2, r.3), omega (arith, l, is))
by_cause ts before (u ∷ more) left number causes.Unexpected r c l is =
    subst (λ z. Refused MAX_NESTING ts (take number ts) z causes.Unexpected) c.back (subst (λ z. Refused MAX_NESTING ts z (u ∷ more) causes.Unexpected) c.front r)
by_cause ts before (u ∷ more) left number causes.TooDeep r c l is =
    subst (λ z. Refused MAX_NESTING ts (take number ts) z causes.TooDeep) c.back (subst (λ z. Refused MAX_NESTING ts z (u ∷ more) causes.TooDeep) c.front r)
by_cause ts before _ left number _ r c l is = absurd r

-- no more are left than there are
pub few_left : (ts : List Token) (left : ℕ) (cause : FormCause) → IsStop MAX_NESTING ts (Fault left cause) → left ≤ length ts
few_left ts left cause (before, rest, left_is, refused) =
    let cut : ts ≡ before ++ rest = cut_of MAX_NESTING ts before rest cause refused in
    let size : length ts ≡ length before + length rest = ap length cut ∙ length-append before rest in
    omega (arith, size, left_is)
