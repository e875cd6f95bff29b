-- A refusal that names a token, as the refusal of the tokens where the rest is left.
use Rattle.std.specs.Prelude.{ℕ, List, take, drop}
use Rattle.std.proofs.Common.{sym, subst, arith}
use Rattle.std.proofs.lemmas.List.{drop_all}
use Rattle.cbl_base.specs.declared.limits.TheConstants.{MAX_NESTING}
use Rattle.comet_syntax.specs.declared.stop.FormCause.{FormCause}
use Rattle.comet_syntax.specs.declared.stop.FormCause.TheVariants as causes
use Rattle.comet_syntax.specs.declared.token.Token.{Token}
use Rattle.comet_syntax.specs.Refusal.{Refused}
use Rattle.comet_parse.specs.declared.stop.ParseStop.TheVariants as refusals
use Rattle.comet_parse.specs.Refusals.{IsRefusal}

pub record Found (tokens : List Token) (number : ℕ) (cause : FormCause) : Type 0 where
  pub before : List Token
  pub refused : Refused MAX_NESTING tokens before (drop number tokens) cause

pub found : (tokens : List Token) (number : ℕ) (cause : FormCause) → IsRefusal MAX_NESTING tokens (refusals.Fault number cause) → Found tokens number cause
found tokens number causes.UnexpectedEnd (r, e) = record {
  before = tokens;
  refused = subst (λ z. Refused MAX_NESTING tokens tokens z causes.UnexpectedEnd) (sym (drop_all number tokens (omega (arith, e)))) r;
}
found tokens number cause r = record { before = take number tokens; refused = r }
