-- The exit of a `?` passes a cause on.
use Rattle.std.proofs.Common.{◌≡◌, sym, subst}
use Rattle.std.specs.Prelude.{Result, IfErr}
use Rattle.std.specs.Result.{IsErrAnd}
use Rattle.std.proofs.lemmas.Result.{err_from_is_err_and}
use Rattle.comet.specs.declared.report.Cause.{Cause}

pub passes : {T : Type 0} (P : Cause → Type 0) (r : Result T Cause) (cause : Cause) → IsErrAnd r (λ e. e ≡ cause) → P cause → IfErr r P
passes P r cause h f = let p = err_from_is_err_and r h in rw p.1 (subst P (sym p.2) f)
