-- The exits of functions.
use Rattle.std.specs.Prelude.{◌≡◌, Result, IfErr}
use Rattle.std.specs.Result.{IsErrAnd}
use Rattle.std.proofs.Common.{sym, subst}
use Rattle.std.proofs.lemmas.Result.{err_from_is_err_and}

-- the exit of a `?` passes a stop on
pub passes : {T E : Type 0} (P : E → Type 0) (r : Result T E) (s : E) → IsErrAnd r (λ e. e ≡ s) → P s → IfErr r P
passes P r s h f = let p = err_from_is_err_and r h in rw p.1 (subst P (sym p.2) f)
