-- What holds where a call succeeds.
use Rattle.std.proofs.Common.{Result, Ok, Err}
use Rattle.std.specs.Prelude.{OnOk}

-- two facts give a third
pub two_ok : {X E : Type 0} (r : Result X E) (P Q R : Type 0) → (P → Q → R) → OnOk r P → OnOk r Q → OnOk r R
two_ok (Ok x) P Q R f p q = f p q
two_ok (Err e) P Q R f p q = tt

-- what holds anyway
pub ok_anyway : {X E : Type 0} (r : Result X E) (P : Type 0) → P → OnOk r P
ok_anyway (Ok x) P p = p
ok_anyway (Err e) P p = tt
