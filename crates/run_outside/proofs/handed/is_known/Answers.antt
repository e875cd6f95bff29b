-- None has the name.
use Rattle.std.proofs.Common.{sym, arith}
use Rattle.run_outside.proofs.HandedLaws.{none_known}
use Rattle.run_outside.proofs.handed.is_known.Goals as goal

pub returns : goal.returns
returns g c = sym (none_known _ _ (λ k d lt. c.loop-user.invariant k d (let past = c.loop-user-test.false in omega (arith, lt, past))))
