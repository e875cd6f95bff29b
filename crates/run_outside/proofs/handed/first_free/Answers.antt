-- The first one that is open is found, or none is.
use Rattle.std.proofs.Common.{◌∙◌, sym, arith}
use Rattle.run_outside.proofs.HandedLaws.{first_at, none_free}
use Rattle.run_outside.proofs.handed.first_free.Goals as goal

pub returns-then-is_open : goal.returns-then-is_open
returns-then-is_open g c = sym (first_at _ _ _ _ c.loop-number.invariant c.index-users-number.is (let lt = c.loop-number-test.true in omega (arith, lt)) (sym c.is_open.ensures ∙ c.if-is_open.true))

pub returns : goal.returns
returns g c = sym (none_free _ _ (λ k d lt. c.loop-number.invariant k d (let past = c.loop-number-test.false in omega (arith, lt, past))))
