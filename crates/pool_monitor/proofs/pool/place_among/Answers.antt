use Rattle.std.proofs.Common.{◌≡◌, ℕ, ◌+◌, ◌-◌, ℤ, true, false, take, get_or, ap, sym, subst, ◌∙◌, arith, rules, FitsSigned, to_z, of_z, w64}
use Rattle.std.specs.Prelude.{int_lt}
use Rattle.std.proofs.lemmas.Int.{to_z-of_z}
use Rattle.pool_monitor.specs.Pool.{place_for}
use Rattle.pool_monitor.proofs.Places.{place_before, place_here}
use Rattle.pool_monitor.proofs.pool.place_among.Goals as goal

pub loop-place-preserved : goal.loop-place-preserved
loop-place-preserved c =
    let v : ℤ = to_z w64 (of_z w64 c.args.value) in
    let ss = c.args.solutions.now in
    let p : ℕ = c.loop-place.place - 1 in
    let fits : FitsSigned w64 (get_or ss p c.index-solutions-place.result).value = search rules in
    let less : int_lt v (get_or ss p c.index-solutions-place.result).value ≡ true = subst (λ w. int_lt v w ≡ true) (to_z-of_z w64 _ fits) c.if-value-solutions.true in
    let back : p + 1 ≡ c.loop-place.place = omega arith in
    (omega arith, sym (place_before v ss p c.index-solutions-place.result (omega arith) less) ∙ (ap (λ n. place_for v (take n ss)) back ∙ c.loop-place.invariant.1))

pub returns-else-value-solutions : goal.returns-else-value-solutions
returns-else-value-solutions c =
    let v : ℤ = to_z w64 (of_z w64 c.args.value) in
    let ss = c.args.solutions.now in
    let p : ℕ = c.loop-place.place - 1 in
    let own : FitsSigned w64 c.args.value = search rules in
    let fits : FitsSigned w64 (get_or ss p c.index-solutions-place.result).value = search rules in
    let less : int_lt v (get_or ss p c.index-solutions-place.result).value ≡ false = subst (λ w. int_lt v w ≡ false) (to_z-of_z w64 _ fits) c.if-value-solutions.false in
    let back : p + 1 ≡ c.loop-place.place = omega arith in
    subst (λ w. c.loop-place.place ≡ place_for w ss) (to_z-of_z w64 c.args.value own)
    (sym (sym c.loop-place.invariant.1 ∙ (ap (λ n. place_for v (take n ss)) (sym back) ∙ (place_here v ss p c.index-solutions-place.result (omega arith) less ∙ back))))
