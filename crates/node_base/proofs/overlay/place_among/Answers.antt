use Rattle.std.proofs.Common.{◌≡◌, ◌∙◌, ℤ, ℕ, pos, get_or, w64, to_z, of_z, ap, sym, rules}
use Rattle.std.specs.Prelude.{FitsSigned}
use Rattle.std.proofs.lemmas.Int.{to_z-of_z}
use Rattle.node_base.proofs.OverlayLemmas.{place_here, place_passed}
use Rattle.node_base.proofs.overlay.place_among.Goals as goal

pub returns-then-count-number-clause-place : goal.returns-then-count-number-clause-place
returns-then-count-number-clause-place c =
    let x : ℤ × ℕ = get_or c.args.counts.now c.loop-place.place (pos 0, 0) in
    let fits : FitsSigned w64 (get_or c.args.counts.now c.loop-place.place (pos 0, 0)).0 = search rules in
    let at : (get_or c.args.counts.now c.loop-place.place (pos 0, 0)).0 ≡ c.args.number = sym (to_z-of_z w64 x.0 fits) ∙ ap (to_z w64) c.if-count-number.true ∙ to_z-of_z w64 c.args.number c.ranges.number in
    sym (place_here c.args.number c.args.counts.now c.loop-place.place (pos 0, 0) (simp (to_z-of_z w64 c.args.number c.ranges.number) at c.loop-place.invariant) c.loop-place-test.true at)

pub loop-place-preserved : goal.loop-place-preserved
loop-place-preserved c =
    rw (to_z-of_z w64 c.args.number c.ranges.number)
    (place_passed c.args.number c.args.counts.now c.loop-place.place (pos 0, 0) (simp (to_z-of_z w64 c.args.number c.ranges.number) at c.loop-place.invariant) c.loop-place-test.true (λ e. c.if-count-number.false (ap (of_z w64) e)))
