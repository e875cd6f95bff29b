use Rattle.std.proofs.Common.{rules, ◌≡◌, ◌∙◌, ap, arith, ◌+◌, ◌-◌, ◌≤◌, w64, pos, get_or}
use Rattle.std.specs.Prelude.{FitsSigned}
use Rattle.std.proofs.lemmas.Int.{to_z-of_z, to_z_pos}
use Rattle.own_constraint.specs.Rest.{capped, short_rests_at}
use Rattle.own_constraint.proofs.RestLemmas.{both}
use Rattle.own_constraint.proofs.rest.violations_at.Goals as goal

pub returns : goal.returns
returns c =
    let day = c.args.day in
    let xs = c.args.shifts.now in
    let before : FitsSigned w64 (get_or xs (day - 1) (pos 0)) = search rules in
    let at : FitsSigned w64 (get_or xs day (pos 0)) = search rules in
    let behind : FitsSigned w64 c.shift.result = search rules in
    let low : 1 ≤ day = search rules in
    let is : c.short_rest-before.result + c.short_rest-behind.result ≡ capped (short_rests_at xs day) =
    both xs day c.short_rest-before.result c.short_rest-behind.result _ _ _ _ low (to_z-of_z w64 _ before) (to_z-of_z w64 _ at)
    (to_z-of_z w64 _ at) (to_z-of_z w64 _ behind ∙ c.shift.ensures) c.short_rest-before.ensures.rule c.short_rest-behind.ensures.rule
    c.short_rest-before.ensures.one c.short_rest-behind.ensures.one
    in
    to_z_pos w64 _ (omega (arith, c.short_rest-before.ensures.one, c.short_rest-behind.ensures.one)) ∙ ap pos is
