use Rattle.std.proofs.Common.{◌≡◌, get_or, FitsSigned, ◌∙◌, sym, ap, Ok, rules, pos, List, [], ◌∷◌, length, fold, arith, to_z, of_z, refl, w64}
use Rattle.std.specs.Prelude.{ℤ}
use Rattle.std.specs.Int.{int_min}
use Rattle.std.proofs.lemmas.Int.{to_z-of_z}
use Rattle.std.proofs.lemmas.List.{take_all}
use Rattle.std.proofs.lemmas.List.Sums.{fold_more}
use Rattle.cbl_violations.specs.Violations.AnyOf.{any_of_violations, least}
use Rattle.cbl_violations.proofs.combined.any_of_violations.Goals as goal

-- a list of length 0 has no least number
none : (xs : List ℤ) → length xs ≡ 0 → pos 0 ≡ least xs
none [] e = refl
none (x ∷ xs) e = absurd (omega arith)

pub returns-in_default : goal.returns-in_default
unfolding any_of_violations
returns-in_default c = ap Ok (none c.args.members.now c.in_default.ensures.cases)

pub returns : goal.returns
unfolding any_of_violations
returns c =
    let first = to_z-of_z w64 c.in-Some.first.now (search rules) in
    let all = take_all c.loop-member.member-index c.in-Some.others.now c.loop-member-test.false in
    ap Ok (c.loop-member.invariant ∙ ap (λ xs. fold int_min (to_z w64 (of_z w64 c.in-Some.first.now)) xs) all ∙ ap (λ x. fold int_min x c.in-Some.others.now) first
    ∙ sym (ap least c.in-Some.ensures.cases.0))

pub loop-member-preserved : goal.loop-member-preserved
loop-member-preserved c =
    let others = c.in-Some.others.now in
    let i = c.loop-member.member-index in
    let member = get_or others i (pos 0) in
    let least_fits : FitsSigned w64 c.min-least.result = search rules in
    let member_fits : FitsSigned w64 member = search rules in
    to_z-of_z w64 c.min-least.result least_fits ∙ c.min-least.ensures.value
    ∙ ap (λ x. int_min (to_z w64 c.loop-member.least-bits) x) (to_z-of_z w64 member member_fits)
    ∙ ap (λ x. int_min x member) c.loop-member.invariant
    ∙ sym (fold_more int_min (to_z w64 (of_z w64 c.in-Some.first.now)) others i (pos 0) c.loop-member-test.true)
