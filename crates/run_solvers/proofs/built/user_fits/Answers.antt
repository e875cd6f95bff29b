-- It is as deep as the deepest place and one more.
use Rattle.std.proofs.Common.{ℕ, ◌<◌, ◌≤◌, ◌^◌, length, subst, rules, arith}
use Rattle.cbl_base.specs.declared.limits.TheConstants.{MAX_TERM_DEPTH}
use Rattle.cbl_operations.specs.declared.op.Op.TheVariants.{User}
use Rattle.run_solvers.proofs.FittingLaws.{fitting, too_deep}
use Rattle.run_solvers.proofs.built.user_fits.Goals as goal

pub returns-then-deepest_of-ge-MAX_TERM_DEPTH-clause-did :
    goal.returns-then-deepest_of-ge-MAX_TERM_DEPTH-clause-did
returns-then-deepest_of-ge-MAX_TERM_DEPTH-clause-did c = λ number s.
    let short : length c.args.places.now < 2 ^ 63 = search rules in
    too_deep (User number) c.args.places.now c.args.at s (omega (arith, short)) (subst (λ (n : ℕ). MAX_TERM_DEPTH ≤ n) c.deepest_of.ensures c.if-deepest_of-ge-MAX_TERM_DEPTH.true)

pub returns-clause-did : goal.returns-clause-did
returns-clause-did c = λ number s.
    let short : length c.args.places.now < 2 ^ 63 = search rules in
    fitting (User number) c.args.places.now c.args.at s (omega (arith, short)) (subst (λ (n : ℕ). n < MAX_TERM_DEPTH) c.deepest_of.ensures c.if-deepest_of-ge-MAX_TERM_DEPTH.false)
