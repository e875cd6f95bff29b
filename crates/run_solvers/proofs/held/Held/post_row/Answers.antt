-- No place is too deep, and each is a number.
use Rattle.std.proofs.Common.{◌≡◌, ℕ, ℤ, ◌≤◌, refl, sym, subst, ap, w64, to_z, of_z, rules, arith}
use Rattle.posted_users.specs.KeptOf.{kept_of}
use Rattle.ls_solver.specs.Totals.{whole_of}
use Rattle.run_solvers.specs.Changing.{posted_user_one}
use Rattle.run_solvers.specs.Views.{held_seen}
use Rattle.cbl_base.specs.declared.limits.TheConstants.{MAX_TERM_DEPTH}
use Rattle.run_solvers.proofs.TriedLaws.{tried_as}
use Rattle.run_solvers.proofs.UserLaws.{each_within, none_hold}
use Rattle.run_solvers.proofs.held.Held.post_row.Goals as goal

pub returns-then-row-ge-MAX_TERM_DEPTH : goal.returns-then-row-ge-MAX_TERM_DEPTH
returns-then-row-ge-MAX_TERM_DEPTH g c = λ plain are. record { meant = tt; kept = tt; number = refl }

pub are_numbers-requires : goal.are_numbers-requires
are_numbers-requires g c =
    let are = c.requires.built.1 in
    let within = each_within MAX_TERM_DEPTH c.args.row.terms.items (subst (λ (n : ℕ). n ≤ MAX_TERM_DEPTH) are.depth are.within) in
    rw c.deref.ensures.value within

pub post_numbers-requires-clause-deep : goal.post_numbers-requires-clause-deep
post_numbers-requires-clause-deep g c = let lt = c.if-row-ge-MAX_TERM_DEPTH.false in omega (arith, lt)

pub post_numbers-requires-clause-users : goal.post_numbers-requires-clause-users
post_numbers-requires-clause-users g c = none_hold c.args.row.terms.items c.requires.built.1.users

pub post_numbers-requires-clause-kinds : goal.post_numbers-requires-clause-kinds
post_numbers-requires-clause-kinds g c = rw c.deref.ensures.value at (c.in-Ok-true.ensures c.in-Ok-true.field-0-test)

pub returns-in-Ok-true : goal.returns-in-Ok-true
returns-in-Ok-true g c = λ plain are.
    let old = c.args.self.now in
    let rule = kept_of (g.N.NodeRule.rule c.args.node) in
    let same : to_z w64 (of_z w64 c.args.weight) ≡ c.args.weight = search rules in
    tried_as old old _ c.post_numbers.result _ _ refl (ap (λ (z : ℤ). posted_user_one c.args.at c.args.total.solver (whole_of c.args.total) rule plain z (held_seen old)) (sym same)) (c.post_numbers.ensures plain are)

pub returns-in-Ok-false : goal.returns-in-Ok-false
returns-in-Ok-false g c = λ plain are. record { meant = tt; kept = tt; number = refl }

pub returns-in-Err : goal.returns-in-Err
returns-in-Err g c = λ plain are. record { meant = tt; kept = tt; number = refl }
