-- What was tried is finished.
use Rattle.std.proofs.Common.{◌≡◌, ℤ, refl, sym, ap, w64, to_z, of_z, rules}
use Rattle.posted_users.specs.KeptOf.{kept_of}
use Rattle.ls_solver.specs.Totals.{whole_of}
use Rattle.run_solvers.specs.Changing.{posted_user_one}
use Rattle.run_solvers.specs.Views.{held_seen}
use Rattle.run_solvers.proofs.FoundSolvers.{finished}
use Rattle.run_solvers.proofs.TriedLaws.{tried_as}
use Rattle.run_solvers.proofs.held.Held.post_user.Goals as goal

pub finish-requires : goal.finish-requires
finish-requires g c = c.try_post_user-made.ensures.kept

pub returns : goal.returns
returns g c =
    let old = c.args.self.now in
    let rule = kept_of (g.N.NodeRule.rule c.args.node) in
    let same : to_z w64 (of_z w64 c.args.weight) ≡ c.args.weight = search rules in
    finished old _ _ c.try_post_user-made.result c.finish.result _
    (tried_as old old _ c.try_post_user-made.result _ _ refl (ap (λ (z : ℤ). posted_user_one c.args.at c.args.total.solver (whole_of c.args.total) rule c.args.places.items z (held_seen old)) (sym same)) c.try_post_user-made.ensures)
    c.finish.ensures.same c.finish.ensures.kept c.finish.ensures.number c.finish.ensures.unchanged
