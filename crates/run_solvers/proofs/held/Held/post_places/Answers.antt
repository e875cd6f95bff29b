-- The terms stand in a row.
use Rattle.std.proofs.Common.{◌≡◌, ℤ, refl, sym, ap, w64, to_z, of_z, rules}
use Rattle.posted_users.specs.KeptOf.{kept_of}
use Rattle.ls_solver.specs.Totals.{whole_of}
use Rattle.run_solvers.specs.Changing.{posted_user_one}
use Rattle.run_solvers.specs.Views.{held_seen}
use Rattle.run_solvers.proofs.TriedLaws.{tried_as}
use Rattle.run_solvers.proofs.held.Held.post_places.Goals as goal

pub post_row-requires-clause-built : goal.post_row-requires-clause-built
post_row-requires-clause-built g c = (c.args.places.items, c.in-Ok.ensures)

pub returns-in-Ok : goal.returns-in-Ok
returns-in-Ok g c =
    let old = c.args.self.now in
    let rule = kept_of (g.N.NodeRule.rule c.args.node) in
    let same : to_z w64 (of_z w64 c.args.weight) ≡ c.args.weight = search rules in
    tried_as old old _ c.post_row.result _ _ refl (ap (λ (z : ℤ). posted_user_one c.args.at c.args.total.solver (whole_of c.args.total) rule c.args.places.items z (held_seen old)) (sym same)) (c.post_row.ensures c.args.places.items c.in-Ok.ensures)

pub returns-in-Err : goal.returns-in-Err
returns-in-Err g c = record { meant = tt; kept = tt; number = refl }
