-- What was tried is finished.
use Rattle.std.proofs.Common.{◌≡◌, ℤ, refl, sym, ap, w64, to_z, of_z, rules}
use Rattle.run_solvers.specs.Changing.{assigned_one}
use Rattle.run_solvers.specs.Views.{held_seen}
use Rattle.run_solvers.proofs.ToldLaws.{finished_moves}
use Rattle.run_solvers.proofs.TriedLaws.{moved_as}
use Rattle.run_solvers.proofs.held.Held.assign.Goals as goal

pub finish-requires : goal.finish-requires
finish-requires g c = c.try_assign-made.ensures.kept

pub returns : goal.returns
returns g c =
    let old = c.args.self.now in
    let same : to_z w64 (of_z w64 c.args.number) ≡ c.args.number = search rules in
    finished_moves old _ _ c.try_assign-made.result c.finish.result _
    (moved_as old old _ c.try_assign-made.result _ _ refl refl (ap (λ (z : ℤ). assigned_one c.args.at c.args.variable z (held_seen old)) (sym same)) c.try_assign-made.ensures)
    c.finish.ensures.same c.finish.ensures.kept c.finish.ensures.number c.finish.ensures.unchanged
