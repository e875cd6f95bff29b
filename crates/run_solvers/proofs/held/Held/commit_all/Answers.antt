-- What waits is committed.
use Rattle.std.proofs.Common.{◌≡◌, ℕ, ℤ, true, false, List, Some, refl, sym, ap, subst, ◌∙◌, arith, slice_get}
use Rattle.cbl_base.specs.declared.ids.VarId.{VarId}
use Rattle.comet_meaning.specs.Models.{after_moves}
use Rattle.ls_solver.specs.Committing.{AreDistinct}
use Rattle.ls_solver.specs.Ids.{has_definition, is_own}
use Rattle.run_solvers.specs.Changing.{evaluated}
use Rattle.run_solvers.specs.Views.{held_seen}
use Rattle.run_solvers.specs.Waiting.{indexed}
use Rattle.run_solvers.proofs.BlockLaws.{all_free, all_moves}
use Rattle.run_solvers.proofs.TriedLaws.{moved_as}
use Rattle.run_solvers.proofs.WaitingLaws.{moves_distinct}
use Rattle.run_solvers.proofs.held.Held.commit_all.Goals as goal

pub moves_of-requires : goal.moves_of-requires
moves_of-requires g c = let count = c.requires.waiting.1 in let few = c.keeps_form.ensures.few in omega (arith, count, few)

pub commit-requires-clause-distinct : goal.commit-requires-clause-distinct
commit-requires-clause-distinct g c = subst AreDistinct (sym (c.deref.ensures.value ∙ c.in-Ok.ensures)) (moves_distinct c.args.self.now.number 0 c.args.waiting.now)

pub commit-requires-clause-free : goal.commit-requires-clause-free
commit-requires-clause-free g c =
    let old = c.args.self.now in
    subst (λ (ms : List (VarId × ℤ)). (k : ℕ) (m : VarId × ℤ) → slice_get ms k ≡ Some m → (is_own old.solver m.0 ≡ true) × (has_definition old.solver.model m.0.index ≡ false))
    (sym (c.deref.ensures.value ∙ c.in-Ok.ensures)) (all_free old.solver old.number c.args.waiting.now c.requires.kept.0.number_ c.requires.waiting)

pub returns-in-Ok : goal.returns-in-Ok
returns-in-Ok g c =
    let old = c.args.self.now in
    let same = all_moves old.solver old.number c.args.waiting.now c.requires.kept.0.number_ c.requires.waiting c.keeps_form.ensures.assigned in
    moved_as old old _ c.commit.result _ _ refl refl
    (ap (λ (a : List ℤ). evaluated (record (held_seen old) { assignment = a })) (sym same)
    ∙ ap (λ (ms : List (VarId × ℤ)). evaluated (record (held_seen old) { assignment = after_moves (indexed ms) old.solver.assignment })) (sym (c.deref.ensures.value ∙ c.in-Ok.ensures))) c.commit.ensures
