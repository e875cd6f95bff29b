-- By how it begins.
use Rattle.std.proofs.Common.{◌≡◌, ℤ, ◌∙◌, ap, refl, sym, w64, to_z, of_z, rules}
use Rattle.comet_meaning.specs.Variables.{free}
use Rattle.run_solvers.specs.Changing.{added_one}
use Rattle.run_solvers.specs.Views.{beginning_seen, held_seen}
use Rattle.run_solvers.specs.declared.beginning.Beginning.{Beginning}
use Rattle.run_solvers.proofs.TriedLaws.{tried_as}
use Rattle.run_solvers.proofs.held.Held.try_add.Goals as goal

pub returns-in-Free-clause-tries : goal.returns-in-Free-clause-tries
returns-in-Free-clause-tries g c =
    let old = c.args.self.now in
    let m = held_seen old in
    let same : to_z w64 (of_z w64 c.in-Free.number) ≡ c.in-Free.number = search rules in
    tried_as old old _ c.add_free.result _ _ refl
    (ap (λ (b : Beginning). added_one c.args.at old.number c.args.decl c.args.name (beginning_seen b) m) c.in-Free.is
    ∙ ap (λ (z : ℤ). added_one c.args.at old.number c.args.decl c.args.name (free z) m) (sym same)) c.add_free.ensures.tries

pub returns-in-Defined-clause-tries : goal.returns-in-Defined-clause-tries
returns-in-Defined-clause-tries g c =
    let old = c.args.self.now in
    tried_as old old _ c.add_defined.result _ _ refl
    (ap (λ (b : Beginning). added_one c.args.at old.number c.args.decl c.args.name (beginning_seen b) (held_seen old)) c.in-Defined.is) c.add_defined.ensures.tries
