-- The solver is there, and the change is its own; or it isn't there.
use Rattle.std.proofs.Common.{◌≡◌, ℕ, ◌<◌, length, get_or, map, set, sym, ◌∙◌, subst, arith, rules}
use Rattle.comet_meaning.specs.Values as values
use Rattle.run_solvers.specs.Changing.{objective_one, changed}
use Rattle.run_values.specs.Did.{Did}
use Rattle.run_values.specs.Views.{value_seen}
use Rattle.run_solvers.specs.Views.{held_seen}
use Rattle.run_solvers.proofs.TotalActs.{makes_objective, objective_none}
use Rattle.run_solvers.proofs.FoundSolvers.{changed_kept, does, found, kept_there, no_cycle_so}
use Rattle.run_solvers.proofs.solvers.Solvers.objective_in.Goals as goal

pub new_objective-requires : goal.new_objective-requires
new_objective-requires g c =
    let held = c.self.inside.held.items in
    let there : c.index_mut.result.now ≡ get_or held c.args.solver c.index_mut.result.now = search rules in
    (kept_there held c.args.solver c.index_mut.result.now c.self.invariant (omega (arith, c.len.ensures, c.if-number-len.false)) there).1

pub invariant_of-self : goal.invariant_of-self
invariant_of-self g c =
    let held = c.self.inside.held.items in
    let there : c.index_mut.result.now ≡ get_or held c.args.solver c.index_mut.result.now = search rules in
    let lt : c.args.solver < length held = omega (arith, c.len.ensures, c.if-number-len.false) in
    let old = kept_there held c.args.solver c.index_mut.result.now c.self.invariant lt there in
    changed_kept held c.self.invariant c.args.solver c.new_objective.new.self lt (c.new_objective.ensures.changes.number ∙ old.0) c.new_objective.ensures.changes.kept

pub returns-clause-did : goal.returns-clause-did
returns-clause-did g c = λ s is.
    let held = c.self.inside.held.items in
    let all = is ∙ sym c.self.view_is in
    let there : c.index_mut.result.now ≡ get_or held c.args.solver c.index_mut.result.now = search rules in
    let lt : c.args.solver < length held = omega (arith, c.len.ensures, c.if-number-len.false) in
    let m = held_seen c.index_mut.result.now in
    let numbered = (kept_there held c.args.solver c.index_mut.result.now c.self.invariant lt there).0 in
    rw (found held c.args.solver c.index_mut.result.now s all lt there, makes_objective c.args.at c.args.solver c.args.built m s)
    (subst (λ (k : ℕ). Did value_seen c.new_objective.result (record s { solvers = map held_seen (set held c.args.solver c.new_objective.new.self) }) (changed (values.Objective k (length m.model.objectives.items)) c.args.solver (objective_one c.args.at k c.args.built m) s)) numbered
    (does value_seen _ c.args.solver s held c.new_objective.new.self c.new_objective.result _ all c.new_objective.ensures.value c.new_objective.ensures.changes.meant))

pub returns-clause-stop : goal.returns-clause-stop
returns-clause-stop g c = no_cycle_so (held_seen c.new_objective.new.self) c.new_objective.result _ (objective_none c.args.at _ c.args.built (held_seen c.index_mut.result.now)) c.new_objective.ensures.changes.meant
