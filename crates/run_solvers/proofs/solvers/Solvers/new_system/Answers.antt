-- The solver is there, and the change is its own; or it isn't there.
use Rattle.std.proofs.Common.{◌≡◌, ℕ, ◌<◌, length, get_or, map, set, sym, ◌∙◌, subst, arith, rules}
use Rattle.term_model.specs.declared.posting.Side.TheVariants.{Systems}
use Rattle.comet_meaning.specs.Values as values
use Rattle.run_solvers.specs.Changing.{total_one, changed}
use Rattle.run_values.specs.Did.{Did}
use Rattle.run_values.specs.Views.{value_seen}
use Rattle.run_solvers.specs.Views.{held_seen}
use Rattle.run_solvers.proofs.TotalActs.{makes_system, total_none}
use Rattle.run_solvers.proofs.FoundSolvers.{changed_kept, does, found, kept_there, no_cycle_so}
use Rattle.run_solvers.proofs.solvers.Solvers.new_system.Goals as goal

pub new_system-requires : goal.new_system-requires
new_system-requires g c =
    let held = c.self.inside.held.items in
    let there : c.index_mut.result.now ≡ get_or held c.args.number c.index_mut.result.now = search rules in
    (kept_there held c.args.number c.index_mut.result.now c.self.invariant (omega (arith, c.len.ensures, c.if-number-len.false)) there).1

pub invariant_of-self : goal.invariant_of-self
invariant_of-self g c =
    let held = c.self.inside.held.items in
    let there : c.index_mut.result.now ≡ get_or held c.args.number c.index_mut.result.now = search rules in
    let lt : c.args.number < length held = omega (arith, c.len.ensures, c.if-number-len.false) in
    let old = kept_there held c.args.number c.index_mut.result.now c.self.invariant lt there in
    changed_kept held c.self.invariant c.args.number c.new_system.new.self lt (c.new_system.ensures.changes.number ∙ old.0) c.new_system.ensures.changes.kept

pub returns-clause-did : goal.returns-clause-did
returns-clause-did g c = λ s is.
    let held = c.self.inside.held.items in
    let all = is ∙ sym c.self.view_is in
    let there : c.index_mut.result.now ≡ get_or held c.args.number c.index_mut.result.now = search rules in
    let lt : c.args.number < length held = omega (arith, c.len.ensures, c.if-number-len.false) in
    let m = held_seen c.index_mut.result.now in
    let numbered = (kept_there held c.args.number c.index_mut.result.now c.self.invariant lt there).0 in
    rw (makes_system c.args.at c.args.number s, found held c.args.number c.index_mut.result.now s all lt there)
    (subst (λ (k : ℕ). Did value_seen c.new_system.result (record s { solvers = map held_seen (set held c.args.number c.new_system.new.self) }) (changed (values.System k (length m.model.systems.items)) c.args.number (total_one c.args.at Systems m) s)) numbered
    (does value_seen _ c.args.number s held c.new_system.new.self c.new_system.result _ all c.new_system.ensures.value c.new_system.ensures.changes.meant))

pub returns-clause-stop : goal.returns-clause-stop
returns-clause-stop g c = no_cycle_so (held_seen c.new_system.new.self) c.new_system.result _ (total_none c.args.at (held_seen c.index_mut.result.now)) c.new_system.ensures.changes.meant
