-- The solver is there, and the change is its own; or it isn't there.
use Rattle.std.proofs.Common.{◌≡◌, ℕ, ◌<◌, length, get_or, map, set, sym, ◌∙◌, subst, arith, rules}
use Rattle.cbl_base.specs.declared.ids.VarId.{VarId}
use Rattle.comet_meaning.specs.Variables.{next_variable}
use Rattle.run_solvers.specs.Changing.{added_one, changed}
use Rattle.run_values.specs.Did.{Did}
use Rattle.run_solvers.specs.Views.{beginning_seen, held_seen}
use Rattle.run_solvers.proofs.Acts.{adds}
use Rattle.run_solvers.proofs.FoundSolvers as found_solvers
use Rattle.run_solvers.proofs.FoundSolvers.{changed_kept, does, does_so, found, kept_there, not_found}
use Rattle.run_solvers.proofs.solvers.Solvers.add.Goals as goal

pub add-requires : goal.add-requires
add-requires g c =
    let held = c.self.inside.held.items in
    let there : c.index_mut.result.now ≡ get_or held c.args.number c.index_mut.result.now = search rules in
    (kept_there held c.args.number c.index_mut.result.now c.self.invariant (omega (arith, c.len.ensures, c.if-number-len.false)) there).1

pub invariant_of-self : goal.invariant_of-self
invariant_of-self g c =
    let held = c.self.inside.held.items in
    let there : c.index_mut.result.now ≡ get_or held c.args.number c.index_mut.result.now = search rules in
    let lt : c.args.number < length held = omega (arith, c.len.ensures, c.if-number-len.false) in
    let old = kept_there held c.args.number c.index_mut.result.now c.self.invariant lt there in
    changed_kept held c.self.invariant c.args.number c.add.new.self lt (c.add.ensures.changes.number ∙ old.0) c.add.ensures.changes.kept

pub returns-clause-did : goal.returns-clause-did
returns-clause-did g c = λ s is.
    let held = c.self.inside.held.items in
    let all = is ∙ sym c.self.view_is in
    let there : c.index_mut.result.now ≡ get_or held c.args.number c.index_mut.result.now = search rules in
    let lt : c.args.number < length held = omega (arith, c.len.ensures, c.if-number-len.false) in
    let m = held_seen c.index_mut.result.now in
    let begun = beginning_seen c.args.beginning in
    let numbered = (kept_there held c.args.number c.index_mut.result.now c.self.invariant lt there).0 in
    rw (adds c.args.at c.args.number c.args.decl c.args.name begun s, found held c.args.number c.index_mut.result.now s all lt there)
    (subst (λ (k : ℕ). Did (λ (x : VarId). x) c.add.result (record s { solvers = map held_seen (set held c.args.number c.add.new.self) }) (changed (next_variable k m) c.args.number (added_one c.args.at k c.args.decl c.args.name begun m) s)) numbered
    (does (λ (x : VarId). x) _ c.args.number s held c.add.new.self c.add.result _ all c.add.ensures.id c.add.ensures.changes.meant))

pub returns-clause-stop : goal.returns-clause-stop
returns-clause-stop g c = found_solvers.no_cycle_so (held_seen c.add.new.self) c.add.result _ (found_solvers.added_none c.args.at _ c.args.decl c.args.name (beginning_seen c.args.beginning) (held_seen c.index_mut.result.now)) c.add.ensures.changes.meant
