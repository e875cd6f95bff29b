-- The solver is there, and the change is its own; or it isn't there.
use Rattle.std.proofs.Common.{◌≡◌, ◌<◌, length, get_or, refl, sym, ◌∙◌, arith, rules}
use Rattle.run_solvers.specs.Views.{held_seen}
use Rattle.run_solvers.proofs.FoundSolvers as found_solvers
use Rattle.run_solvers.proofs.FoundSolvers.{changed_kept, does, found, kept_there, not_found, opens}
use Rattle.run_solvers.proofs.solvers.Solvers.open_block.Goals as goal

pub returns-then-number-len-clause-did : goal.returns-then-number-len-clause-did
returns-then-number-len-clause-did g c = λ s is.
    let held = c.self.inside.held.items in
    let none = not_found held c.args.number s (is ∙ sym c.self.view_is) (omega (arith, c.len.ensures, c.if-number-len.true)) in
    opens c.args.at c.args.number s ∙ rw none refl

pub open_block-requires : goal.open_block-requires
open_block-requires g c =
    let held = c.self.inside.held.items in
    let there : c.index_mut.result.now ≡ get_or held c.args.number c.index_mut.result.now = search rules in
    (kept_there held c.args.number c.index_mut.result.now c.self.invariant (omega (arith, c.len.ensures, c.if-number-len.false)) there).1

pub invariant_of-self : goal.invariant_of-self
invariant_of-self g c =
    let held = c.self.inside.held.items in
    let there : c.index_mut.result.now ≡ get_or held c.args.number c.index_mut.result.now = search rules in
    let lt : c.args.number < length held = omega (arith, c.len.ensures, c.if-number-len.false) in
    let old = kept_there held c.args.number c.index_mut.result.now c.self.invariant lt there in
    changed_kept held c.self.invariant c.args.number c.open_block.new.self lt (c.open_block.ensures.changes.number ∙ old.0) c.open_block.ensures.changes.kept

pub returns-clause-did : goal.returns-clause-did
returns-clause-did g c = λ s is.
    let held = c.self.inside.held.items in
    let all = is ∙ sym c.self.view_is in
    let there : c.index_mut.result.now ≡ get_or held c.args.number c.index_mut.result.now = search rules in
    let lt : c.args.number < length held = omega (arith, c.len.ensures, c.if-number-len.false) in
    rw (opens c.args.at c.args.number s, found held c.args.number c.index_mut.result.now s all lt there) (does (λ y. y) _ c.args.number s held c.open_block.new.self c.open_block.result _ all c.open_block.ensures.outermost c.open_block.ensures.changes.meant)

pub returns-clause-stop : goal.returns-clause-stop
returns-clause-stop g c = found_solvers.no_cycle_so (held_seen c.open_block.new.self) c.open_block.result _ (found_solvers.opened_none c.args.at (held_seen c.index_mut.result.now)) c.open_block.ensures.changes.meant
