-- The solver is there, and the change is its own; or it isn't there.
use Rattle.std.proofs.Common.{◌≡◌, ◌<◌, length, get_or, sym, ◌∙◌, arith, rules}
use Rattle.comet_meaning.specs.Values.{Nothing}
use Rattle.run_solvers.specs.Views.{held_seen}
use Rattle.run_solvers.proofs.Acts.{closes}
use Rattle.run_solvers.proofs.FoundSolvers as found_solvers
use Rattle.run_solvers.proofs.FoundSolvers.{changed_kept, does, does_so, found, kept_there, not_found}
use Rattle.run_solvers.proofs.solvers.Solvers.close.Goals as goal

pub close-requires : goal.close-requires
close-requires g c =
    let held = c.self.inside.held.items in
    let there : c.index_mut.result.now ≡ get_or held c.args.number c.index_mut.result.now = search rules in
    (kept_there held c.args.number c.index_mut.result.now c.self.invariant (omega (arith, c.len.ensures, c.if-number-len.false)) there).1

pub invariant_of-self : goal.invariant_of-self
invariant_of-self g c =
    let held = c.self.inside.held.items in
    let there : c.index_mut.result.now ≡ get_or held c.args.number c.index_mut.result.now = search rules in
    let lt : c.args.number < length held = omega (arith, c.len.ensures, c.if-number-len.false) in
    let old = kept_there held c.args.number c.index_mut.result.now c.self.invariant lt there in
    changed_kept held c.self.invariant c.args.number c.close.new.self lt (c.close.ensures.number ∙ old.0) c.close.ensures.kept

pub returns-clause-did : goal.returns-clause-did
returns-clause-did g c = λ s is.
    let held = c.self.inside.held.items in
    let all = is ∙ sym c.self.view_is in
    let there : c.index_mut.result.now ≡ get_or held c.args.number c.index_mut.result.now = search rules in
    let lt : c.args.number < length held = omega (arith, c.len.ensures, c.if-number-len.false) in
    rw (closes c.args.at c.args.number s, found held c.args.number c.index_mut.result.now s all lt there) (does_so Nothing c.args.number s held c.close.new.self c.close.result _ all c.close.ensures.meant)

pub returns-clause-stop : goal.returns-clause-stop
returns-clause-stop g c = found_solvers.makes_so (held_seen c.close.new.self) c.close.result _ c.close.ensures.meant
