-- The solver is there, and the change is its own; or it isn't there.
use Rattle.std.proofs.Common.{◌≡◌, ◌<◌, List, length, get_or, map, set, subst, refl, sym, ◌∙◌, ap, arith, rules}
use Rattle.run_solvers.specs.Told.{TellsIn}
use Rattle.run_solvers.proofs.ToldLaws.{nothing_told, tells_there}
use Rattle.comet_meaning.specs.Outcome.{Went}
use Rattle.std.specs.Prelude.{slice_index_or}
use Rattle.comet_meaning.specs.Solvers.{SolverState, new_solver}
use Rattle.run_solvers.specs.Changing.{changed_where, committed_one}
use Rattle.run_solvers.specs.Views.{held_seen}
use Rattle.run_solvers.proofs.Acts.{commits}
use Rattle.run_solvers.proofs.FoundSolvers as found_solvers
use Rattle.run_solvers.proofs.FoundSolvers.{changed_kept, commits_or, does_so, found, kept_there, not_found}
use Rattle.run_solvers.proofs.solvers.Solvers.commit_waiting.Goals as goal

pub returns-then-number-len-clause-did : goal.returns-then-number-len-clause-did
returns-then-number-len-clause-did g c = λ s is.
    let held = c.self.inside.held.items in
    let none = not_found held c.args.number s (is ∙ sym c.self.view_is) (omega (arith, c.len.ensures, c.if-number-len.true)) in
    commits c.args.number s
    ∙ ap (λ (m : SolverState). changed_where c.args.number (committed_one m m.waiting) s) none
    ∙ ap (λ (ms : List SolverState). Went tt (record s { solvers = ms })) is

pub commit_waiting-requires : goal.commit_waiting-requires
commit_waiting-requires g c =
    let held = c.self.inside.held.items in
    let there : c.index_mut.result.now ≡ get_or held c.args.number c.index_mut.result.now = search rules in
    (kept_there held c.args.number c.index_mut.result.now c.self.invariant (omega (arith, c.len.ensures, c.if-number-len.false)) there).1

pub invariant_of-self : goal.invariant_of-self
invariant_of-self g c =
    let held = c.self.inside.held.items in
    let there : c.index_mut.result.now ≡ get_or held c.args.number c.index_mut.result.now = search rules in
    let lt : c.args.number < length held = omega (arith, c.len.ensures, c.if-number-len.false) in
    let old = kept_there held c.args.number c.index_mut.result.now c.self.invariant lt there in
    changed_kept held c.self.invariant c.args.number c.commit_waiting.new.self lt (c.commit_waiting.ensures.number ∙ old.0) c.commit_waiting.ensures.kept

pub returns-clause-did : goal.returns-clause-did
returns-clause-did g c = λ s is.
    let held = c.self.inside.held.items in
    let all = is ∙ sym c.self.view_is in
    let there : c.index_mut.result.now ≡ get_or held c.args.number c.index_mut.result.now = search rules in
    let lt : c.args.number < length held = omega (arith, c.len.ensures, c.if-number-len.false) in
    rw (commits c.args.number s, commits_or c.args.number s _, found held c.args.number c.index_mut.result.now s all lt there) (does_so tt c.args.number s held c.commit_waiting.new.self c.commit_waiting.result _ all c.commit_waiting.ensures.meant)

pub returns-clause-stop : goal.returns-clause-stop
returns-clause-stop g c = found_solvers.no_cycle_so (held_seen c.commit_waiting.new.self) c.commit_waiting.result _ (found_solvers.committed_none (held_seen c.index_mut.result.now) (held_seen c.index_mut.result.now).waiting) c.commit_waiting.ensures.meant

pub returns-then-number-len-clause-told : goal.returns-then-number-len-clause-told
returns-then-number-len-clause-told g c =
    let m : SolverState = slice_index_or c.args.self.now c.args.number new_solver in
    nothing_told c.args.number m m c.new.result refl refl refl c.new.ensures.items

pub returns-clause-told : goal.returns-clause-told
returns-clause-told g c =
    let held = c.self.inside.held.items in
    let there : c.index_mut.result.now ≡ get_or held c.args.number c.index_mut.result.now = search rules in
    let lt : c.args.number < length held = omega (arith, c.len.ensures, c.if-number-len.false) in
    let old = kept_there held c.args.number c.index_mut.result.now c.self.invariant lt there in
    subst (λ (ms : List SolverState). TellsIn c.args.number ms (map held_seen (set held c.args.number c.commit_waiting.new.self)) c.commit_waiting.result) c.self.view_is (tells_there held c.args.number c.index_mut.result.now c.commit_waiting.new.self c.commit_waiting.result old.0 lt there c.commit_waiting.ensures.told)
