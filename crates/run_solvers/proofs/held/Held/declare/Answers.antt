-- The variable is there with its name, or stops as it is meant to.
use Rattle.std.proofs.Common.{◌≡◌, refl, w64, to_z, of_z, rules}
use Rattle.run_solvers.specs.Views.{waits}
use Rattle.run_solvers.proofs.AddLaws.{declared_numbers, declared_others, declared_whole, declares_ok, declares_stops}
use Rattle.run_solvers.proofs.SeenLaws.{count_seen}
use Rattle.run_solvers.proofs.held.Held.declare.Goals as goal

pub declare-requires : goal.declare-requires
declare-requires g c = c.requires.0.usable

pub returns-in-Err-clause-meant : goal.returns-in-Err-clause-meant
returns-in-Err-clause-meant g c =
    let old = c.args.self.now in
    declares_stops old.solver old.solver old.names (waits old) c.args.at c.args.decl c.args.name c.args.start c.in-Err.fault c.stop_of.result c.in-Err.ensures.answer c.stop_of.ensures

pub returns-in-Ok-push-clause-meant : goal.returns-in-Ok-push-clause-meant
returns-in-Ok-push-clause-meant g c =
    let old = c.args.self.now in
    let same : to_z w64 (of_z w64 c.args.start) ≡ c.args.start = search rules in
    rw c.in-Ok-push.ensures (declares_ok old.solver _ old.names (waits old) c.args.at c.args.decl c.args.name c.args.start old.number c.in-Ok.ensures.answer c.requires.0 (rw same at c.in-Ok.ensures.declared))

pub returns-in-Ok-push-clause-whole : goal.returns-in-Ok-push-clause-whole
returns-in-Ok-push-clause-whole g c =
    let old = c.args.self.now in
    let same : to_z w64 (of_z w64 c.args.start) ≡ c.args.start = search rules in
    rw c.in-Ok-push.ensures (declared_whole old.solver _ old.names (waits old) c.args.at c.args.decl c.args.name c.args.start old.number c.in-Ok.ensures.answer c.requires.0 (rw same at c.in-Ok.ensures.declared))

pub returns-in-Ok-push-clause-sets : goal.returns-in-Ok-push-clause-sets
returns-in-Ok-push-clause-sets g c =
    let old = c.args.self.now in
    declared_others old.solver _ old.names (waits old) c.args.at c.args.decl c.args.name _ c.requires.1 c.in-Ok.ensures.declared

pub returns-in-Ok-push-clause-numbers : goal.returns-in-Ok-push-clause-numbers
returns-in-Ok-push-clause-numbers g c =
    let old = c.args.self.now in
    declared_numbers old.solver _ old.names (waits old) c.args.at c.args.decl c.args.name _ c.requires.1 c.in-Ok.ensures.declared

pub returns-in-Ok-push-clause-id : goal.returns-in-Ok-push-clause-id
returns-in-Ok-push-clause-id g c =
    let old = c.args.self.now in
    rw (c.in-Ok.ensures.id, c.requires.0.number_, count_seen old.solver old.names (waits old)) refl
