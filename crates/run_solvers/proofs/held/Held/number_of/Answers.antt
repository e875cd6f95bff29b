-- The number of a free variable is its number in the assignment.
use Rattle.std.proofs.Common.{◌≡◌, refl, ◌∙◌, w64, to_z, of_z, rules}
use Rattle.run_solvers.proofs.BlockLaws.{free_number}
use Rattle.run_solvers.proofs.FreeLaws.{free_now}
use Rattle.run_solvers.proofs.held.Held.number_of.Goals as goal
use Rattle.run_solvers.proofs.held.Held.number_of.Goals.{in-Ok, in-Err}

pub value-requires-clause-usable : goal.value-requires-clause-usable
value-requires-clause-usable g c = c.requires.kept.0.usable

pub value-requires-clause-kind : goal.value-requires-clause-kind
value-requires-clause-kind g c = λ own. free_number c.args.self.now.solver c.args.variable c.requires.kept.1 own c.requires.free

pub returns-clause-value : goal.returns-clause-value
returns-clause-value g c = elim c.match-value.branch [
  | in-Ok w ↦ let same : to_z w64 (of_z w64 w.in-Ok.number) ≡ w.in-Ok.number = search rules in rw w.result-is (same ∙ free_now c.args.self.now.solver c.args.variable w.in-Ok.number c.requires.own c.requires.free w.in-Ok.ensures.value)
  | in-Err w ↦ rw w.result-is tt
]

pub returns-clause-stop : goal.returns-clause-stop
returns-clause-stop g c = elim c.match-value.branch [
  | in-Ok w ↦ rw w.result-is tt
  | in-Err w ↦ rw w.result-is refl
]
