-- The variable at an index is the solver's, or there is none.
use Rattle.std.proofs.Common.{◌≡◌, ℕ, sym, ◌∙◌, ap, subst}
use Rattle.cbl_base.specs.declared.ids.VarId.{VarId}
use Rattle.cbl_base.specs.declared.faults.RunFault.TheVariants.{WrongSolver}
use Rattle.comet_meaning.specs.Outcome.{Halted, Faulted}
use Rattle.comet_meaning.specs.Parts.{variable_value}
use Rattle.comet_meaning.specs.State.{left}
use Rattle.run_values.specs.Did.{Did}
use Rattle.run_values.specs.Views.{value_seen}
use Rattle.run_solvers.specs.Views.{held_seen, waits}
use Rattle.run_solvers.proofs.ValueLaws.{nothing_there}
use Rattle.run_solvers.proofs.held.Held.read.Goals as goal

pub returns-in-None-clause-did : goal.returns-in-None-clause-did
returns-in-None-clause-did g c = λ s.
    let held = c.args.self.now in
    let own = c.own-variable.ensures in
    subst (λ (i : ℕ). variable_value c.args.at i (held_seen held) s ≡ Halted (Faulted c.args.at WrongSolver) (left s)) (ap (λ (x : VarId). x.index) own)
    (nothing_there held.solver held.names (waits held) c.args.at c.own-variable.result s (ap (λ (x : VarId). x.solver) own ∙ sym c.requires.0.number_) (sym c.in-None.ensures))

pub returns-in-Some-Number-clause-did : goal.returns-in-Some-Number-clause-did
returns-in-Some-Number-clause-did g c = λ s.
    subst (λ (i : ℕ). Did value_seen c.read_number.result s (variable_value c.args.at i (held_seen c.args.self.now) s)) (ap (λ (x : VarId). x.index) c.own-variable.ensures) (c.read_number.ensures.did s)

pub returns-in-Some-Set-clause-did : goal.returns-in-Some-Set-clause-did
returns-in-Some-Set-clause-did g c = λ s.
    subst (λ (i : ℕ). Did value_seen c.read_set.result s (variable_value c.args.at i (held_seen c.args.self.now) s)) (ap (λ (x : VarId). x.index) c.own-variable.ensures) (c.read_set.ensures.did s)
