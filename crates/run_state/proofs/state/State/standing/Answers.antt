-- An array stands for that of its cells.
use Rattle.std.proofs.Common.{refl}
use Rattle.comet_meaning.specs.Terms.{standing}
use Rattle.run_state.specs.InTerms.{in_term_seen}
use Rattle.run_state.specs.Views.{state_seen}
use Rattle.run_state.proofs.ReadLaws.{did_made}
use Rattle.run_state.proofs.state.State.standing.Goals as goal

pub returns-in-Variables-clause-did : goal.returns-in-Variables-clause-did
unfolding standing
returns-in-Variables-clause-did c = λ printed.
    rw c.in-Variables.is (did_made in_term_seen c.standing_variables.result _ (state_seen c.args.self.now printed) _ refl (c.standing_variables.ensures.same printed) c.standing_variables.ensures.memory)

pub returns-in-Array-clause-did : goal.returns-in-Array-clause-did
unfolding standing
returns-in-Array-clause-did c = λ printed.
    rw c.in-Array.is (did_made in_term_seen c.standing_numbers.result _ (state_seen c.args.self.now printed) _ refl (c.standing_numbers.ensures.same printed) c.standing_numbers.ensures.memory)

pub returns-in-Row-clause-did : goal.returns-in-Row-clause-did
unfolding standing
returns-in-Row-clause-did c = λ printed.
    rw c.in-Row.is (did_made in_term_seen c.standing_numbers-in-Row.result _ (state_seen c.args.self.now printed) _ refl (c.standing_numbers-in-Row.ensures.same printed) c.standing_numbers-in-Row.ensures.memory)
