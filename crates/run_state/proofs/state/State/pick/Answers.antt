-- What the search picks is what the meaning chooses.
use Rattle.run_search.proofs.SearchLaws.{chosen_as}
use Rattle.run_state.specs.Views.{state_seen}
use Rattle.run_state.proofs.state.State.pick.Goals as goal

pub returns-clause-did : goal.returns-clause-did
returns-clause-did c = λ printed. chosen_as c.args.ties.now (state_seen c.args.self.now printed) _ _ c.pick.ensures.chosen c.pick.ensures.words
