-- The events stand behind those that wait.
use Rattle.std.proofs.Common.{refl}
use Rattle.run_search.specs.Searches.{search_seen}
use Rattle.run_state.specs.Views.{state_seen}
use Rattle.run_state.proofs.OtherValues.{kept_so}
use Rattle.run_state.proofs.state.State.notice.Goals as goal

pub returns-clause-did : goal.returns-clause-did
returns-clause-did c = λ printed k cs same. kept_so c.queue.result (state_seen c.args.self.now printed) (search_seen c.queue.new.self) _ _ refl (c.queue.ensures.queued k cs same) c.queue.ensures.memory
