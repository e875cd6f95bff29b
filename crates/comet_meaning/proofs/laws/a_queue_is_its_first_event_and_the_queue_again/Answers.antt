use Rattle.comet_meaning.specs.Program.{code_of}
use Rattle.comet_meaning.proofs.QueueTurns.{queue_again}
use Rattle.comet_meaning.proofs.laws.a_queue_is_its_first_event_and_the_queue_again.Goals as goal

pub returns : goal.returns
returns c = λ fs d at s. queue_again (code_of fs) d at s
