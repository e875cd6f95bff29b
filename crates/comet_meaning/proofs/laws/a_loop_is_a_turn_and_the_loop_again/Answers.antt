use Rattle.comet_meaning.proofs.Turns.{while_again}
use Rattle.comet_meaning.proofs.laws.a_loop_is_a_turn_and_the_loop_again.Goals as goal

pub returns : goal.returns
returns c = λ fs d at test body s. while_again fs d at test body s
