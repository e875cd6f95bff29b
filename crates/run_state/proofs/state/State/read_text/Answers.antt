-- The text of either array.
use Rattle.run_state.specs.Views.{state_seen}
use Rattle.run_state.proofs.EitherArray.{other_text}
use Rattle.run_state.proofs.ReadLaws.{did_made, memory_so}
use Rattle.run_state.proofs.state.State.read_text.Goals as goal

pub returns-in_default : goal.returns-in_default
returns-in_default g c = record {
  did =
      let printed = g.O.Outside.told c.args.out.now in
      let s = state_seen c.args.self.now printed in
      did_made (λ text. text.items) c.numbers_text.result _ s _ (other_text c.args.at s c.args.array.now c.in_default.not-Variables) (c.numbers_text.ensures.text printed) c.numbers_text.ensures.memory;
  stop = memory_so c.numbers_text.result c.numbers_text.ensures.memory;
}
