-- The numbers of an array that isn't one of variables are copied.
use Rattle.std.proofs.Common.{List, ℤ, sym, ◌∙◌, ap}
use Rattle.comet_meaning.specs.Outcome.{Went}
use Rattle.run_state.specs.Views.{state_seen}
use Rattle.run_state.proofs.EitherArray.{other_read}
use Rattle.run_state.proofs.state.State.read_numbers.Goals as goal

pub returns-in_ok-numbers-in_default : goal.returns-in_ok-numbers-in_default
returns-in_ok-numbers-in_default g c = record {
  did =
      let printed = g.O.Outside.told c.args.out.now in
      let s = state_seen c.args.self.now printed in
      other_read c.args.at s c.args.array.now c.in_default.not-Variables ∙ ap (λ (xs : List ℤ). Went xs s) (sym (c.in_ok-numbers-in_default.ensures.items ∙ c.numbers.ensures printed));
  stop = tt;
}
