-- The text is made, and then printed.
use Rattle.std.proofs.Common.{◌≡◌, [], refl, ◌∙◌}
use Rattle.comet_meaning.specs.Printing.{print}
use Rattle.run_values.specs.Views.{value_seen}
use Rattle.run_state.specs.Views.{state_seen}
use Rattle.run_state.specs.Acts.{array_chars}
use Rattle.run_state.proofs.PrintLaws.{front_of_array}
use Rattle.run_state.proofs.state.State.print_array.Goals as goal

pub returns-in_err-text-clause-front : goal.returns-in_err-text-clause-front
returns-in_err-text-clause-front g c = front_of_array c.args.at (value_seen c.args.array.now) (state_seen c.args.self.now (g.O.Outside.told c.args.out.now))

pub returns-clause-did : goal.returns-clause-did
returns-clause-did g c =
    let printed = g.O.Outside.told c.args.out.now in
    let made = c.in_ok-text.ensures.did in
    rw made (rw c.deref.ensures.value at (c.print.ensures.did (state_seen c.array_text.new.self printed)))

pub returns-clause-front : goal.returns-clause-front
unfolding print
returns-clause-front g c =
    let printed = g.O.Outside.told c.args.out.now in
    let made = c.in_ok-text.ensures.did in
    rw made (rw c.deref.ensures.value at c.print.ensures.front)

pub returns-clause-lowered : goal.returns-clause-lowered
returns-clause-lowered g c =
    let text : c.deref.result.now ≡ array_chars (state_seen c.args.self.now (g.O.Outside.told c.args.out.now)) (value_seen c.args.array.now) = c.deref.ensures.value ∙ c.in_ok-text.ensures.text in
    rw text at c.print.ensures.lowered

pub returns-clause-full : goal.returns-clause-full
returns-clause-full g c =
    let text : c.deref.result.now ≡ array_chars (state_seen c.args.self.now (g.O.Outside.told c.args.out.now)) (value_seen c.args.array.now) = c.deref.ensures.value ∙ c.in_ok-text.ensures.text in
    (rw text at c.print.ensures.full).0
