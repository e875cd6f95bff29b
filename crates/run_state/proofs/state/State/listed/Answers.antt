-- The list has as many numbers as are asked, and they are charged.
use Rattle.std.proofs.Common.{◌≡◌, length, refl, sym, ◌∙◌, arith}
use Rattle.std.proofs.lemmas.Result.{err_from_is_err_and}
use Rattle.comet_meaning.specs.Taking.{read_array}
use Rattle.run_values.specs.Views.{value_seen}
use Rattle.run_state.specs.Views.{state_seen}
use Rattle.run_state.proofs.ActLaws.{listed_law, listed_unpaid, listed_wrong}
use Rattle.run_state.proofs.ReadLaws.{numbers_stopped}
use Rattle.run_state.proofs.state.State.listed.Goals as goal

pub returns-in_err-numbers-clause-did : goal.returns-in_err-numbers-clause-did
returns-in_err-numbers-clause-did g c =
    let printed = g.O.Outside.told c.args.out.now in
    let s = state_seen c.args.self.now printed in
    let p = err_from_is_err_and c.from_residual.result c.from_residual.ensures.1 in
    rw (p.1, p.2) (numbers_stopped _ s (read_array c.args.place (value_seen c.args.list.now) s) _ (c.in_err-numbers.ensures.did))

pub returns-then-cells-count-clause-did : goal.returns-then-cells-count-clause-did
returns-then-cells-count-clause-did g c =
    let printed = g.O.Outside.told c.args.out.now in
    let long : c.len-cells.result ≡ length c.in_ok-numbers.numbers.items = omega (arith, c.len-cells.ensures, c.in_ok-numbers.numbers.ok.0) in
    listed_wrong c.args.at c.args.place c.args.count (value_seen c.args.list.now) (state_seen c.args.self.now printed) _ (c.in_ok-numbers.ensures.did) (λ same. c.if-cells-count.true (long ∙ same))

pub returns-in_err-spend-clause-did : goal.returns-in_err-spend-clause-did
returns-in_err-spend-clause-did g c =
    let printed = g.O.Outside.told c.args.out.now in
    let s = state_seen c.args.self.now printed in
    let p = err_from_is_err_and c.from_residual-in_err-spend.result c.from_residual-in_err-spend.ensures.1 in
    let long : c.len-cells.result ≡ length c.in_ok-numbers.numbers.items = omega (arith, c.len-cells.ensures, c.in_ok-numbers.numbers.ok.0) in
    rw (p.1, p.2) (listed_unpaid _ c.args.at c.args.place c.args.count (value_seen c.args.list.now) s _ _ (c.in_ok-numbers.ensures.did) (sym long ∙ c.if-cells-count.false) (rw c.if-cells-count.false at (c.in_err-spend.ensures.did s refl)))

pub returns-clause-did : goal.returns-clause-did
returns-clause-did g c =
    let printed = g.O.Outside.told c.args.out.now in
    let s = state_seen c.args.self.now printed in
    let v = value_seen c.args.list.now in
    let long : c.len-cells.result ≡ length c.in_ok-numbers.numbers.items = omega (arith, c.len-cells.ensures, c.in_ok-numbers.numbers.ok.0) in
    listed_law c.args.at c.args.place c.args.count v s c.spend.new.fuel _ (c.in_ok-numbers.ensures.did) (sym long ∙ c.if-cells-count.false) (rw c.if-cells-count.false at (c.in_ok-spend.ensures.did s refl))
