use Rattle.std.proofs.Common.{◌≡◌, ◌∙◌, sym, arith, length}
use Rattle.comet_meaning.proofs.GoingOn.{goes_then, goes_give, goes_unless}
use Rattle.run_steps.proofs.Exits.{act_exit}
use Rattle.run_steps.proofs.Goes.{goes_numbers_read}
use Rattle.run_effects.proofs.ListLaws.{exactly_wrong, exactly_right}
use Rattle.run_effects.proofs.declaring.numbers_of_list.Goals as goal

pub returns-in_err-numbers : goal.returns-in_err-numbers
returns-in_err-numbers g c = record { did = let printed = (g.O.Outside.told c.args.out.now) in act_exit _ _ _ _ _ _ c.from_residual.ensures.1 (c.in_err-numbers.ensures.did) ((goes_numbers_read _ _).from _).printed (λ xs. goes_then (goes_unless _ _ _) (λ _. goes_give)) }

pub returns-then-cells-count : goal.returns-then-cells-count
returns-then-cells-count g c = record {
  did =
      let printed = (g.O.Outside.told c.args.out.now) in
      let long : c.len-cells.result ≡ length c.in_ok-numbers.numbers.items = omega (arith, c.len-cells.ensures, c.in_ok-numbers.numbers.ok.0) in
      exactly_wrong _ _ _ _ _ (c.in_ok-numbers.ensures.did) (λ same. c.if-cells-count.true (long ∙ same));
}

pub returns : goal.returns
returns g c = record {
  did =
      let printed = (g.O.Outside.told c.args.out.now) in
      let long : c.len-cells.result ≡ length c.in_ok-numbers.numbers.items = omega (arith, c.len-cells.ensures, c.in_ok-numbers.numbers.ok.0) in
      exactly_right _ _ _ _ _ (c.in_ok-numbers.ensures.did) (sym long ∙ c.if-cells-count.false);
}
