-- A unit, the names, and then the rate.
use Rattle.std.proofs.Common.{◌∙◌, [], arith, refl}
use Rattle.comet_meaning.proofs.GoingSearch.{goes_rated}
use Rattle.comet_meaning.proofs.GoingStatements.{goes_level}
use Rattle.run_steps.proofs.Exits.{exit}
use Rattle.run_steps.proofs.TupleLaws.{went_fuel}
use Rattle.search_forms.proofs.ChoiceLaws.{generated_ends, generated_is, generated_unbound, generated_uncharged}
use Rattle.search_forms.proofs.scanning.score.Goals as goal

pub returns-in_err-charge-clause-did : goal.returns-in_err-charge-clause-did
returns-in_err-charge-clause-did g c = λ n xs. exit _ _ _ _ _ c.from_residual.ensures.1 (generated_uncharged _ _ _ _ (goes_rated _ (goes_level _ _) _ _ n xs) _ _ refl (c.in_err-charge.ensures.did _))

pub returns-in_err-bind_values-clause-did : goal.returns-in_err-bind_values-clause-did
returns-in_err-bind_values-clause-did g c = λ n xs. exit _ _ _ _ _ c.from_residual-in_err-bind_values.ensures.1 (generated_unbound _ _ _ _ (goes_rated _ (goes_level _ _) _ _ n xs) (c.in_ok-charge.ensures.did (g.O.Outside.told c.args.out.now)) _ _ refl (c.in_err-bind_values.ensures.did _))

pub returns-in_err-end-clause-did : goal.returns-in_err-end-clause-did
returns-in_err-end-clause-did g c = λ n xs. exit _ _ _ _ _ c.from_residual-in_err-end.ensures.1 (generated_ends _ _ _ _ (c.in_ok-charge.ensures.did (g.O.Outside.told c.args.out.now)) (c.in_ok-bind_values.ensures.did _) _ _ (c.in_err-end.ensures.did n xs))

pub overflow_sub-result : goal.overflow_sub-result
overflow_sub-result g c = let falls = went_fuel _ (goes_rated _ (goes_level _ _) _ _ 0 []) (c.in_ok-end.ensures.did 0 []) in omega (arith, falls, c.in_ok-charge.ensures.spent, c.in_ok-bind_values.ensures.fuel)

pub returns-clause-did : goal.returns-clause-did
returns-clause-did g c = λ n xs. generated_is _ _ _ _ (c.in_ok-charge.ensures.did (g.O.Outside.told c.args.out.now)) (c.in_ok-bind_values.ensures.did _) ∙ c.in_ok-end.ensures.did n xs

pub returns-clause-cost : goal.returns-clause-cost
returns-clause-cost g c = let falls = went_fuel _ (goes_rated _ (goes_level _ _) _ _ 0 []) (c.in_ok-end.ensures.did 0 []) in omega (arith, falls, c.in_ok-charge.ensures.spent, c.in_ok-bind_values.ensures.fuel)
