-- The condition, and then the key where it holds.
use Rattle.std.proofs.Common.{rules, w64}
use Rattle.std.specs.Prelude.{FitsSigned}
use Rattle.std.proofs.lemmas.Int.{to_z-of_z}
use Rattle.comet_meaning.proofs.GoingStatements.{goes_level}
use Rattle.run_steps.proofs.Exits.{exit}
use Rattle.search_forms.proofs.ChoiceLaws.{rated_kept, rated_not, rated_unkeyed, rated_untested}
use Rattle.search_forms.proofs.scanning.rate.Goals as goal

pub returns-in_err-passes-clause-did : goal.returns-in_err-passes-clause-did
returns-in_err-passes-clause-did g c = λ n xs. exit _ _ _ _ _ c.from_residual.ensures.1 (rated_untested _ _ _ n xs _ (goes_level _ _) _ _ c.in_err-passes.ensures.did)

pub returns-then-not-passes-clause-did : goal.returns-then-not-passes-clause-did
returns-then-not-passes-clause-did g c = λ n xs. rated_not _ _ _ n xs _ c.in_ok-passes.ensures.did c.if-not-passes.true

pub returns-in_err-key-clause-did : goal.returns-in_err-key-clause-did
returns-in_err-key-clause-did g c = λ n xs. exit _ _ _ _ _ c.from_residual-in_err-key.ensures.1 (rated_unkeyed _ _ _ n xs _ (goes_level _ _) c.in_ok-passes.ensures.did c.if-not-passes.false _ _ c.in_err-key.ensures.did)

pub returns-clause-did : goal.returns-clause-did
returns-clause-did g c = let f : FitsSigned w64 c.in_ok-key.key = search rules in λ n xs. rated_kept _ _ _ n xs _ c.in_ok-passes.ensures.did c.if-not-passes.false c.in_ok-key.ensures.did _ (to_z-of_z w64 c.in_ok-key.key f)
