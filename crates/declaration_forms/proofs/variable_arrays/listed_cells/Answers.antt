use Rattle.std.proofs.Common.{sym, subst}
use Rattle.comet_meaning.proofs.GoingDeclarations.{goes_every_cell}
use Rattle.comet_meaning.proofs.GoingVariables.{goes_listed_variable}
use Rattle.run_steps.specs.Does.{Does}
use Rattle.run_steps.proofs.Exits.{after, call_exit}
use Rattle.run_effects.proofs.VariableLaws.{listed_as}
use Rattle.declaration_forms.proofs.variable_arrays.listed_cells.Goals as goal

pub returns-in_err-numbers : goal.returns-in_err-numbers
returns-in_err-numbers g c = record { did = subst (Does _ _ _) (sym (listed_as _ _ _ _ _ _ _ _ c.requires.known)) (call_exit _ _ _ _ _ _ c.from_residual.ensures.1 c.in_err-numbers.ensures.did (λ xs. goes_every_cell _ _ (λ is ys. goes_listed_variable _ _ _ xs is ys))) }

pub returns : goal.returns
returns g c = record { did = subst (Does _ _ _) (sym (listed_as _ _ _ _ _ _ _ _ c.requires.known)) (after _ _ _ _ c.in_ok-numbers.ensures.did c.make_all.ensures.did) }
