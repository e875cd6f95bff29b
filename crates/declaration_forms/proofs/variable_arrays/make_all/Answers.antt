use Rattle.std.proofs.Common.{◌≡◌, sym, subst}
use Rattle.run_steps.specs.Does.{Does}
use Rattle.run_effects.proofs.Filling.{all_cells}
use Rattle.declaration_forms.proofs.variable_arrays.make_all.Goals as goal

pub returns : goal.returns
returns g c = record { did = subst (Does _ _ _) (sym (all_cells _ _ _ (subst (λ n. n ≡ 0 → ⊥) c.requires.known c.if-count-eq0.false))) (rw c.new-none.ensures.items at c.make.ensures.did) }
