use Rattle.std.proofs.Common.{◌≡◌, subst, sym, []}
use Rattle.run_steps.specs.Does.{Does}
use Rattle.run_effects.proofs.Filling.{all_cells}
use Rattle.declaration_forms.proofs.array_declarations.fill_all.Goals as goal

pub returns : goal.returns
returns g c = record { did = subst (Does _ _ _) (sym (all_cells _ _ _ (subst (λ n. n ≡ 0 → ⊥) c.requires.known c.if-count-eq0.false))) (rw c.new-none.ensures.items at (c.fill.ensures.did [])) }
