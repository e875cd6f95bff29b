-- An array of variables stands in a term for that of its cells.
use Rattle.std.proofs.Common.{◌≡◌, List, map, ◌∙◌, ap}
use Rattle.comet_meaning.specs.OfModelView.Building.{variable}
use Rattle.term_model.specs.declared.term.Term.{Term}
use Rattle.comet_meaning.specs.Cells.{variables_extent}
use Rattle.comet_meaning.specs.State.{VariableCells}
use Rattle.comet_meaning.specs.Terms.{InTerm, Several, variable_terms}
use Rattle.comet_meaning.specs.Values.{Extent}

unfoldable with_terms : Extent → List Term → InTerm
with_terms e ts = Several (record { rows = e.rows; columns = e.columns; terms = ts })

pub variables_standing : (e : Extent) (ts : List Term) (c : VariableCells) → e ≡ variables_extent c → ts ≡ map variable c.variables → Several (record { rows = e.rows; columns = e.columns; terms = ts }) ≡ Several (variable_terms c)
unfolding with_terms
variables_standing e ts c extent terms = ap (λ (x : Extent). with_terms x ts) extent ∙ ap (λ (xs : List Term). with_terms (variables_extent c) xs) terms
