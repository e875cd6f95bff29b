-- What an expression stands for in a term, one layer of it: with incremental variables a constraint or a term, and else
-- its value. From the language.
use Rattle.std.specs.Prelude.{pos, Bool, true, false, if◌then◌else◌}
use Rattle.cbl_base.specs.declared.place.Place.{Place}
use Rattle.checked_tree.specs.declared.kind.Kind.{Kind}
use Rattle.checked_tree.specs.declared.kind.Kind.TheVariants as kinds
use Rattle.checked_tree.specs.Shape as shapes
use Rattle.checked_tree.specs.Shape.{Shape}
use Rattle.model_view.specs.Building.{constant}
use Rattle.comet_meaning.specs.Terms.{InTerm, Single, standing}
use Rattle.comet_meaning.specs.Outcome.{Act, ◌>>=◌, give}
use Rattle.comet_meaning.specs.Levels.{Code, Level}
use Rattle.comet_meaning.specs.Expressions.{value_of_form}
use Rattle.comet_meaning.specs.TermForms.{moving_term}
use Rattle.comet_meaning.specs.ConstraintForms.{constraint_form}

-- whether an expression of this kind is a constraint
abbrev pub is_constraint : Kind → Bool
is_constraint kinds.Constraint = true
is_constraint k = false

unfoldable pub incremental_form : Level → Place → Kind → Shape → Act InTerm
incremental_form l at kind form = if is_constraint kind then constraint_form l at form else moving_term l at form

unfoldable pub term_of_expression : Code → Level → Shape → Act InTerm
term_of_expression c l (shapes.typed start at kind moving form) =
    if moving then incremental_form l at kind form else (value_of_form c l at kind form >>= standing)
term_of_expression c l e = give (Single (constant (pos 0)))
