-- What a selector asks of its candidates, as the meaning of programs has it. A rule of this project.
use Rattle.std.specs.Prelude.{Option, Some, None}
use Rattle.comet_syntax.specs.declared.tree.expressions.Extreme.{Extreme}
use Rattle.comet_syntax.specs.declared.tree.expressions.Extreme.TheVariants.{Min, Max}
use Rattle.checked_tree.specs.Shape.{Shape, optional}
use Rattle.ls_select.specs.declared.want.Want.{Want}
use Rattle.ls_select.specs.declared.want.Want.TheVariants.{Any, Least, Greatest}
use Rattle.run_steps.specs.Views.{part}
use Rattle.search_forms.specs.declared.scanning.Asked.{Asked}

-- which candidates are wanted
abbrev pub want_of : Option Extreme → Want
want_of None = Any
want_of (Some Min) = Least
want_of (Some Max) = Greatest

abbrev pub condition_of : Asked → Shape
condition_of a = optional (λ e. part e.now) a.condition

abbrev pub key_of : Asked → Shape
key_of a = optional (λ e. part e.now) a.key
