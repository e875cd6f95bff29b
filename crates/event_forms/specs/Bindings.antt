-- The names of a variable's old and new value, as a handler gets them. From the language.
use Rattle.std.specs.Prelude.{Option, Some, None}
use Rattle.comet_meaning.specs.Cells.{put}
use Rattle.comet_meaning.specs.Outcome.{Act, ◌>>=◌, give}
use Rattle.comet_meaning.specs.Values.{Number}
use Rattle.event_forms.specs.declared.closures.Binding.{Binding}

abbrev pub bound_by : Option Binding → Act (Unit {0})
bound_by None = give tt
bound_by (Some b) = put b.names.old (Number b.old) >>= λ _. put b.names.new (Number b.new)
