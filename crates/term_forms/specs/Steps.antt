-- Calls in terms whose arguments are all single terms. From the language.
use Rattle.std.specs.Prelude.{List, []}
use Rattle.cbl_base.specs.declared.place.Place.{Place}
use Rattle.checked_tree.specs.declared.expressions.Builtin.{Builtin}
use Rattle.checked_tree.specs.Shape.{Shape}
use Rattle.comet_meaning.specs.Levels.{Level}
use Rattle.comet_meaning.specs.Parts.{each_term}
use Rattle.term_model.specs.declared.term.Term.{Term}
use Rattle.comet_meaning.specs.Outcome.{Act, ◌>>=◌}
use Rattle.term_nodes.specs.Steps.{called_node}

-- a function of the language whose arguments are all single terms
abbrev pub plain_call : Level → Place → Builtin → List Shape → Act Term
plain_call l at f es = each_term l es [] >>= called_node at f
