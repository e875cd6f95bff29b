-- What the bodies of an aggregate's tuples give in a term. From the language.
use Rattle.std.specs.Prelude.{List, [], ◌∷◌}
use Rattle.cbl_base.specs.declared.place.Place.{Place}
use Rattle.cbl_base.specs.declared.faults.RunFault.TheVariants.{EmptyRange}
use Rattle.cbl_operations.specs.declared.op.Op.{Op}
use Rattle.comet_meaning.specs.Outcome.{Act, fault}
use Rattle.comet_meaning.specs.TermForms as terms
use Rattle.comet_meaning.specs.TermForms.{bodies_of, node_form, single}
use Rattle.comet_meaning.specs.Terms.{InTerm}

-- one operation of all bodies
abbrev pub body_node : Place → Op → List terms.Keyed → Act InTerm
body_node at op xs = single (node_form at op (bodies_of xs))

-- the same where there must be one
abbrev pub extreme_node : Place → Op → List terms.Keyed → Act InTerm
extreme_node at op [] = fault at EmptyRange
extreme_node at op (x ∷ xs) = body_node at op (x ∷ xs)
