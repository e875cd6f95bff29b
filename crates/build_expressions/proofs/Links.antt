-- What a link is written as.
use Rattle.std.specs.Prelude.{◌≡◌}
use Rattle.cbl_base.specs.declared.place.Place.{Place}
use Rattle.comet_syntax.specs.declared.tree.expressions.ChainOperator.{ChainOperator}
use Rattle.comet_syntax.specs.declared.tree.expressions.Expression.{Expression}
use Rattle.comet_syntax.specs.declared.tree.expressions.Link.{roll-Link, fold-roll-Link}
use Rattle.comet_syntax.specs.Written.Shown.{Grows}
use Rattle.comet_syntax.specs.Written.Expressions.{Writing, GeneratorText, GeneratorsText, LinkText, argument_text, expression_text, suffix_text, generator_layer, generators_layer, link, link_layer, written, written_argument, written_suffix, written_generator, written_generators, written_link}

pub link_of : (o : ChainOperator) (p : Place) (e : Expression) → written_link (roll-Link (record { operator = o; place = p; operand = e })) ≡ record { operator = o; text = link o p (written e) }
unfolding written written_argument written_suffix written_generator written_generators written_link
link_of o p e = fold-roll-Link Grows Writing Grows GeneratorText GeneratorsText LinkText argument_text expression_text suffix_text generator_layer generators_layer link_layer (record { operator = o; place = p; operand = e })
