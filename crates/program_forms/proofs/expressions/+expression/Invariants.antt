use Rattle.std.proofs.Common.{◌≡◌, map, drop}
use Rattle.checked_tree.specs.Shape.{shape_of_link, shape_of_generator, seen, wholes, rows}
use Rattle.comet_meaning.specs.Built.{is_built_expression}
use Rattle.program_forms.proofs.expressions.+expression.Given as goal

-- in each loop what is left decides the whole
abbrev pub invariant-are_built_parts-loop-part : goal.invariant-are_built_parts-loop-part
invariant-are_built_parts-loop-part l = is_built_expression (wholes (map seen (drop l.part-index l.parts))) ≡ is_built_expression (wholes (map seen l.parts))

abbrev pub invariant-are_built_links-loop-link : goal.invariant-are_built_links-loop-link
invariant-are_built_links-loop-link l = is_built_expression (rows (map shape_of_link (drop l.link-index l.links))) ≡ is_built_expression (rows (map shape_of_link l.links))

abbrev pub invariant-are_built_generators-loop-generator : goal.invariant-are_built_generators-loop-generator
invariant-are_built_generators-loop-generator l =
    is_built_expression (rows (map shape_of_generator (drop l.generator-index l.generators))) ≡ is_built_expression (rows (map shape_of_generator l.generators))
