use Rattle.std.proofs.Common.{◌≡◌, map, drop}
use Rattle.checked_tree.specs.Shape.{shape_of_link, shape_of_generator, seen, wholes, rows}
use Rattle.comet_meaning.specs.Purity.{is_pure}
use Rattle.program_forms.proofs.purity.+purity.Given as goal

-- in each loop what is left decides the whole
abbrev pub invariant-are_pure_parts-loop-part : goal.invariant-are_pure_parts-loop-part
invariant-are_pure_parts-loop-part l = is_pure l.known (wholes (map seen (drop l.part-index l.parts))) ≡ is_pure l.known (wholes (map seen l.parts))

abbrev pub invariant-are_pure_links-loop-link : goal.invariant-are_pure_links-loop-link
invariant-are_pure_links-loop-link l = is_pure l.known (rows (map shape_of_link (drop l.link-index l.links))) ≡ is_pure l.known (rows (map shape_of_link l.links))

abbrev pub invariant-are_pure_generators-loop-generator : goal.invariant-are_pure_generators-loop-generator
invariant-are_pure_generators-loop-generator l =
    is_pure l.known (rows (map shape_of_generator (drop l.generator-index l.generators))) ≡ is_pure l.known (rows (map shape_of_generator l.generators))
