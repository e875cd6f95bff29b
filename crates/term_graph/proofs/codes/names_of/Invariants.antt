use Rattle.std.proofs.Common.{◌≡◌, map, take}
use Rattle.term_graph.specs.Adding.{name_of_id}
use Rattle.term_graph.proofs.codes.names_of.Given as goal

abbrev pub invariant-loop-id : goal.invariant-loop-id
invariant-loop-id l = l.names.items ≡ map (λ id. name_of_id l.cells id.0) (take l.id-index l.ids)
