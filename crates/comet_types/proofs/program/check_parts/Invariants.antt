use Rattle.std.specs.Prelude.{map}
use Rattle.checked_tree.specs.Tasks.{program_of}
use Rattle.type_scopes.specs.State.{each}
use Rattle.type_scopes.proofs.Loops.{Runs}
use Rattle.comet_types.specs.Program.{next_part, part_form, no_part}
use Rattle.comet_types.proofs.program.check_parts.Given as goal

abbrev pub invariant-loop-part : goal.invariant-loop-part
invariant-loop-part l = Runs next_part part_form l.parts l.part-index (program_of l.checked) l.checker
    (each next_part (map part_form l.parts) no_part l.fn.checker)
