use Rattle.std.proofs.Common.{rules}
use Rattle.type_scopes.proofs.Loops.{runs_start, runs_step, runs_stop, runs_end, passes}
use Rattle.comet_types.specs.Program.{next_part, part_form}
use Rattle.comet_types.proofs.program.check_parts.Goals as goal

pub loop-part-init : goal.loop-part-init
loop-part-init c = runs_start next_part part_form c.args.parts.now _ _ _ (search rules)

pub returns-in_err-checked : goal.returns-in_err-checked
returns-in_err-checked c = passes _ _ c.in_err-checked.field-0.0 _ _ c.from_residual.ensures.1
    (runs_stop next_part part_form c.args.parts.now _ _ _ _ _ _ c.loop-part.invariant c.loop-part-test.true c.part-item.is c.in_err-checked.ensures)

pub loop-part-preserved : goal.loop-part-preserved
loop-part-preserved c =
    runs_step next_part part_form c.args.parts.now _ _ _ _ _ _ _ c.loop-part.invariant c.loop-part-test.true c.part-item.is c.in_ok-checked.ensures

pub returns : goal.returns
returns c = runs_end next_part part_form c.args.parts.now _ _ _ _ c.loop-part.invariant c.loop-part-test.false
