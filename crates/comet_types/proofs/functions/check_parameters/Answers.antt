use Rattle.std.proofs.Common.{ap, List}
use Rattle.type_scopes.proofs.Loops.{runs_start, runs_step, runs_stop, runs_end, passes}
use Rattle.comet_types.specs.Functions.{next_parameter, parameter_form}
use Rattle.comet_types.proofs.functions.check_parameters.Goals as goal

pub loop-parameter-init : goal.loop-parameter-init
loop-parameter-init c = runs_start (next_parameter c.args.scope) parameter_form c.args.parameters.now _ _ _ c.new-kinds.ensures.items

pub returns-in_err-kinds : goal.returns-in_err-kinds
returns-in_err-kinds c = passes _ _ c.in_err-kinds.field-0.0 _ _ c.from_residual.ensures.1
    (runs_stop (next_parameter c.args.scope) parameter_form c.args.parameters.now _ _ _ _ _ _ c.loop-parameter.invariant c.loop-parameter-test.true c.parameter-item.is c.in_err-kinds.ensures)

pub loop-parameter-preserved : goal.loop-parameter-preserved
loop-parameter-preserved c =
    runs_step (next_parameter c.args.scope) parameter_form c.args.parameters.now _ _ _ _ _ _ _ c.loop-parameter.invariant c.loop-parameter-test.true c.parameter-item.is c.in_ok-kinds.ensures

pub returns : goal.returns
returns c = runs_end (next_parameter c.args.scope) parameter_form c.args.parameters.now _ _ _ _ c.loop-parameter.invariant c.loop-parameter-test.false
