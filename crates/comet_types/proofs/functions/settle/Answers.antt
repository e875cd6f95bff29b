use Rattle.std.proofs.Common.{subst, sym, ◌∙◌}
use Rattle.checked_tree.specs.Tasks.{work_of}
use Rattle.type_scopes.specs.Did.{Did}
use Rattle.type_scopes.proofs.Loops.{passes}
use Rattle.type_statements.specs.Statements.{block_of}
use Rattle.comet_types.proofs.Settling.{settled_stop, settled_done, settled_next, settled_last}
use Rattle.comet_types.proofs.functions.settle.Goals as goal

pub returns-in_err-task : goal.returns-in_err-task
returns-in_err-task c = passes _ _ c.in_err-task.field-0.0 _ _ c.from_residual.ensures.1
    (settled_stop c.loop-left.left c.args.function c.args.parameters (block_of c.args.body.now) c.args.scope _ _ _ c.loop-left.invariant c.loop-left-test.true c.in_err-task.ensures)

pub returns-then-is_settled : goal.returns-then-is_settled
returns-then-is_settled c = settled_done c.loop-left.left c.args.function c.args.parameters (block_of c.args.body.now) c.args.scope _ _ _ _ c.loop-left.invariant c.loop-left-test.true
    c.in_ok-task.ensures (sym c.is_settled.ensures ∙ c.if-is_settled.true)

pub loop-left-preserved : goal.loop-left-preserved
loop-left-preserved c = settled_next c.loop-left.left c.args.function c.args.parameters (block_of c.args.body.now) c.args.scope _ _ _ _ _ c.loop-left.invariant c.loop-left-test.true
    c.in_ok-task.ensures (sym c.is_settled.ensures ∙ c.if-is_settled.false) c.in_ok-settle.ensures

pub returns : goal.returns
returns c = subst (λ o. Did work_of c.take_turn-2.result c.take_turn-2.new.checker o)
    (settled_last c.loop-left.left c.args.function c.args.parameters (block_of c.args.body.now) c.args.scope _ _ c.loop-left.invariant c.loop-left-test.false) c.take_turn-2.ensures
