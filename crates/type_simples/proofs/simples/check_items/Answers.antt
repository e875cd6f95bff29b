use Rattle.std.proofs.Common.{ap, map, List}
use Rattle.checked_tree.specs.declared.statements.Printed.{Printed}
use Rattle.checked_tree.specs.Actions.{printed_of}
use Rattle.type_scopes.proofs.Loops.{runs_start, runs_step, runs_stop, runs_end, passes}
use Rattle.type_simples.specs.Simples.{item_form, shown_form}
use Rattle.type_simples.proofs.simples.check_items.Goals as goal

pub loop-item-init : goal.loop-item-init
loop-item-init c = runs_start (shown_form c.args.scope) item_form c.args.items.now _ _ _ (ap (λ (xs : List Printed). map printed_of xs) c.new-printed.ensures.items)

pub returns-in_err-printed : goal.returns-in_err-printed
returns-in_err-printed c = passes _ _ c.in_err-printed.field-0.0 _ _ c.from_residual.ensures.1
    (runs_stop (shown_form c.args.scope) item_form c.args.items.now _ _ _ _ _ _ c.loop-item.invariant c.loop-item-test.true c.item-item.is c.in_err-printed.ensures)

pub loop-item-preserved : goal.loop-item-preserved
loop-item-preserved c =
    runs_step (shown_form c.args.scope) item_form c.args.items.now _ _ _ _ _ _ _ c.loop-item.invariant c.loop-item-test.true c.item-item.is c.in_ok-printed.ensures

pub returns : goal.returns
returns c = runs_end (shown_form c.args.scope) item_form c.args.items.now _ _ _ _ c.loop-item.invariant c.loop-item-test.false
