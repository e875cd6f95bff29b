use Rattle.std.specs.Prelude.{map, []}
use Rattle.type_scopes.specs.State.{each}
use Rattle.type_scopes.proofs.Loops.{Runs}
use Rattle.type_simples.specs.Simples.{item_form, shown_form}
use Rattle.type_simples.specs.View.{printed_list}
use Rattle.type_simples.proofs.simples.check_items.Given as goal

abbrev pub invariant-loop-item : goal.invariant-loop-item
invariant-loop-item l = Runs (shown_form l.scope) item_form l.items l.item-index (printed_list l.printed) l.checker
    (each (shown_form l.scope) (map item_form l.items) [] l.fn.checker)
