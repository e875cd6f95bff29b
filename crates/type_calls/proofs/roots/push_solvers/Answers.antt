use Rattle.std.proofs.Common.{refl}
use Rattle.std.specs.Prelude.{get_or}
use Rattle.checked_tree.specs.declared.expressions.Slot.TheVariants.{Global}
use Rattle.type_scopes.specs.Names.{solvers_of, solvers_at, index_of}
use Rattle.type_calls.proofs.Pushes.{pushes_next, pushes_end, same_item}
use Rattle.type_calls.proofs.roots.push_solvers.Goals as goal

pub loop-slot-preserved : goal.loop-slot-preserved
loop-slot-preserved c =
    pushes_next (λ i x. solvers_at c.args.checker.now.names (index_of c.args.scope x)) (λ i xs. solvers_of c.args.scope c.args.checker.now.names xs) (λ i x xs. refl)
    c.args.slots.now _ (get_or c.args.slots.now c.loop-slot.slot-index (Global 0)) _ _ _ c.loop-slot.invariant c.loop-slot-test.true (same_item c.args.slots.now c.loop-slot.slot-index (Global 0) _ c.loop-slot-test.true) c.in_ok-push_solvers_of.ensures.ok

pub returns-clause-ok : goal.returns-clause-ok
returns-clause-ok c =
    pushes_end (λ i xs. solvers_of c.args.scope c.args.checker.now.names xs) (λ i. refl) c.args.slots.now _ _ _ c.loop-slot.invariant c.loop-slot-test.false
