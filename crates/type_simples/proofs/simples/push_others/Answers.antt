use Rattle.std.proofs.Common.{refl}
use Rattle.std.specs.Prelude.{[], ◌∷◌, get_or, if◌then◌else◌}
use Rattle.checked_tree.specs.declared.expressions.Slot.TheVariants.{Global}
use Rattle.std.specs.List.{list_any}
use Rattle.type_calls.proofs.Pushes.{pushes_next, pushes_end, same_item}
use Rattle.type_simples.specs.Simples.{others, same_slot}
use Rattle.type_simples.proofs.simples.push_others.Goals as goal

pub loop-slot-preserved : goal.loop-slot-preserved
loop-slot-preserved c =
    pushes_next (λ i x. if list_any (same_slot x) c.args.kept.now then [] else x ∷ []) (λ i xs. others c.args.kept.now xs) (λ i x xs. refl)
    c.args.slots.now _ (get_or c.args.slots.now c.loop-slot.slot-index (Global 0)) _ _ _ c.loop-slot.invariant c.loop-slot-test.true
    (same_item c.args.slots.now c.loop-slot.slot-index (Global 0) _ c.loop-slot-test.true) c.in_ok-push_other.ensures.ok

pub returns-clause-ok : goal.returns-clause-ok
returns-clause-ok c = pushes_end (λ i xs. others c.args.kept.now xs) (λ i. refl) c.args.slots.now _ _ _ c.loop-slot.invariant c.loop-slot-test.false
