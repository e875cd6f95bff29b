use Rattle.std.proofs.Common.{length, refl, sym, subst}
use Rattle.store_turns.specs.Meaning.{Graph}
use Rattle.bench.specs.Parts.{FreeBelow}
use Rattle.bench.proofs.PartGraphs.{are_items, linked, takes, free}
use Rattle.bench.proofs.store.linking.store_of.Goals as goal

pub plan-requires-clause-items : goal.plan-requires-clause-items
plan-requires-clause-items c = are_items _ _ _ (c.if-not-are_lists.ensures refl)

pub build-requires-clause-linked : goal.build-requires-clause-linked
build-requires-clause-linked c =
    linked _ _ _ (c.if-not-are_lists.ensures refl) _ _ _ c.in_ok-nodes.ensures refl c.in_ok-inputs.ensures _ c.in_ok-layers.ensures.count c.in_ok-layers.ensures.longest

pub build-requires-clause-takes : goal.build-requires-clause-takes
build-requires-clause-takes c =
    takes _ _ _ (c.if-not-are_lists.ensures refl) _ _ _ c.in_ok-nodes.ensures refl c.in_ok-inputs.ensures _ c.in_ok-layers.ensures.count c.in_ok-layers.ensures.longest c.args.start.now

pub returns-clause-free : goal.returns-clause-free
returns-clause-free c =
    subst (λ (g : Graph). FreeBelow (length c.args.start.now) g) (sym c.in_ok-store.ensures.graph)
    (free _ _ _ (c.if-not-are_lists.ensures refl) _ _ _ c.in_ok-nodes.ensures refl c.in_ok-inputs.ensures)
