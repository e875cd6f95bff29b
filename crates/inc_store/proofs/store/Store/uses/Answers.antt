use Rattle.std.proofs.Common.{◌≡◌, ◌∙◌, ◌<◌, ℕ, List, length, sym, subst, arith}
use Rattle.cbl_base.specs.declared.ids.NodeId.{NodeId}
use Rattle.store_turns.specs.Meaning.{uses_in}
use Rattle.store_turns.specs.Telling.{positions, places_in}
use Rattle.inc_store.specs.Views.{inputs_at}
use Rattle.inc_store.proofs.NodeLists.{list_at}
use Rattle.inc_store.proofs.store.Store.uses.Goals as goal

pub returns-clause-places : goal.returns-clause-places
returns-clause-places g c =
    let framed = c.requires.usable.2.framed in
    let lt : c.args.node.0 < length c.args.self.now.frame.uses.items = omega (arith, framed.uses, c.requires.within) in
    let same : c.deref.result.now ≡ uses_in c.args.self.now.frame c.args.node.0 = c.deref.ensures.value ∙ list_at c.args.self.now.frame.uses.items c.args.node.0 c.index.result.now lt c.index.ensures in
    λ j. subst (λ (us : List (NodeId × ℕ)). places_in j us ≡ positions c.args.node.0 (inputs_at c.args.self.now j)) (sym same) (framed.shape.uses_are c.args.node.0 j c.requires.within)
