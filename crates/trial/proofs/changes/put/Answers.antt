use Rattle.std.proofs.Common.{List, subst}
use Rattle.inc_store.specs.declared.changed.NodeChange.{NodeChange}
use Rattle.trial.specs.ChangeLists.{IsPlaceOf}
use Rattle.trial.proofs.ListedChanges.{set_found, set_others}
use Rattle.trial.proofs.changes.put.Goals as goal

pub returns-in-Some-clause-here : goal.returns-in-Some-clause-here
returns-in-Some-clause-here c =
    set_found c.args.items.now.items c.args.places.now.items c.requires c.args.change c.in-Some.place (subst (λ (cs : List NodeChange). IsPlaceOf cs c.args.change.node.0 c.in-Some.place) c.deref.ensures.value c.in-Some.ensures)

pub returns-in-Some-clause-elsewhere : goal.returns-in-Some-clause-elsewhere
returns-in-Some-clause-elsewhere c =
    set_others c.args.items.now.items c.args.places.now.items c.requires c.args.change c.in-Some.place (subst (λ (cs : List NodeChange). IsPlaceOf cs c.args.change.node.0 c.in-Some.place) c.deref.ensures.value c.in-Some.ensures)
