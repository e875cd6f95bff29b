use Rattle.std.proofs.Common.{◌≡◌, ℕ, List, Some, sym, ap, ◌∙◌, subst}
use Rattle.std.specs.BTreeMap.{BTreeMap, get}
use Rattle.std.specs.Ordering.{nat_cmp}
use Rattle.std.proofs.lemmas.Option.{get_or_from_slice_get}
use Rattle.inc_store.specs.declared.changed.NodeChange.{NodeChange}
use Rattle.trial.specs.ChangeLists.{IsPlaceOf}
use Rattle.trial.proofs.ListedChanges.{placed_at}
use Rattle.trial.proofs.changes.Changes.get.Goals as goal

pub returns-in-Some : goal.returns-in-Some
returns-in-Some c =
    let h : IsPlaceOf c.self.inside.items.items c.args.id c.in-Some.place = subst (λ (cs : List NodeChange). IsPlaceOf cs c.args.id c.in-Some.place) c.deref.ensures.value c.in-Some.ensures in
    let same : c.index.result.now ≡ h.0 = c.index.ensures ∙ get_or_from_slice_get c.self.inside.items.items c.in-Some.place h.0 c.index.result.now h.1 in
    ap (λ (d : NodeChange). Some d) same ∙ sym (placed_at c.self.inside.items.items c.self.inside.places.items c.self.invariant c.args.id c.in-Some.place h.0 h.1 h.2)
    ∙ ap (λ (m : BTreeMap ℕ NodeChange). get nat_cmp m c.args.id) c.self.view_is
