use Rattle.std.proofs.Common.{slice_index_or, refl, sym, ap, ◌∙◌}
use Rattle.std.proofs.lemmas.Option.{slice_get-get_or, slice_get_read}
use Rattle.inc_store.specs.declared.changed.NodeChange.{NodeChange}
use Rattle.trial.proofs.ListedChanges.{past_table, past_list, other_there}
use Rattle.trial.proofs.changes.place_of.Goals as goal

pub returns-then-places-id : goal.returns-then-places-id
returns-then-places-id c = past_table c.args.items.now c.args.places.now c.requires c.args.id c.if-places-id.true

pub returns-then-items-place : goal.returns-then-items-place
returns-then-items-place c =
    past_list c.args.items.now c.args.places.now c.requires c.args.id (slice_index_or c.args.places.now c.args.id 0) (slice_get-get_or c.args.places.now c.args.id 0 c.if-places-id.false) c.if-items-place.true

pub returns-then-items-place-2 : goal.returns-then-items-place-2
returns-then-items-place-2 c = (
  c.index-items-place.result,
  slice_get_read c.args.items.now _ (slice_index_or c.args.places.now c.args.id 0) c.index-items-place.result refl c.if-items-place.false c.index-items-place.is,
  ap (λ (d : NodeChange). d.node.0) c.index-items-place.is ∙ c.if-items-place-2.true,
)

pub returns-else-items-place-2 : goal.returns-else-items-place-2
returns-else-items-place-2 c =
    other_there c.args.items.now c.args.places.now c.requires c.args.id (slice_index_or c.args.places.now c.args.id 0) c.index-items-place.result (slice_get-get_or c.args.places.now c.args.id 0 c.if-places-id.false)
    (slice_get_read c.args.items.now _ (slice_index_or c.args.places.now c.args.id 0) c.index-items-place.result refl c.if-items-place.false c.index-items-place.is)
    (λ e. c.if-items-place-2.false (sym (ap (λ (d : NodeChange). d.node.0) c.index-items-place.is) ∙ e))
