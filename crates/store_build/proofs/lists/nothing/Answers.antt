use Rattle.std.proofs.Common.{◌≡◌, ◌∙◌, ◌++◌, [], ◌∷◌, None, length, get_or, ap, arith}
use Rattle.std.proofs.lemmas.List.{length_push}
use Rattle.store_build.proofs.ListLemmas.{push_none, none_in}
use Rattle.store_build.proofs.lists.nothing.Goals as goal

pub loop-place-init : goal.loop-place-init
loop-place-init g c = (ap length c.in_ok-places.ensures.items, λ i. none_in c.in_ok-places.places.items i c.in_ok-places.ensures.items)

pub loop-place-preserved : goal.loop-place-preserved
loop-place-preserved g c =
    let old = c.loop-place.places.items in
    let items : c.push.new.self.items ≡ old ++ None ∷ [] = c.in_ok-push.ensures.items in
    let size = c.loop-place.invariant.0 in (
      omega (arith, ap length items, length_push old None, size),
      λ i. ap (λ xs. get_or xs i None) items ∙ push_none old i ∙ c.loop-place.invariant.1 i,
    )
