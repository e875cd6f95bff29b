use Rattle.std.proofs.Common.{◌≡◌, ◌∙◌, ◌++◌, [], ◌∷◌, length, ap, arith}
use Rattle.std.proofs.lemmas.List.{length_push}
use Rattle.store_build.specs.Lists.{list_in}
use Rattle.store_build.proofs.ListLemmas.{in-push_empty}
use Rattle.store_build.proofs.lists.grow.Goals as goal

pub loop-list-preserved : goal.loop-list-preserved
loop-list-preserved g c =
    let old = c.loop-list.lists.items in
    let new = c.new.result in
    let items : c.push.new.self.items ≡ old ++ new ∷ [] = c.in_ok-push.ensures.items in
    let size = c.loop-list.invariant.0 in (
      omega (arith, ap length items, length_push old new, size),
      λ i. ap (λ xs. list_in xs i) items ∙ in-push_empty old new i c.new.ensures.items ∙ c.loop-list.invariant.1 i,
    )
