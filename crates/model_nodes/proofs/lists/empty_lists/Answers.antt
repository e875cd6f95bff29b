use Rattle.std.proofs.Common.{◌≡◌, ◌∙◌, ◌++◌, [], ◌∷◌, length, ap, arith}
use Rattle.std.proofs.lemmas.List.{length_push}
use Rattle.store_build.specs.Lists.{list_in}
use Rattle.store_build.proofs.ListLemmas.{in-push_empty}
use Rattle.model_nodes.proofs.lists.empty_lists.Goals as goal

pub loop-list-init : goal.loop-list-init
loop-list-init c = record {
  count = ap length c.in_ok-lists.ensures.items;
  empty = λ k. ap (λ xs. list_in xs k) c.in_ok-lists.ensures.items;
}

pub loop-list-preserved : goal.loop-list-preserved
loop-list-preserved c =
    let old = c.loop-list.lists.items in
    let new = c.new.result in
    let items : c.push.new.self.items ≡ old ++ new ∷ [] = c.in_ok-push.ensures.items in
    let size = c.loop-list.invariant.count in
    record {
      count = omega (arith, ap length items, length_push old new, size);
      empty = λ k. ap (λ xs. list_in xs k) items ∙ in-push_empty old new k c.new.ensures.items ∙ c.loop-list.invariant.empty k;
    }
