use Rattle.std.proofs.Common.{◌≡◌, ◌+◌, ◌<◌, ◌∙◌, ◌++◌, ◌∷◌, [], length, get_or, ap, below_more, arith}
use Rattle.std.proofs.lemmas.List.{length_push, get_or_push, get_or_append_left}
use Rattle.layer_plan.specs.Dependencies.{list_of}
use Rattle.layer_plan.proofs.Lists.{list_of-read}
use Rattle.layer_plan.proofs.search.lengths.Goals as goal

pub loop-list-preserved : goal.loop-list-preserved
loop-list-preserved c =
    let xs = c.loop-list.lengths.items in
    let i = c.loop-list.list-index in
    let deps = c.args.deps.now in
    let items : c.push.new.self.items ≡ xs ++ c.len.result ∷ [] = c.in_ok-push.ensures.items in
    let size : length xs ≡ i = c.loop-list.invariant.0 in
    let list = list_of-read deps i c.list-item.result c.list-item.result c.loop-list-test.true c.list-item.is in
    let here : c.len.result ≡ length (list_of deps i) = c.len.ensures ∙ c.list-item.result.ok.0 ∙ ap length list in (
      ap length items ∙ length_push xs c.len.result ∙ ap (λ n. n + 1) size,
      below_more (λ k. get_or c.push.new.self.items k 0 ≡ length (list_of deps k)) i
          (λ k h. (let k_in : k < length xs = omega arith in ap (λ ys. get_or ys k 0) items ∙ get_or_append_left xs (c.len.result ∷ []) 0 k k_in ∙ c.loop-list.invariant.1 k h))
          (ap (λ ys. get_or ys i 0) items ∙ get_or_push xs c.len.result 0 i size ∙ here),
    )
