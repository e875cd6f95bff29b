use Rattle.std.proofs.Common.{◌≡◌, ◌∙◌, ◌+◌, ℕ, [], ◌∷◌, ◌++◌, List, Vec, length, subst, ap}
use Rattle.std.specs.declared.alloc.Global.{Global}
use Rattle.std.proofs.lemmas.List.{length_push}
use Rattle.layer_plan.specs.Dependencies.{DependsOn}
use Rattle.layer_plan.proofs.UserLists.{depends_none, depends_push_empty}
use Rattle.store_shares.proofs.users.empty_lists.Goals as goal

pub loop-item-init : goal.loop-item-init
loop-item-init c =
    let items : c.in_ok-lists.lists.items ≡ [] = c.in_ok-lists.ensures.items in
    (ap length items, λ w v d. depends_none w v (subst (λ (xs : List (Vec ℕ Global)). DependsOn xs w v) items d))

pub loop-item-preserved : goal.loop-item-preserved
loop-item-preserved c =
    let old = c.loop-item.lists.items in
    let new = c.new.result in
    let items : c.push.new.self.items ≡ old ++ new ∷ [] = c.in_ok-push.ensures.items in
    let size = c.loop-item.invariant.0 in (
      ap length items ∙ length_push old new ∙ ap (λ n. n + 1) size,
      λ w v d. c.loop-item.invariant.1 w v (depends_push_empty old new w v c.new.ensures.items (subst (λ (xs : List (Vec ℕ Global)). DependsOn xs w v) items d)),
    )
