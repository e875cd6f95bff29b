use Rattle.std.proofs.Common.{Vec, ◌≡◌, ◌∙◌, ◌+◌, ℕ, List, [], ◌∷◌, ◌++◌, length, subst, ap}
use Rattle.std.specs.declared.alloc.Global.{Global}
use Rattle.std.proofs.lemmas.List.{length_push}
use Rattle.layer_plan.specs.Dependencies.{DependsOn}
use Rattle.bench.proofs.Pushed.{below_push, none_below}
use Rattle.bench.proofs.planning.dependencies.Goals as goal

pub loop-item-init : goal.loop-item-init
loop-item-init c =
    let items : c.new-deps.result.items ≡ [] = c.new-deps.ensures.items in
    (ap length items, λ v w d. none_below c.args.shape.now.items v w (subst (λ (xs : List (Vec ℕ Global)). DependsOn xs v w) items d))

pub loop-item-preserved : goal.loop-item-preserved
loop-item-preserved c =
    let old = c.loop-item.deps.items in
    let list = c.in_ok-list.list in
    let items : c.push.new.self.items ≡ old ++ list ∷ [] = c.in_ok-push.ensures.items in (
      ap length items ∙ length_push old list ∙ ap (λ n. n + 1) c.loop-item.invariant.0,
      λ v w d. below_push old list c.args.shape.now.items c.loop-item.invariant.1 c.in_ok-list.ensures v w (subst (λ (xs : List (Vec ℕ Global)). DependsOn xs v w) items d),
    )
