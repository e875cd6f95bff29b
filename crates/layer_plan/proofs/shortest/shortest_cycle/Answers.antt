use Rattle.std.proofs.Common.{◌≡◌, ◌∙◌, ◌++◌, ◌∷◌, [], ℕ, get_or, subst, sym, ap, arith, append_assoc}
use Rattle.std.proofs.lemmas.List.{append-nil}
use Rattle.layer_plan.specs.NamedCycle.{IsNamedCycle}
use Rattle.layer_plan.proofs.Best.{IsBest, named, best_nil, best_cons, first_known, known_next, one_nearer, has_some}
use Rattle.layer_plan.proofs.shortest.shortest_cycle.Goals as goal

pub nearest-item-requires-clause-some : goal.nearest-item-requires-clause-some
nearest-item-requires-clause-some c = has_some c.args.deps.now c.args.root _ c.requires.root.leads_back.1.0

pub loop-item-init : goal.loop-item-init
loop-item-init c =
    let deps = c.args.deps.now in
    let near = λ (v : ℕ). get_or c.args.near.now v 0 in
    let w = c.nearest-item.result in
    let is = c.nearest-item.ensures in (
      c.requires.items _ _ is.depends,
      first_known deps near c.args.root w c.requires.near c.requires.root is.first,
      λ zs b. subst (λ ys. IsNamedCycle deps (ys ++ zs)) (sym c.in_ok-list.ensures.items) (named deps near c.args.root w zs c.requires.near c.requires.root b is.depends is.first),
    )

pub nearest-item-requires-in-loop-item-clause-some : goal.nearest-item-requires-in-loop-item-clause-some
nearest-item-requires-in-loop-item-clause-some c =
    let near = λ (v : ℕ). get_or c.args.near.now v 0 in
    let next = known_next c.args.deps.now near c.args.root c.loop-item.item c.requires.near c.loop-item.invariant.0 c.loop-item.invariant.1 c.loop-item-test.true in
    has_some c.args.deps.now c.loop-item.item next.0 next.1

pub loop-item-smaller : goal.loop-item-smaller
loop-item-smaller c =
    let near = λ (v : ℕ). get_or c.args.near.now v 0 in
    let is = c.nearest-item-in-loop-item.ensures in
    let e = one_nearer c.args.deps.now near c.args.root c.loop-item.item c.nearest-item-in-loop-item.result c.requires.near c.loop-item.invariant.0 c.loop-item.invariant.1 c.loop-item-test.true is.depends is.first in
    omega arith

pub loop-item-preserved : goal.loop-item-preserved
loop-item-preserved c =
    let deps = c.args.deps.now in
    let near = λ (v : ℕ). get_or c.args.near.now v 0 in
    let item = c.loop-item.item in
    let w = c.nearest-item-in-loop-item.result in
    let is = c.nearest-item-in-loop-item.ensures in
    let old = c.loop-item.invariant in
    let known = old.1 in
    let e = one_nearer deps near c.args.root item w c.requires.near old.0 old.1 c.loop-item-test.true is.depends is.first in
    let items : c.push.new.self.items ≡ c.loop-item.list.items ++ item ∷ [] = c.in_ok-push.ensures.items in (
      c.requires.items _ _ is.depends,
      omega arith,
      λ zs b. subst (λ ys. IsNamedCycle deps ys) (sym (ap (λ ys. ys ++ zs) items ∙ append_assoc c.loop-item.list.items (item ∷ []) zs)) (old.2 (item ∷ zs) (best_cons deps near c.args.root item w zs c.requires.near b is.depends e is.first)),
    )

pub returns : goal.returns
returns c =
    let deps = c.args.deps.now in
    let near = λ (v : ℕ). get_or c.args.near.now v 0 in
    let root = c.args.root in
    let at = c.loop-item.invariant.2 [] (subst (λ v. IsBest deps near root v []) (sym c.loop-item-test.false) (best_nil deps near root c.requires.near)) in
    subst (λ ys. IsNamedCycle deps ys) (append-nil c.loop-item.list.items) at
