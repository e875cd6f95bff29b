use Rattle.std.proofs.Common.{◌∙◌, ℕ, List, subst, sym, inl, inr, arith}
use Rattle.std.specs.List.{Contains}
use Rattle.std.proofs.lemmas.Bool.{cases_eq, eqb-true, eq-eqb}
use Rattle.layer_plan.specs.Dependencies.{list_of, DependsOn}
use Rattle.layer_plan.proofs.components.least_on_itself.Goals as goal

pub returns-then-contains-clause-depends : goal.returns-then-contains-clause-depends
unfolding DependsOn
returns-then-contains-clause-depends c = λ lt.
    let item = c.loop-item.item-counter in
    let at = c.if-contains.ensures.cases in
    let here : Contains c.list_of.result.now item = (at.0, at.1, eqb-true _ _ (at.2 item)) in
    subst (λ (ys : List ℕ). Contains ys item) c.list_of.ensures here

pub loop-item-preserved : goal.loop-item-preserved
unfolding DependsOn
loop-item-preserved c = λ v lt d.
    let item = c.loop-item.item-counter in
    let none = c.if-contains.ensures.cases in
    elim (cases_eq v item) [
      | inl e ↦ (let at : Contains c.list_of.result.now item = subst (λ (ys : List ℕ). Contains ys item) (sym c.list_of.ensures) (subst (λ y. Contains (list_of c.args.deps.now y) y) e d) in
          let is = eq-eqb _ _ at.2 in
          let is_not = none at.0 item (omega arith) at.1 in
          absurd (let q = sym is ∙ is_not in cc))
      | inr n ↦ c.loop-item.invariant v (omega arith) d
    ]
