use Rattle.std.proofs.Common.{ap, ◌∙◌, map, subst, sym, ℕ}
use Rattle.cbl_base.specs.declared.ids.VarId.{VarId}
use Rattle.layer_plan.specs.NamedCycle.{IsNamedStop}
use Rattle.solver_models.specs.Dependencies.{AreDependencies}
use Rattle.solver_models.proofs.PlanLaws.{acyclic_from, items_there, named_from}
use Rattle.solver_models.proofs.cycle.cycle_of.Goals as goal

pub plan-requires-clause-items : goal.plan-requires-clause-items
plan-requires-clause-items c =
    items_there c.args.model.now c.deref.result.now c.requires.formed (subst (λ ds. AreDependencies c.args.model.now ds) (sym c.deref.ensures.value) c.in_ok-deps.ensures)

pub returns-in-Ok : goal.returns-in-Ok
returns-in-Ok c =
    acyclic_from c.args.model.now c.deref.result.now c.requires.formed (subst (λ ds. AreDependencies c.args.model.now ds) (sym c.deref.ensures.value) c.in_ok-deps.ensures)
    c.in-Ok._layers c.in-Ok.ensures.longest

pub returns-in-Err-Cycle : goal.returns-in-Err-Cycle
returns-in-Err-Cycle c = (
  c.in-Err-Cycle.places.items,
  c.in_ok-ids-in-Err-Cycle.ensures ∙ ap (map (λ (i : ℕ). let x : VarId = record { solver = c.args.number; index = i } in x)) c.deref-in-Err-Cycle.ensures.value,
  named_from c.args.model.now c.deref.result.now c.requires.formed (subst (λ ds. AreDependencies c.args.model.now ds) (sym c.deref.ensures.value) c.in_ok-deps.ensures)
      c.in-Err-Cycle.places.items (subst (λ stop. IsNamedStop c.deref.result.now stop) c.in-Err-Cycle.field-0-is c.in-Err-Cycle.ensures.cycle),
)
