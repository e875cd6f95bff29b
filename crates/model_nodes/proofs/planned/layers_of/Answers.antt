use Rattle.std.proofs.Common.{ℕ, Vec, map, ap, ◌∙◌}
use Rattle.std.specs.declared.alloc.Global.{Global}
use Rattle.model_nodes.proofs.PlannedSteps.{are_items, planned_all}
use Rattle.model_nodes.proofs.planned.layers_of.Goals as goal

pub plan-requires-clause-items : goal.plan-requires-clause-items
plan-requires-clause-items c =
    are_items c.deref.result.now c.args.lists.now (ap (map (λ (n : Vec ℕ Global). n.items)) c.deref.ensures.value ∙ c.in_ok-numbers.ensures) c.requires.layers

pub returns-in-Ok : goal.returns-in-Ok
returns-in-Ok c =
    planned_all c.deref.result.now c.args.lists.now (ap (map (λ (n : Vec ℕ Global). n.items)) c.deref.ensures.value ∙ c.in_ok-numbers.ensures) c.requires.layers
    c.in-Ok.layers c.in-Ok.ensures.count c.in-Ok.ensures.longest
