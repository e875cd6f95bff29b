use Rattle.std.proofs.Common.{◌∙◌}
use Rattle.layer_plan.specs.Search.{stage_of}
use Rattle.layer_plan.proofs.CycleLists.{cycle_at}
use Rattle.layer_plan.proofs.TrailSteps.{leads_last}
use Rattle.layer_plan.proofs.search.Search.step.Goals as goal

pub open-requires-clause-leads : goal.open-requires-clause-leads
open-requires-clause-leads c = leads_last c.args.deps.now c.args.self.now.stack.items c.args.item _ c.requires.last c.entry-next.ensures.depends

pub returns-in-Open-clause-stop : goal.returns-in-Open-clause-stop
returns-in-Open-clause-stop c = cycle_at c.args.deps.now (stage_of c.args.self.now) c.args.self.now.stack.items c.entry-next.result c.args.item c.requires.sound.trail c.requires.last c.entry-next.ensures.depends c.entry-next.ensures.within (c.stage.ensures ∙ c.in-Open.is)
