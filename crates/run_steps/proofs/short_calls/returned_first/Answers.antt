use Rattle.std.proofs.Common.{◌∙◌, ap}
use Rattle.checked_tree.specs.declared.statements.Task.{Task}
use Rattle.run_steps.proofs.ShortLaws.{alone_first}
use Rattle.run_steps.proofs.short_calls.returned_first.Goals as goal

pub returns-in-Action : goal.returns-in-Action
returns-in-Action c = record { given = λ at. alone_first c.args.tasks.now c.index-tasks-0.result c.in-Action.action _ at c.if-tasks-ne1.false c.index-tasks-0.is (ap (λ (x : Task). x.act) c.index-tasks-0.is ∙ c.in-Action.is) c.returned_value.ensures.given }
