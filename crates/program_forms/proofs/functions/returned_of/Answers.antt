use Rattle.std.proofs.Common.{sym, ◌∙◌}
use Rattle.program_forms.proofs.Returned.{alone_returned}
use Rattle.program_forms.proofs.functions.returned_of.Goals as goal

pub returns-then-tasks-eq1 : goal.returns-then-tasks-eq1
returns-then-tasks-eq1 c = c.returned_in.ensures ∙ sym (alone_returned c.args.tasks.now c.index-tasks-0.result c.if-tasks-eq1.true c.index-tasks-0.is)
