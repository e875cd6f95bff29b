use Rattle.std.proofs.Common.{◌∙◌, arith}
use Rattle.run_steps.proofs.PendingLaws.{member_next}
use Rattle.comet_meaning.proofs.Domains.{members_behind}
use Rattle.run_steps.proofs.tuples.take_member.Goals as goal

pub returns-clause-next : goal.returns-clause-next
returns-clause-next c = c.get-member.ensures ∙ member_next c.args.set.now c.args.index.now

pub returns-clause-left : goal.returns-clause-left
returns-clause-left c = members_behind c.args.set.now c.args.index.now (omega (arith, c.if-len-index.false, c.len.ensures.len))
