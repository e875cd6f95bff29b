use Rattle.std.proofs.Common.{sym}
use Rattle.solver_models.proofs.CountLaws.{posted_none, posted_some}
use Rattle.solver_models.proofs.counting.add_posted.Goals as goal

pub returns-in-Some : goal.returns-in-Some
returns-in-Some c = posted_some c.add.result c.args.model.now c.args.posted c.in-Some.term.now c.args.counted.now c.add.new.self (sym c.in-Some.ensures) c.add.ensures

pub returns-in-None : goal.returns-in-None
returns-in-None c = posted_none c.args.model.now c.args.posted c.args.counted.now (sym c.in-None.ensures)
