use Rattle.term_model.specs.Users.{user_rules}
use Rattle.model_values.proofs.VarLaws.{right_set}
use Rattle.model_values.proofs.settling.settle.Goals as goal

pub returns-clause-right : goal.returns-clause-right
returns-clause-right g c =
    let tables = c.args.tables.now in
    right_set (user_rules (g.U.UserValues.viol_of tables.users.now) (g.U.UserValues.viol_at tables.users.now)) tables.model.now tables.assignment.now c.args.cells.now.items c.learn.new.cells.items c.args.index c.in_ok-outcome.outcome
    c.requires.right c.requires.within c.in_ok-outcome.ensures.outcome c.in_ok-outcome.ensures.kind c.learn.ensures
