use Rattle.std.proofs.Common.{rules}
use Rattle.type_scopes.proofs.Spellings.{renumbered}
use Rattle.type_scopes.proofs.latest.Latest.set.Goals as goal

pub returns-in-Some : goal.returns-in-Some
returns-in-Some c =
    renumbered c.args.name.now c.args.self.now.by_name (c.get_mut.follows.lender c.args.number) c.args.number
    ((c.get_mut.follows.holds c.args.number).3 (search rules))
