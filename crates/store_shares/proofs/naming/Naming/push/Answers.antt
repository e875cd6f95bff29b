use Rattle.std.proofs.Common.{◌≡◌, ◌+◌, rules}
use Rattle.store_shares.proofs.NamingLaws.{naming_more}
use Rattle.store_shares.proofs.naming.Naming.push.Goals as goal

pub returns-clause-more : goal.returns-clause-more
returns-clause-more c variables lists naming =
    let next : c.in-Some.next ≡ c.args.self.now.count + 1 = search rules in
    naming_more variables c.args.self.now (record { sets = c.put_all.new.sets; count = c.in-Some.next }) lists c.args.list.now naming c.in_ok-put_all.ensures next
