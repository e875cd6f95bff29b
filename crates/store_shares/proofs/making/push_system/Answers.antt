use Rattle.std.proofs.Common.{◌≡◌, ◌∙◌, ◌++◌, ◌∷◌, [], length, rules, ap}
use Rattle.store_shares.specs.Making.{terms_in}
use Rattle.store_shares.proofs.MakingLaws.{made_system}
use Rattle.store_shares.proofs.making.push_system.Goals as goal

pub returns-clause-more : goal.returns-clause-more
returns-clause-more g c variables totals before =
    let more = c.in_ok-push_members.ensures in
    let made = more.more variables (terms_in totals) before.made in
    let starts : c.len-first.result ≡ length c.args.making.now.parts.items = search rules in
    let ends : c.len-end.result ≡ length c.push_members.new.making.parts.items = search rules in
    made_system variables (g.I.Ids.id_of c.args.ids.now) c.args.making.now _ totals c.args.total.now c.len-first.result c.len-end.result before
    (record { slots = made.slots; members = made.members; tell = made.tell }) starts ends
    (c.in_ok-push.ensures.items ∙ ap (λ l. l ++ record { first = c.len-first.result; end = c.len-end.result } ∷ []) more.systems)
