use Rattle.std.proofs.Common.{◌≡◌, ◌∙◌, ◌++◌, ap}
use Rattle.term_model.specs.Definitions.{joined}
use Rattle.store_shares.specs.Slots.{slots_of}
use Rattle.store_shares.proofs.MakingLaws.{made_more}
use Rattle.store_shares.proofs.making.push_member.Goals as goal

pub returns-clause-more : goal.returns-clause-more
returns-clause-more g c variables terms made =
    let walked = c.in_ok-part.ensures.walked in
    let named : c.deref.result.now ≡ joined (slots_of c.args.term.now) = c.deref.ensures.value ∙ walked.named ∙ ap (λ l. l ++ joined (slots_of c.args.term.now)) c.clear.ensures.items in
    made_more variables (g.I.Ids.id_of c.args.ids.now) c.args.making.now _ terms c.args.term.now c.in_ok-part.part c.deref.result.now made
    (walked.naming variables) (c.in_ok-push.ensures.more variables) named c.in_ok-push-2.ensures.items c.in_ok-part.ensures.tells
