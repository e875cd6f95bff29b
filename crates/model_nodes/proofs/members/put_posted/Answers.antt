use Rattle.std.proofs.Common.{◌≡◌, ◌∙◌, None, ap, sym, rules, arith}
use Rattle.std.specs.Prelude.{is_some}
use Rattle.term_model.specs.Posting.{member_at, number_in}
use Rattle.model_nodes.proofs.GatherSteps.{put_missing, put_none, put_there, total_there}
use Rattle.model_nodes.proofs.OkAnswers.{two_ok}
use Rattle.model_nodes.proofs.members.put_posted.Goals as goal

pub returns-in_default-clause-put : goal.returns-in_default-clause-put
returns-in_default-clause-put c =
    let none : c.posting_of.result ≡ None = search rules in
    put_none c.args.model.now c.args.side c.args.posted c.args.id c.args.lists.now.items (λ k. c.posting_of.ensures.number k ∙ ap (number_in k) none)

pub put-requires : goal.put-requires
put-requires c =
    let posting = c.in-Some.posting in
    let some = ap (λ ts. is_some (member_at ts posting.total posting.member)) (sym c.totals_by.ensures) ∙ sym c.has_member.ensures ∙ c.if-has_member.true in
    let lt = total_there _ posting.total posting.member some in
    omega (arith, lt, c.requires)

pub returns-then-has_member-clause-put : goal.returns-then-has_member-clause-put
returns-then-has_member-clause-put c =
    let posting = c.in-Some.posting in
    let some = ap (λ ts. is_some (member_at ts posting.total posting.member)) (sym c.totals_by.ensures) ∙ sym c.has_member.ensures ∙ c.if-has_member.true in
    two_ok c.put.result _ _ _ (put_there c.args.model.now c.args.side c.args.posted c.args.id c.args.lists.now.items c.put.new.lists.items posting (λ k. c.posting_of.ensures.number k ∙ ap (number_in k) c.in-Some.is) some)
    c.put.ensures.here c.put.ensures.elsewhere

pub returns-clause-put : goal.returns-clause-put
returns-clause-put c =
    let posting = c.in-Some.posting in
    let none = ap (λ ts. is_some (member_at ts posting.total posting.member)) (sym c.totals_by.ensures) ∙ sym c.has_member.ensures ∙ c.if-has_member.false in
    put_missing c.args.model.now c.args.side c.args.posted c.args.id c.args.lists.now.items posting (λ k. c.posting_of.ensures.number k ∙ ap (number_in k) c.in-Some.is) none
