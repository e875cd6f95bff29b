use Rattle.std.proofs.Common.{◌≡◌, ◌<◌, ◌∙◌, arith, rules, length, pos}
use Rattle.comet_meaning.specs.OfModelView.Building.{constant}
use Rattle.term_nodes.proofs.NodeLaws.{same_at, past_at}
use Rattle.term_nodes.proofs.nodes.term_in.Goals as goal

pub returns-then-is_there : goal.returns-then-is_there
returns-then-is_there c =
    let lt : c.args.cell < length c.args.terms.items = search (rules, arith) in
    c.swap_remove.ensures.value ∙ same_at c.args.terms.items c.args.cell _ (constant (pos 0)) lt

pub returns : goal.returns
returns c = rw (past_at c.args.terms.items c.args.cell (constant (pos 0)) (search (rules, arith))) c.constant.ensures
