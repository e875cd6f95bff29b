use Rattle.std.proofs.Common.{rules, ◌≡◌, ◌<◌, false, get_or, length, refl}
use Rattle.model_values.proofs.ReachLaws.{entered}
use Rattle.model_values.proofs.reach.enter.Goals as goal

pub returns : goal.returns
returns c =
    let marks = c.args.marks.now.items in
    let mark = c.index.result.now in
    let lt : c.args.var < length marks = search rules in
    let read : mark ≡ get_or marks c.args.var mark = search rules in
    let not : mark ≡ false = search rules in
    entered c.args.var mark marks _ c.args.stack.now.items c.push.new.self.items lt read not refl c.in_ok-push.ensures.items
