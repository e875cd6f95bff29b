use Rattle.std.proofs.Common.{◌+◌, ap, ◌∙◌}
use Rattle.ls_select.specs.declared.part.Part.{Part}
use Rattle.ls_select.proofs.JoinLaws.{one_more}
use Rattle.ls_select.proofs.ScanLaws.{one_scanned}
use Rattle.ls_select.proofs.part.Part.add.Goals as goal

pub returns-clause-added : goal.returns-clause-added
returns-clause-added c scores is =
    ap (λ (q : Part). record q { count = q.count + 1; cost = q.cost + c.args.scored.cost }) c.in_ok-note.ensures.noted
    ∙ one_more c.args.want c.args.self.now c.args.scored scores c.requires.going is

pub returns-clause-scanned : goal.returns-clause-scanned
returns-clause-scanned c fuel candidates next is scored =
    ap (λ (q : Part). record q { count = q.count + 1; cost = q.cost + c.args.scored.cost }) c.in_ok-note.ensures.noted
    ∙ one_scanned c.args.want c.args.self.now c.args.scored fuel candidates next c.requires.going is scored
