use Rattle.std.proofs.Common.{rules}
use Rattle.type_simples.proofs.Printing.{all_shown_seen}
use Rattle.type_simples.proofs.simples.all_shown.Goals as goal

pub returns : goal.returns
returns c = rw (all_shown_seen c.args.printed.now) (search rules)
