use Rattle.std.proofs.lemmas.Bool.Decides.{Decides-int_eq}
use Rattle.std.proofs.lemmas.Slice.Eq.{slice_eq-Decides}
use Rattle.node_states.proofs.changes.are_equal_lists.Goals as goal

pub returns : goal.returns
returns c = (slice_eq-Decides Decides-int_eq c.args.from.now c.args.to.now c.eq.result c.eq.ensures).0
