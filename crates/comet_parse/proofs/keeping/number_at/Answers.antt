use Rattle.std.proofs.Common.{w64}
use Rattle.std.proofs.lemmas.Int.{to_z-of_z}
use Rattle.parse_stacks.proofs.Trees.{written_number}
use Rattle.comet_parse.proofs.keeping.number_at.Goals as goal

pub returns : goal.returns
returns c = simp (to_z-of_z w64 c.args.value c.ranges.value) (written_number c.args.value c.args.place)
