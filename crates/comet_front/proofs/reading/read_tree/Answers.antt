use Rattle.comet_front.proofs.Few.{few_tokens}
use Rattle.comet_front.proofs.reading.read_tree.Goals as goal

pub parse-requires : goal.parse-requires
parse-requires c = rw c.as_slice.ensures.value (few_tokens c.in-Ok.ensures.found)
