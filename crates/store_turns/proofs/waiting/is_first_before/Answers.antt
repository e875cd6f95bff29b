use Rattle.std.specs.BTreeMap.{get}
use Rattle.store_turns.specs.Waits.{turn_cmp}
use Rattle.store_turns.proofs.TwoParts.{tells_first}
use Rattle.store_turns.proofs.waiting.is_first_before.Goals as goal

pub returns-in-Some : goal.returns-in-Some
returns-in-Some c =
    tells_first (λ u. get turn_cmp c.args.far.now u) c.is_before.result c.in-Some.first.now c.args.turn c.in-Some.field-0-1.now c.in-Some.ensures.value c.in-Some.ensures.least c.is_before.ensures
