use Rattle.std.proofs.Common.{ap, sym}
use Rattle.std.specs.BTreeMap.{get}
use Rattle.store_turns.specs.declared.waiting.Pending.{Pending}
use Rattle.store_turns.specs.Waits.{turn_cmp, changes_of}
use Rattle.store_turns.proofs.TwoParts.{far_first_is}
use Rattle.store_turns.proofs.waiting.Waiting.pop_far.Goals as goal

pub returns-in-Some-clause-far : goal.returns-in-Some-clause-far
returns-in-Some-clause-far c =
    far_first_is (λ u. get turn_cmp c.args.self.now.far u) (λ u. get turn_cmp c.pop_first.new.self u) c.in-Some.turn c.in-Some.pending (changes_of c.replace-before.new.dest) c.in-Some.ensures.value (ap (λ (p : Pending). changes_of p) (sym c.replace-before.ensures.after)) c.in-Some.ensures.least c.in-Some.ensures.updates.1 c.in-Some.ensures.updates.2
