-- The events of the changes stand behind those that wait.
use Rattle.std.proofs.Common.{List, ap}
use Rattle.comet_meaning.specs.Search as meaning
use Rattle.run_search.specs.Searches.{search_seen}
use Rattle.run_search.proofs.SearchLaws.{queued_behind}
use Rattle.run_search.proofs.search.Search.queue.Goals as goal

pub returns-clause-queued : goal.returns-clause-queued
unfolding search_seen
returns-clause-queued c = λ k cs same.
    let i = c.args.self.now in
    ap (λ (es : List meaning.Event). record (search_seen i) { queue = es })
    (queued_behind k i.handlers cs c.args.changes.now i.queue c.queue.new.into same c.in_ok-queue.ensures.queued)
