-- The first event is taken off the queue.
use Rattle.std.proofs.Common.{List, ap}
use Rattle.comet_meaning.specs.Events.{with_queue}
use Rattle.comet_meaning.specs.Search as meaning
use Rattle.run_search.specs.Searches.{search_seen}
use Rattle.run_search.proofs.SearchLaws.{first_seen, rest_seen}
use Rattle.run_search.proofs.search.Search.next_event.Goals as goal

pub returns-clause-first : goal.returns-clause-first
unfolding search_seen
returns-clause-first c = first_seen c.args.self.now.queue c.next.new.self c.next.result c.next.ensures

pub returns-clause-left : goal.returns-clause-left
unfolding search_seen
returns-clause-left c = ap (λ (es : List meaning.Event). with_queue es (search_seen c.args.self.now)) (rest_seen c.args.self.now.queue c.next.new.self c.next.result c.next.ensures)
