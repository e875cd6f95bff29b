-- The move stands at its number.
use Rattle.std.proofs.Common.{List, Option, Some, sym, ap}
use Rattle.std.specs.Prelude.{option_map}
use Rattle.std.proofs.lemmas.List.{map-set}
use Rattle.comet_meaning.specs.Outcome.{Went}
use Rattle.comet_meaning.specs.Search.{KeptMove}
use Rattle.run_search.specs.Searches.{move_seen, moves_seen}
use Rattle.run_state.specs.Views.{state_seen}
use Rattle.run_state.proofs.state.State.put_move.Goals as goal

pub returns-then-number-len-clause-did : goal.returns-then-number-len-clause-did
unfolding moves_seen
returns-then-number-len-clause-did c = λ printed.
    ap (λ (ms : List (Option KeptMove)). Went tt (record (state_seen c.args.self.now printed) { moves = ms })) (sym (map-set (option_map move_seen) c.args.self.now.moves.items c.args.number (Some c.args.kept)))
