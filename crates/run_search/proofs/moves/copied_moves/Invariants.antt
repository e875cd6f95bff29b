use Rattle.std.proofs.Common.{◌≡◌, map, take, option_map}
use Rattle.run_search.specs.Searches.{move_seen}
use Rattle.run_search.proofs.moves.copied_moves.Given as goal

abbrev pub invariant-loop-kept : goal.invariant-loop-kept
invariant-loop-kept l = map (option_map move_seen) l.copies.items ≡ map (option_map move_seen) (take l.kept-index l.moves)
