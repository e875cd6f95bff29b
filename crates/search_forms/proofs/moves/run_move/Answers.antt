-- A move is what its selector keeps, and what is no move is nothing.
use Rattle.comet_meaning.specs.Moves.{called_move}
use Rattle.search_forms.proofs.LaterLaws.{called_none}
use Rattle.search_forms.proofs.moves.run_move.Goals as goal

pub returns-in-Move : goal.returns-in-Move
unfolding called_move
returns-in-Move g c = record { did = rw c.in-Move.is c.run_kept.ensures.did }

pub returns-in_default : goal.returns-in_default
returns-in_default g c = record { did = called_none _ _ _ c.in_default.not-Move }
