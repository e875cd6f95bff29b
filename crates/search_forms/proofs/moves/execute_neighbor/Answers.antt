-- The delta, and then the selector keeps the statement.
use Rattle.std.proofs.Common.{refl, rules, w64}
use Rattle.std.specs.Prelude.{FitsSigned}
use Rattle.std.proofs.lemmas.Int.{to_z-of_z}
use Rattle.run_steps.proofs.Exits.{exit}
use Rattle.search_forms.proofs.LaterLaws.{neighbor_ends, neighbor_unkept, neighbor_unseen, neighbor_went}
use Rattle.search_forms.proofs.moves.execute_neighbor.Goals as goal

pub returns-in_err-delta : goal.returns-in_err-delta
returns-in_err-delta g c = record { did = exit _ _ _ _ _ c.from_residual.ensures.1 (neighbor_ends _ _ _ _ _ _ _ c.in_err-delta.ensures.did) }

pub returns-in_err-selector : goal.returns-in_err-selector
returns-in_err-selector g c = record { did = exit _ _ _ _ _ c.from_residual-in_err-selector.ensures.1 (neighbor_unseen _ _ _ _ _ _ c.in_err-selector.ensures.memory c.in_ok-delta.ensures.did) }

pub returns-in_err-submit : goal.returns-in_err-submit
returns-in_err-submit g c = let f : FitsSigned w64 c.in_ok-delta.delta = search rules in record { did = exit _ _ _ _ _ c.from_residual-in_err-submit.ensures.1 (neighbor_unkept _ _ _ _ _ c.in_ok-delta.ensures.did (c.in_ok-selector.ensures.did _) _ _ refl (rw (to_z-of_z w64 c.in_ok-delta.delta f) at (c.in_err-submit.ensures.did (g.O.Outside.told c.number_of.new.out)))) }

pub returns : goal.returns
returns g c = let f : FitsSigned w64 c.in_ok-delta.delta = search rules in record { did = neighbor_went _ _ _ _ _ c.in_ok-delta.ensures.did (c.in_ok-selector.ensures.did _) (rw (to_z-of_z w64 c.in_ok-delta.delta f) at (c.in_ok-submit.ensures.did (g.O.Outside.told c.number_of.new.out))) }
