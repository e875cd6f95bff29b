-- What an event names runs with the values of the event.
use Rattle.std.proofs.Common.{sym, subst}
use Rattle.std.specs.Prelude.{slice_index_or}
use Rattle.comet_meaning.specs.Events as events
use Rattle.comet_meaning.specs.Program.{level}
use Rattle.comet_meaning.specs.Search.{no_reaction}
use Rattle.comet_meaning.proofs.GoingEvents.{goes_react}
use Rattle.comet_meaning.proofs.GoingStatements.{goes_level}
use Rattle.run_steps.specs.OfRunSearch.Searches.{event_seen}
use Rattle.run_steps.specs.OfRunState.Views.{state_seen}
use Rattle.run_steps.specs.Does.{Ends}
use Rattle.run_steps.proofs.Exits.{exit}
use Rattle.run_steps.proofs.Stops.{unprinted}
use Rattle.event_forms.proofs.queue.react.Goals as goal

pub returns-in_err-reaction : goal.returns-in_err-reaction
returns-in_err-reaction g c =
    let s = state_seen c.args.s.now (g.O.Outside.told c.args.out.now) in
    let l = level (g.W.Within.code c.args.inside.now) (g.W.Within.depth c.args.inside.now) in
    let e = event_seen c.args.event in
    let r = slice_index_or s.search.reactions c.args.event.closure no_reaction in
    record { did = exit _ _ s (events.react l e r s) _ c.from_residual.ensures.1 (subst (λ z. Ends z s (events.react l e r s)) (sym c.in_err-reaction.ensures.memory) (unprinted s (goes_react l (goes_level _ _) e r))) }

pub returns : goal.returns
returns g c = record { did = rw (sym c.in_ok-reaction.ensures.same, sym c.binding_of-binding.ensures) c.run_closure.ensures.did }
