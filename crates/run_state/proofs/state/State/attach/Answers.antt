-- The variable has one handler more; what is no variable has none.
use Rattle.std.proofs.Common.{ap, ◌∙◌}
use Rattle.comet_meaning.specs.Events.{with_reaction}
use Rattle.comet_meaning.specs.Outcome.{Went}
use Rattle.comet_meaning.specs.Search.{Closure}
use Rattle.run_search.specs.Searches.{search_seen}
use Rattle.run_state.specs.Views.{state_seen}
use Rattle.run_state.proofs.OtherValues.{closed_is, kept_so, nothing_watched, watched_as}
use Rattle.run_state.proofs.state.State.attach.Goals as goal

pub returns-in_default-clause-did : goal.returns-in_default-clause-did
returns-in_default-clause-did c = λ printed. nothing_watched c.args.variable.now c.args.names c.args.body.now.value.value (state_seen c.args.self.now printed) c.in_default.not-Variable

pub returns-in_ok-closure-in-Variable-clause-did : goal.returns-in_ok-closure-in-Variable-clause-did
returns-in_ok-closure-in-Variable-clause-did c = λ printed.
    let s = (state_seen c.args.self.now printed) in
    let t = c.args.body.now.value.value in
    let v = c.in-Variable.variable in
    rw c.in-Variable.is (kept_so c.attach.result s (search_seen c.attach.new.self) _ _
    (watched_as v c.args.names t s ∙ ap (λ (x : Closure). Went tt (record s { search = with_reaction v (record { names = c.args.names; closure = x }) s.search })) (closed_is t s _ (c.in_ok-closure-in-Variable.ensures.did printed)))
    c.attach.ensures.attached c.attach.ensures.memory)
