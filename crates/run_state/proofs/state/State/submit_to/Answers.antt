-- The selector keeps what it has, or the statement with the names that it sees now.
use Rattle.std.proofs.Common.{true, false, sym, ap, ◌∙◌}
use Rattle.std.specs.Int.{w64}
use Rattle.std.proofs.lemmas.Int.{to_z-of_z}
use Rattle.comet_meaning.specs.Moves.{put_move}
use Rattle.comet_meaning.specs.Search.{Closure}
use Rattle.run_state.specs.Views.{state_seen}
use Rattle.run_state.proofs.OtherValues.{closed_is, submitted_as}
use Rattle.run_state.proofs.state.State.submit_to.Goals as goal

pub returns-then-not-is_better-clause-did : goal.returns-then-not-is_better-clause-did
returns-then-not-is_better-clause-did c = λ printed. submitted_as c.args.delta c.args.number c.args.body.now.value.value (state_seen c.args.self.now printed) false (sym c.if-not-is_better.true ∙ simp (to_z-of_z w64 c.args.delta c.ranges.delta) at (c.is_better.ensures printed))

pub returns-clause-did : goal.returns-clause-did
returns-clause-did c = λ printed.
    let s = (state_seen c.args.self.now printed) in
    submitted_as c.args.delta c.args.number c.args.body.now.value.value s true (sym c.if-not-is_better.false ∙ simp (to_z-of_z w64 c.args.delta c.ranges.delta) at (c.is_better.ensures printed))
    ∙ ap (λ (x : Closure). put_move c.args.number (record { delta = c.args.delta; closure = x }) s) (closed_is c.args.body.now.value.value s _ (c.in_ok-closure.ensures.did printed))
    ∙ simp (to_z-of_z w64 c.args.delta c.ranges.delta) at (c.put_move.ensures.did printed)
