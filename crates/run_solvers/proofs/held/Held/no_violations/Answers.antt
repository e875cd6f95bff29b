-- It is refused as the meaning of programs does, or is 0.
use Rattle.std.proofs.Common.{sym, ◌∙◌}
use Rattle.run_solvers.specs.Views.{waits}
use Rattle.run_solvers.proofs.AskingLaws.{asks_none, unasked_foreign, unasked_open}
use Rattle.run_solvers.proofs.held.Held.no_violations.Goals as goal

pub returns-then-not-is_closed-clause-did : goal.returns-then-not-is_closed-clause-did
returns-then-not-is_closed-clause-did g c = λ s.
    let held = c.args.self.now in
    unasked_open held.solver held.names (waits held) c.args.at c.args.total (c.requires.own ∙ sym c.requires.kept.0.number_) s c.args.x c.requires.side (sym c.is_closed.ensures ∙ c.if-not-is_closed.true)

pub returns-then-not-owns_asked-clause-did : goal.returns-then-not-owns_asked-clause-did
returns-then-not-owns_asked-clause-did g c = λ s.
    let held = c.args.self.now in
    unasked_foreign held.solver held.names (waits held) c.args.at c.args.total (c.requires.own ∙ sym c.requires.kept.0.number_) s c.args.x c.requires.side (sym c.is_closed.ensures ∙ c.if-not-is_closed.false) (sym c.owns_asked.ensures ∙ c.if-not-owns_asked.true)

pub returns-clause-did : goal.returns-clause-did
returns-clause-did g c = λ s.
    let held = c.args.self.now in
    asks_none held.solver held.names (waits held) c.args.at c.args.total (c.requires.own ∙ sym c.requires.kept.0.number_) s c.args.x c.requires.side (sym c.is_closed.ensures ∙ c.if-not-is_closed.false) (sym c.owns_asked.ensures ∙ c.if-not-owns_asked.false)
