-- The solver's reply is the answer.
use Rattle.std.proofs.Common.{[], ◌∷◌, sym, ◌∙◌, subst}
use Rattle.comet_meaning.specs.Outcome.{Outcome}
use Rattle.comet_meaning.specs.Values as values
use Rattle.run_values.specs.Did.{Did}
use Rattle.run_values.specs.Views.{value_seen}
use Rattle.model_values.specs.declared.deltas.Move.TheVariants.{Swap}
use Rattle.run_solvers.specs.Views.{waits}
use Rattle.run_solvers.proofs.AskingLaws.{asks_delta}
use Rattle.run_solvers.proofs.held.Held.swap_delta.Goals as goal

pub swap_delta_in-requires : goal.swap_delta_in-requires
swap_delta_in-requires g c = c.requires.kept.0.usable

pub returns-clause-did : goal.returns-clause-did
returns-clause-did g c = λ s.
    let held = c.args.self.now in
    subst (λ (o : Outcome values.Value). Did value_seen c.answer_of.result s o)
    (sym (asks_delta held.solver held.names (waits held) c.args.at c.args.total (c.requires.own ∙ sym c.requires.kept.0.number_) s (c.args.x ∷ c.args.y ∷ []) (Swap c.args.x.index c.args.y.index)))
    (c.answer_of.ensures.did _ c.swap_delta_in.ensures s)
