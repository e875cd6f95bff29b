-- The solver's reply is the answer.
use Rattle.std.proofs.Common.{◌≡◌, ℤ, [], ◌∷◌, sym, ◌∙◌, subst, w64, to_z, of_z, rules}
use Rattle.comet_meaning.specs.Outcome.{Outcome}
use Rattle.comet_meaning.specs.Values as values
use Rattle.ls_solver.specs.Answers.{IsReply}
use Rattle.ls_solver.specs.Replying.{assign_reply}
use Rattle.run_values.specs.Did.{Did}
use Rattle.run_values.specs.Views.{value_seen}
use Rattle.model_values.specs.declared.deltas.Move.TheVariants.{Assign}
use Rattle.run_solvers.specs.Views.{waits}
use Rattle.run_solvers.proofs.AskingLaws.{asks_delta}
use Rattle.run_solvers.proofs.held.Held.assign_delta.Goals as goal

pub assign_delta_in-requires : goal.assign_delta_in-requires
assign_delta_in-requires g c = c.requires.kept.0.usable

pub returns-clause-did : goal.returns-clause-did
returns-clause-did g c = λ s.
    let held = c.args.self.now in
    let same : to_z w64 (of_z w64 c.args.number) ≡ c.args.number = search rules in
    let reply = subst (λ (z : ℤ). IsReply (assign_reply held.solver c.args.total c.args.x z) c.assign_delta_in.result) same c.assign_delta_in.ensures in
    subst (λ (o : Outcome values.Value). Did value_seen c.answer_of.result s o)
    (sym (asks_delta held.solver held.names (waits held) c.args.at c.args.total (c.requires.own ∙ sym c.requires.kept.0.number_) s (c.args.x ∷ []) (Assign c.args.x.index c.args.number)))
    (c.answer_of.ensures.did _ reply s)
