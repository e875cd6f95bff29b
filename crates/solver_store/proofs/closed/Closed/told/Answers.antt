use Rattle.std.proofs.Common.{ℕ, subst, sym}
use Rattle.model_nodes.specs.Making.{ArePlaces}
use Rattle.model_values.specs.declared.wholes.Whole.{Whole}
use Rattle.store_laws.specs.Deltas.{IsTold, delta_asked}
use Rattle.solver_store.proofs.closed.Closed.told.Goals as goal

pub returns-clause-answer : goal.returns-clause-answer
returns-clause-answer g c =
    let closed = c.requires.1.1.0 in
    let M = g.question.setting.model in
    c.answer_of.ensures M (delta_asked g.question) (subst (ArePlaces M) (sym c.deref.ensures.value) closed.places)
    (subst (λ (total : Whole → ℕ). IsTold M total (delta_asked g.question) c.delta.result) closed.total c.delta.ensures.told)
