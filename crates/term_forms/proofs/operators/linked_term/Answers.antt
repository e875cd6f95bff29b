use Rattle.comet_meaning.specs.TermForms.{linked_term}
use Rattle.term_forms.proofs.operators.linked_term.Goals as goal

pub returns : goal.returns
unfolding linked_term
returns g c = record { did = c.join_with.ensures.did _ _ c.single_term-operand.ensures.did }
