use Rattle.comet_meaning.specs.TermForms.{junction_form}
use Rattle.term_forms.proofs.operators.junction_term.Goals as goal

pub returns : goal.returns
unfolding junction_form
returns g c = record { did = c.join_all.ensures.did _ _ c.operands_of-operands.ensures.did }
