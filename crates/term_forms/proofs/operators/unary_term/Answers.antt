use Rattle.comet_meaning.specs.TermForms.{unary_term}
use Rattle.term_forms.proofs.operators.unary_term.Goals as goal

pub returns : goal.returns
unfolding unary_term
returns g c = record { did = c.unary_of.ensures.did _ _ c.single_term-operand.ensures.did }
