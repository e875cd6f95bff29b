use Rattle.std.proofs.Common.{sym, subst}
use Rattle.run_steps.specs.Does.{Does}
use Rattle.term_forms.proofs.IndexLaws.{index_moves, index_stays}
use Rattle.term_forms.proofs.arrays.index_term.Goals as goal

pub returns-then-index : goal.returns-then-index
returns-then-index g c = record { did = subst (Does _ _ _) (sym (index_moves _ _ _ _ _ c.if-index.true)) c.element_term.ensures.did }

pub returns-else-index : goal.returns-else-index
returns-else-index g c = record { did = subst (Does _ _ _) (sym (index_stays _ _ _ _ _ c.if-index.false)) c.picked_term.ensures.did }
