use Rattle.checked_tree.specs.Shape.{seen}
use Rattle.comet_meaning.proofs.GoingStatements.{goes_level}
use Rattle.comet_meaning.proofs.Rows.{items_wholes_of}
use Rattle.comet_meaning.proofs.RowsOfTerms.{term_row_start, term_row_end, term_row_onward, term_row_step, term_row_err}
use Rattle.run_steps.proofs.Exits.{ends_passes, exit, memory_exit}
use Rattle.term_forms.proofs.parts.terms_of.Goals as goal

pub loop-e-init : goal.loop-e-init
loop-e-init g c = rw c.new-terms.ensures.items (term_row_start _ _ _ _ _ (items_wholes_of seen _))

pub returns-in_err-term : goal.returns-in_err-term
returns-in_err-term g c = record { did = exit _ _ _ _ _ c.from_residual.ensures.1 (term_row_err c.loop-e.invariant _ c.loop-e-test.true c.e-item.is _ (ends_passes _ _) (goes_level _ _) c.in_err-term.ensures.did) }

pub returns-in_err-push : goal.returns-in_err-push
returns-in_err-push g c = record { did = memory_exit _ _ _ _ c.from_residual-in_err-push.ensures.1 (term_row_onward (term_row_step c.loop-e.invariant _ c.loop-e-test.true c.e-item.is c.in_ok-term.ensures.did) (goes_level _ _)).printed }

pub loop-e-preserved : goal.loop-e-preserved
loop-e-preserved g c = rw c.in_ok-push.ensures.items (term_row_step c.loop-e.invariant _ c.loop-e-test.true c.e-item.is c.in_ok-term.ensures.did)

pub returns : goal.returns
returns g c = record { did = term_row_end c.loop-e.invariant c.loop-e-test.false }
