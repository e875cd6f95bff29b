use Rattle.comet_meaning.proofs.GoingStatements.{goes_level}
use Rattle.comet_meaning.proofs.Rows.{items_rows}
use Rattle.comet_meaning.proofs.RowsOfTerms.{terms_start, terms_end, terms_step, terms_err}
use Rattle.run_steps.proofs.Exits.{ends_passes, exit}
use Rattle.run_steps.proofs.Forms.{link_is}
use Rattle.term_forms.proofs.operators.joined_term.Goals as goal

pub loop-link-init : goal.loop-link-init
loop-link-init g c = terms_start _ _ _ _ _ _ (items_rows _)

pub returns-in_err-term : goal.returns-in_err-term
returns-in_err-term g c = record { did = exit _ _ _ _ _ c.from_residual.ensures.1 (terms_err c.loop-link.invariant _ c.loop-link-test.true c.link-item.is (link_is _) _ (ends_passes _ _) (goes_level _ _) c.in_err-term.ensures.did) }

pub loop-link-preserved : goal.loop-link-preserved
loop-link-preserved g c = terms_step c.loop-link.invariant _ c.loop-link-test.true c.link-item.is (link_is _) c.in_ok-term.ensures.did

pub returns : goal.returns
returns g c = record { did = terms_end c.loop-link.invariant c.loop-link-test.false }
