use Rattle.comet_meaning.proofs.GoingStatements.{goes_level}
use Rattle.comet_meaning.proofs.Rows.{items_rows, links_start, links_end, links_step, links_err}
use Rattle.run_steps.proofs.Exits.{ends_passes, exit}
use Rattle.run_steps.proofs.Forms.{link_is}
use Rattle.expression_forms.proofs.operators.evaluate_links.Goals as goal

pub loop-link-init : goal.loop-link-init
loop-link-init g c = links_start _ _ _ _ _ _ (items_rows _)

pub returns-in_err-value : goal.returns-in_err-value
returns-in_err-value g c = record { did = exit _ _ _ _ _ c.from_residual.ensures.1 (links_err c.loop-link.invariant _ c.loop-link-test.true c.link-item.is (link_is _) _ (ends_passes _ _) (goes_level _ _) c.in_err-value.ensures.did) }

pub loop-link-preserved : goal.loop-link-preserved
loop-link-preserved g c = links_step c.loop-link.invariant _ c.loop-link-test.true c.link-item.is (link_is _) c.in_ok-value.ensures.did

pub returns : goal.returns
returns g c = record { did = links_end c.loop-link.invariant c.loop-link-test.false }
