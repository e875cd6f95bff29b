use Rattle.comet_meaning.proofs.GoingConstraints.{goes_members}
use Rattle.comet_meaning.proofs.GoingStatements.{goes_level}
use Rattle.comet_meaning.proofs.Rows.{items_rows}
use Rattle.run_steps.proofs.Exits.{ends_passes, exit, memory_exit}
use Rattle.run_steps.proofs.Forms.{link_is}
use Rattle.constraint_forms.proofs.MemberRows.{members_start, members_end, members_onward, members_step, members_err}
use Rattle.constraint_forms.proofs.operators.members_of.Goals as goal

pub returns-in_err-push : goal.returns-in_err-push
returns-in_err-push g c = record { did = memory_exit _ _ _ _ c.from_residual.ensures.1 ((goes_members _ (goes_level _ _) _ _).from _).printed }

pub loop-link-init : goal.loop-link-init
loop-link-init g c = rw (c.in_ok-push.ensures.items, c.new-terms.ensures.items) (members_start _ _ _ _ _ _ (items_rows _))

pub returns-in_err-term : goal.returns-in_err-term
returns-in_err-term g c = record { did = exit _ _ _ _ _ c.from_residual-in_err-term.ensures.1 (members_err c.loop-link.invariant _ c.loop-link-test.true c.link-item.is (link_is _) _ (ends_passes _ _) (goes_level _ _) c.in_err-term.ensures.did) }

pub returns-in_err-push-2 : goal.returns-in_err-push-2
returns-in_err-push-2 g c = record { did = memory_exit _ _ _ _ c.from_residual-in_err-push-2.ensures.1 (members_onward (members_step c.loop-link.invariant _ c.loop-link-test.true c.link-item.is (link_is _) c.in_ok-term.ensures.did) (goes_level _ _)).printed }

pub loop-link-preserved : goal.loop-link-preserved
loop-link-preserved g c = rw c.in_ok-push-2.ensures.items (members_step c.loop-link.invariant _ c.loop-link-test.true c.link-item.is (link_is _) c.in_ok-term.ensures.did)

pub returns : goal.returns
returns g c = record { did = members_end c.loop-link.invariant c.loop-link-test.false }
