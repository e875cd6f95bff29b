use Rattle.std.proofs.Common.{rules, FitsSigned, w64}
use Rattle.std.proofs.lemmas.Int.{to_z-of_z}
use Rattle.comet_meaning.specs.Program.{level}
use Rattle.comet_meaning.proofs.Rows.{links_end}
use Rattle.run_objects.specs.OfRunState.Views.{state_seen}
use Rattle.run_steps.specs.Views.{code_seen, part}
use Rattle.run_steps.proofs.ShortLaws.{spending_lost, spending_start, spending_step, spent_more}
use Rattle.run_steps.proofs.short_calls.chain_spending.Goals as goal

pub returns-in_err-number : goal.returns-in_err-number
returns-in_err-number c = record { given = λ printed. spending_lost _ _ _ _ c.from_residual.ensures (c.in_err-number.ensures.given printed).spent }

pub loop-link-init : goal.loop-link-init
loop-link-init c = let f : FitsSigned w64 c.in_ok-number.number = search rules in λ printed. rw (to_z-of_z w64 c.in_ok-number.number f) (spending_start (level (code_seen c.args.code.now) c.args.room) (part c.args.first.now) c.args.links.now c.in_ok-number.number (state_seen c.args.s.now printed) (state_seen c.operand_spending.new.s printed) (c.in_ok-number.ensures.given printed))

pub returns-in_err-next : goal.returns-in_err-next
returns-in_err-next c = record { given = λ printed. spending_lost _ _ _ _ c.from_residual-in_err-next.ensures (spent_more (state_seen c.args.s.now printed) (state_seen c.loop-link.s printed) (state_seen c.operand_spending-in-loop-link.new.s printed) (c.loop-link.invariant printed).spent (c.in_err-next.ensures.given printed).spent) }

pub returns-in_err-number-2 : goal.returns-in_err-number-2
returns-in_err-number-2 c = record { given = λ printed. spending_lost _ _ _ _ c.from_residual-in_err-number-2.ensures (spent_more (state_seen c.args.s.now printed) (state_seen c.loop-link.s printed) (state_seen c.operand_spending-in-loop-link.new.s printed) (c.loop-link.invariant printed).spent (c.in_ok-next.ensures.given printed).spent) }

pub loop-link-preserved : goal.loop-link-preserved
loop-link-preserved c = let f : FitsSigned w64 c.in_ok-number-2.number = search rules in let g : FitsSigned w64 c.in_ok-next.next = search rules in λ printed. rw (to_z-of_z w64 c.in_ok-number-2.number f) (spending_step (level (code_seen c.args.code.now) c.args.room) c.args.links.now c.loop-link.link-index _ c.in_ok-next.next c.in_ok-number-2.number (state_seen c.args.s.now printed) (state_seen c.loop-link.s printed) (state_seen c.operand_spending-in-loop-link.new.s printed) _ c.link-item.result (c.loop-link.invariant printed) c.loop-link-test.true c.link-item.is (c.in_ok-next.ensures.given printed) (rw (to_z-of_z w64 c.in_ok-next.next g) at (c.in_ok-number-2.ensures)))

pub returns : goal.returns
returns c = record { given = λ printed. record { spent = (c.loop-link.invariant printed).spent; gives = links_end (c.loop-link.invariant printed).left c.loop-link-test.false } }
