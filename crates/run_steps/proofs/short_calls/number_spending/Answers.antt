use Rattle.run_objects.specs.OfRunState.Views.{state_seen}
use Rattle.run_steps.specs.Views.{code_seen}
use Rattle.run_steps.proofs.ShortLaws.{spending_call, spending_chain}
use Rattle.run_steps.proofs.short_calls.number_spending.Goals as goal

pub returns-in-Call : goal.returns-in-Call
returns-in-Call c = record { given = λ printed. spending_call (code_seen c.args.code.now) c.args.room c.args.e.now c.in-Call.function c.in-Call.arguments (state_seen c.args.s.now printed) (state_seen c.call_spending.new.s printed) c.call_spending.result c.if-room-eq0.false c.in-Call.is (rw c.deref.ensures.value at (c.call_spending.ensures.given c.args.e.now.place printed)) }

pub returns-in-Chain : goal.returns-in-Chain
returns-in-Chain c = record { given = λ printed. spending_chain (code_seen c.args.code.now) c.args.room c.args.e.now c.in-Chain.first c.in-Chain.links (state_seen c.args.s.now printed) (state_seen c.chain_spending.new.s printed) c.chain_spending.result c.if-room-eq0.false c.in-Chain.is (rw (c.deref-in-Chain.ensures, c.deref-in-Chain-2.ensures.value) at (c.chain_spending.ensures.given printed)) }
