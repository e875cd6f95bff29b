use Rattle.std.proofs.Common.{rules, FitsSigned, w64}
use Rattle.std.proofs.lemmas.Int.{to_z-of_z}
use Rattle.comet_meaning.specs.Program.{level}
use Rattle.run_objects.specs.OfRunState.Views.{state_seen}
use Rattle.run_steps.specs.Views.{part}
use Rattle.run_steps.proofs.PlainLaws.{literal_value, named_plain, cell_plain, cell_value, chained, chain_start, chain_step}
use Rattle.comet_meaning.proofs.Rows.{links_end}
use Rattle.run_steps.proofs.plain.+plain.Goals as goal

pub number_within-returns-in-Number : goal.number_within-returns-in-Number
number_within-returns-in-Number t c = let f : FitsSigned w64 c.in-Number.number = search rules in record { given = λ code printed. rw (to_z-of_z w64 c.in-Number.number f) (literal_value code c.args.room c.args.e.now c.in-Number.number (state_seen c.args.s.now printed) c.if-room-eq0.false c.in-Number.is) }

pub number_within-returns-in-Name : goal.number_within-returns-in-Name
number_within-returns-in-Name t c = record { given = λ code printed. named_plain code c.args.room c.args.e.now c.in-Name.slot (state_seen c.args.s.now printed) c.plain_number.result c.if-room-eq0.false c.in-Name.is (c.plain_number.ensures printed) }

pub number_inside-returns-in-Chain : goal.number_inside-returns-in-Chain
number_inside-returns-in-Chain t c = record { given = λ code printed. chained code c.args.room c.args.e.now c.in-Chain.first c.in-Chain.links (state_seen c.args.s.now printed) c.chain_within.result c.if-room-eq0.false c.in-Chain.is (rw (c.deref.ensures, c.deref-in-Chain.ensures.value) at (c.chain_within.ensures.given code printed)) }

pub chain_within-loop-link-init : goal.chain_within-loop-link-init
chain_within-loop-link-init t c = let f : FitsSigned w64 c.in_ok-number.number = search rules in λ code printed. rw (to_z-of_z w64 c.in_ok-number.number f) (chain_start (level code c.args.room) (part c.args.first.now) c.args.links.now c.in_ok-number.number (state_seen c.args.s.now printed) (c.in_ok-number.ensures.given code printed))

pub chain_within-loop-link-preserved : goal.chain_within-loop-link-preserved
chain_within-loop-link-preserved t c = let f : FitsSigned w64 c.in_ok-number-2.number = search rules in let g : FitsSigned w64 c.in_ok-next.next = search rules in λ code printed. rw (to_z-of_z w64 c.in_ok-number-2.number f) (chain_step (level code c.args.room) c.args.links.now c.loop-link.link-index _ c.in_ok-next.next c.in_ok-number-2.number (state_seen c.args.s.now printed) _ c.link-item.result (c.loop-link.invariant code printed) c.loop-link-test.true c.link-item.is (c.in_ok-next.ensures.given code printed) (rw (to_z-of_z w64 c.in_ok-next.next g) at (c.in_ok-number-2.ensures)))

pub chain_within-returns : goal.chain_within-returns
chain_within-returns t c = record { given = λ code printed. links_end (c.loop-link.invariant code printed) c.loop-link-test.false }

pub number_inside-returns-in-Index : goal.number_inside-returns-in-Index
number_inside-returns-in-Index t c = record { given = λ code printed. cell_value code c.args.room c.args.e.now c.in-Index.array c.in-Index.index (state_seen c.args.s.now printed) c.cell_within.result c.if-room-eq0.false c.in-Index.is (rw (c.deref-in-Index.ensures, c.deref-in-Index-2.ensures) at (c.cell_within.ensures.given code printed)) }

pub cell_within-returns : goal.cell_within-returns
cell_within-returns t c = let f : FitsSigned w64 c.in_ok-index.index = search rules in record { given = λ code printed. cell_plain (level code c.args.room) c.args.at (part c.args.array.now) (part c.args.index.now) _ _ (state_seen c.args.s.now printed) c.number_in.result (c.in_ok-array.ensures.given code printed) (c.in_ok-index.ensures.given code printed) (rw (to_z-of_z w64 c.in_ok-index.index f) at (c.number_in.ensures.given printed)) }
