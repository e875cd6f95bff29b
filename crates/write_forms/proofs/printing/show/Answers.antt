use Rattle.comet_meaning.specs.Printing.{shown_form}
use Rattle.run_steps.proofs.Steps.{prints}
use Rattle.run_steps.specs.OfRunState.Views.{state_seen}
use Rattle.write_forms.proofs.printing.show.Goals as goal

pub returns-in-Value : goal.returns-in-Value
unfolding shown_form
returns-in-Value g c = record { did = rw c.in-Value.is (c.show_part.ensures.did _ c.value_of-value.ensures.did) }

pub returns-in-Text : goal.returns-in-Text
unfolding shown_form
returns-in-Text g c = record { did = rw (c.in-Text.is, ← c.as_slice.ensures) (prints _ _ _ _ (c.print.ensures.did (state_seen c.args.s.now (g.O.Outside.told c.args.out.now))) c.print.ensures.front) }

pub returns-in-EndLine : goal.returns-in-EndLine
unfolding shown_form
returns-in-EndLine g c = record { did = rw c.in-EndLine.is (prints _ _ _ _ (c.print-in-EndLine.ensures.did (state_seen c.args.s.now (g.O.Outside.told c.args.out.now))) c.print-in-EndLine.ensures.front) }
