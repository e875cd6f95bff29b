use Rattle.std.proofs.Common.{rules, FitsSigned, w64}
use Rattle.std.proofs.lemmas.Int.{to_z-of_z}
use Rattle.run_objects.specs.OfRunState.Views.{state_seen}
use Rattle.run_steps.proofs.PlainLaws.{compared}
use Rattle.run_steps.proofs.plain.plain_truth.Goals as goal

pub returns-in_ok-right-in-Compare : goal.returns-in_ok-right-in-Compare
returns-in_ok-right-in-Compare c = let f : FitsSigned w64 c.in_ok-left-in-Compare.left = search rules in let g : FitsSigned w64 c.in_ok-right-in-Compare.right = search rules in record { given = λ code printed. rw (c.compare.ensures, to_z-of_z w64 c.in_ok-left-in-Compare.left f, to_z-of_z w64 c.in_ok-right-in-Compare.right g) (compared code c.args.room c.args.e.now c.in-Compare.comparison c.in-Compare.left c.in-Compare.right c.in_ok-left-in-Compare.left c.in_ok-right-in-Compare.right (state_seen c.args.s.now printed) c.if-room-eq0.false c.in-Compare.is (rw c.deref.ensures at (c.in_ok-left-in-Compare.ensures.given code printed)) (rw c.deref-in-Compare.ensures at (c.in_ok-right-in-Compare.ensures.given code printed))) }
