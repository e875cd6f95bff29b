use Rattle.std.proofs.Common.{sym, map}
use Rattle.checked_tree.specs.Shape.{seen}
use Rattle.checked_tree.specs.Tasks.{function_of}
use Rattle.run_objects.specs.OfRunState.Views.{state_seen}
use Rattle.run_values.specs.Views.{value_seen}
use Rattle.run_steps.specs.Views.{code_seen, row}
use Rattle.run_steps.proofs.ShortLaws.{short_call}
use Rattle.run_steps.proofs.short_calls.call_spending.Goals as goal

pub returns : goal.returns
returns c = record { given = λ at printed. rw c.replace-frame.ensures.value (short_call (code_seen c.args.code.now) c.args.room c.args.function (function_of c.in_ok-callee.callee.now) at (seen c.in_ok-value.value.now) (row c.args.arguments.now) (map value_seen c.in_ok-values.values.items) (state_seen c.args.s.now printed) c.number_itself-number.result c.if-room-lt2.false c.if-s-lt-CALL_FUEL.false (sym c.in_ok-callee.ensures) c.in_ok-value.ensures.given (c.in_ok-values.ensures.given (code_seen c.args.code.now) printed).plain (rw c.deref.ensures.value at ((c.in_ok-values.ensures.given (code_seen c.args.code.now) printed).gives)) (rw c.replace-frame.ensures.after at (c.number_itself-number.ensures.given (code_seen c.args.code.now) printed))) }
