use Rattle.std.proofs.Common.{map}
use Rattle.run_values.specs.Views.{value_seen}
use Rattle.run_steps.proofs.Exits.{exit}
use Rattle.run_steps.specs.OfRunState.Views.{state_seen}
use Rattle.run_steps.proofs.Forms.{body_went, body_ends}
use Rattle.comet_meaning.specs.Program.{level}
use Rattle.checked_tree.specs.Tasks.{function_of}
use Rattle.expression_forms.proofs.calls.execute_body.Goals as goal

pub returns-in_err-flow : goal.returns-in_err-flow
returns-in_err-flow g c = record { did = exit _ _ _ _ _ c.from_residual.ensures.1 (body_ends (level (g.W.Within.code c.args.inside.now) (g.W.Within.depth c.args.inside.now)) (function_of c.args.callee.now) (map value_seen c.args.arguments.items) (state_seen c.args.s.now (g.O.Outside.told c.args.out.now)) _ _ (rw c.replace-frame.ensures.after at c.in_err-flow.ensures.did)) }

pub returns : goal.returns
returns g c = record { did = rw (c.replace-frame.ensures.value, c.given.ensures) (body_went (level (g.W.Within.code c.args.inside.now) (g.W.Within.depth c.args.inside.now)) (function_of c.args.callee.now) (map value_seen c.args.arguments.items) (state_seen c.args.s.now (g.O.Outside.told c.args.out.now)) (rw c.replace-frame.ensures.after at c.in_ok-flow.ensures.did)) }
