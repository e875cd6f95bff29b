use Rattle.std.proofs.Common.{◌∙◌}
use Rattle.layer_plan.proofs.Lists.{last_of, empty_of}
use Rattle.std.proofs.lemmas.Result.{err_from_is_err_and}
use Rattle.layer_plan.proofs.components.Components.visit.Goals as goal

pub returns-in_err-begin-clause-sound : goal.returns-in_err-begin-clause-sound
returns-in_err-begin-clause-sound c = rw (err_from_is_err_and c.from_residual.result c.from_residual.ensures.1).1 tt

pub returns-in_err-begin-clause-empty : goal.returns-in_err-begin-clause-empty
returns-in_err-begin-clause-empty c = rw (err_from_is_err_and c.from_residual.result c.from_residual.ensures.1).1 tt

pub returns-in_err-begin-clause-touched : goal.returns-in_err-begin-clause-touched
returns-in_err-begin-clause-touched c = rw (err_from_is_err_and c.from_residual.result c.from_residual.ensures.1).1 tt

pub returns-in_err-begin-clause-root : goal.returns-in_err-begin-clause-root
returns-in_err-begin-clause-root c = rw (err_from_is_err_and c.from_residual.result c.from_residual.ensures.1).1 tt

pub loop-start-init : goal.loop-start-init
loop-start-init c = (c.in_ok-begin.ensures.sound, c.in_ok-begin.ensures.touched, c.in_ok-begin.ensures.root)

pub step-requires-clause-items : goal.step-requires-clause-items
step-requires-clause-items c = c.requires.items

pub step-requires-clause-sound : goal.step-requires-clause-sound
step-requires-clause-sound c = c.loop-start.invariant.0

pub loop-start-preserved : goal.loop-start-preserved
loop-start-preserved c =
    let touched = c.in_ok-step.ensures.touched in (
      c.in_ok-step.ensures.sound,
      λ v old. touched v (c.loop-start.invariant.1 v old),
      touched c.args.root c.loop-start.invariant.2,
    )

pub loop-start-smaller : goal.loop-start-smaller
loop-start-smaller c = c.in_ok-step.ensures.work

pub returns-in_err-step-clause-sound : goal.returns-in_err-step-clause-sound
returns-in_err-step-clause-sound c = rw (err_from_is_err_and c.from_residual-in_err-step.result c.from_residual-in_err-step.ensures.1).1 tt

pub returns-in_err-step-clause-empty : goal.returns-in_err-step-clause-empty
returns-in_err-step-clause-empty c = rw (err_from_is_err_and c.from_residual-in_err-step.result c.from_residual-in_err-step.ensures.1).1 tt

pub returns-in_err-step-clause-touched : goal.returns-in_err-step-clause-touched
returns-in_err-step-clause-touched c = rw (err_from_is_err_and c.from_residual-in_err-step.result c.from_residual-in_err-step.ensures.1).1 tt

pub returns-in_err-step-clause-root : goal.returns-in_err-step-clause-root
returns-in_err-step-clause-root c = rw (err_from_is_err_and c.from_residual-in_err-step.result c.from_residual-in_err-step.ensures.1).1 tt

pub returns-clause-sound : goal.returns-clause-sound
returns-clause-sound c = c.loop-start.invariant.0

pub returns-clause-touched : goal.returns-clause-touched
returns-clause-touched c = c.loop-start.invariant.1

pub returns-clause-root : goal.returns-clause-root
returns-clause-root c = c.loop-start.invariant.2

pub begin-requires-clause-sound : goal.begin-requires-clause-sound
begin-requires-clause-sound c = c.requires.sound

pub begin-requires-clause-empty : goal.begin-requires-clause-empty
begin-requires-clause-empty c = c.requires.empty

pub step-requires-clause-start : goal.step-requires-clause-start
step-requires-clause-start c = last_of c.loop-start.self.starts.items c.deref.result.now c.copied.result c.in-Some.start (c.copied.ensures ∙ c.last.ensures.value) c.deref.ensures.value c.in-Some.is

pub returns-clause-empty : goal.returns-clause-empty
returns-clause-empty c = empty_of c.loop-start.self.starts.items c.deref.result.now c.copied.result (c.copied.ensures ∙ c.last.ensures.value) c.deref.ensures.value c.in_default.is
