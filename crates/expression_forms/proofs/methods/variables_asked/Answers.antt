use Rattle.expression_forms.proofs.MethodLaws.{none_asked}
use Rattle.expression_forms.proofs.methods.variables_asked.Goals as goal

pub returns-in_default : goal.returns-in_default
returns-in_default c = none_asked _ c.in_default.not-Violations c.in_default.not-SystemAssignDelta c.in_default.not-SystemSwapDelta c.in_default.not-ObjectiveAssignDelta c.in_default.not-ObjectiveSwapDelta
