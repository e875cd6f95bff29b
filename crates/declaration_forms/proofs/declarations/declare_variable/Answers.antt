use Rattle.std.proofs.Common.{sym, subst, arith}
use Rattle.comet_meaning.specs.Program.{level}
use Rattle.run_steps.specs.OfRunState.Views.{state_seen}
use Rattle.run_steps.specs.Does.{Does}
use Rattle.run_effects.proofs.VariableLaws.{variable_single, variable_several}
use Rattle.declaration_forms.proofs.declarations.declare_variable.Goals as goal

pub returns-then-count-eq0 : goal.returns-then-count-eq0
returns-then-count-eq0 g c = record { did = subst (Does _ _ _) (sym (variable_single (level (g.W.Within.code c.args.inside.now) (g.W.Within.depth c.args.inside.now)) c.args.at c.args.variable.now (state_seen c.args.s.now (g.O.Outside.told c.args.out.now)) (omega (arith, c.if-count-eq0.true, c.len-count.ensures, c.args.variable.now.dimensions.ok.0)))) c.declare_single.ensures.did }

pub returns-else-count-eq0 : goal.returns-else-count-eq0
returns-else-count-eq0 g c = record { did = subst (Does _ _ _) (sym (variable_several (level (g.W.Within.code c.args.inside.now) (g.W.Within.depth c.args.inside.now)) c.args.at c.args.variable.now (state_seen c.args.s.now (g.O.Outside.told c.args.out.now)) (λ none. c.if-count-eq0.false (omega (arith, none, c.len-count.ensures, c.args.variable.now.dimensions.ok.0))))) c.declare_variables.ensures.did }
