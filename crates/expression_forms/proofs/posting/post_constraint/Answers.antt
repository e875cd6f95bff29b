use Rattle.std.proofs.Common.{sym, subst, ap}
use Rattle.comet_meaning.specs.Program.{level}
use Rattle.comet_meaning.specs.Posting.{post_constraint}
use Rattle.run_steps.specs.OfRunState.Views.{state_seen}
use Rattle.run_steps.specs.Does.{Does}
use Rattle.run_steps.specs.Views.{part}
use Rattle.expression_forms.proofs.PostLaws.{no_constraint, row_split}
use Rattle.expression_forms.proofs.posting.post_constraint.Goals as goal

pub returns-then-arguments-eq0 : goal.returns-then-arguments-eq0
returns-then-arguments-eq0 g c = record { did = no_constraint _ _ _ _ _ c.if-arguments-eq0.true }

pub returns : goal.returns
returns g c = record { did = subst (Does _ _ _) (sym (ap (λ es. post_constraint (level (g.W.Within.code c.args.inside.now) (g.W.Within.depth c.args.inside.now)) c.args.at (part c.args.object.now) es (state_seen c.args.s.now (g.O.Outside.told c.args.out.now))) (row_split _ _ c.if-arguments-eq0.false c.index-arguments-0.is))) c.add_constraint.ensures.did }
