use Rattle.std.proofs.Common.{◌≡◌, sym, subst, arith, length}
use Rattle.run_steps.specs.Does.{Does}
use Rattle.term_forms.proofs.BodyLaws.{extreme_none, extreme_some}
use Rattle.term_forms.proofs.bodies.extreme_of.Goals as goal

pub returns-then-count-eq0 : goal.returns-then-count-eq0
returns-then-count-eq0 c = record { did = λ s. extreme_none _ _ _ s (omega (arith, c.if-count-eq0.true, c.len-count.ensures, c.args.bodies.ok.0)) }

pub returns : goal.returns
returns c = record { did = λ s. subst (Does _ _ s) (sym (extreme_some _ _ _ s (λ none. c.if-count-eq0.false (omega (arith, none, c.len-count.ensures, c.args.bodies.ok.0))))) (c.operation_of.ensures.did s) }
