use Rattle.std.proofs.Common.{sym, subst}
use Rattle.run_steps.specs.Does.{Does}
use Rattle.term_forms.proofs.ChainLaws.{links_none, links_or, links_and, links_joined}
use Rattle.term_forms.proofs.operators.links_term.Goals as goal

pub returns-in-None : goal.returns-in-None
returns-in-None g c = record { did = subst (Does _ _ _) (sym (links_none _ _ _ _ (rw c.in-None.is at c.first.ensures.value))) c.joined_term.ensures.did }

pub returns-in-Or : goal.returns-in-Or
returns-in-Or g c = record { did = subst (Does _ _ _) (sym (links_or _ _ _ _ _ (rw c.in-Some.is at c.first.ensures.value) c.in-Or.is)) c.junction_term.ensures.did }

pub returns-in-And : goal.returns-in-And
returns-in-And g c = record { did = subst (Does _ _ _) (sym (links_and _ _ _ _ _ (rw c.in-Some.is at c.first.ensures.value) c.in-And.is)) c.junction_term-in-And.ensures.did }

pub returns-in_default : goal.returns-in_default
returns-in_default g c = record { did = subst (Does _ _ _) (sym (links_joined _ _ _ _ _ (rw c.in-Some.is at c.first.ensures.value) c.in_default.not-Or c.in_default.not-And)) c.joined_term-in_default.ensures.did }
