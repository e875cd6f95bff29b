use Rattle.std.proofs.Common.{sym, subst}
use Rattle.run_steps.specs.Does.{Does}
use Rattle.term_forms.proofs.BodyLaws.{least_as, greatest_as}
use Rattle.term_forms.proofs.bodies.aggregated.Goals as goal

pub returns-in-Sum : goal.returns-in-Sum
returns-in-Sum c = record { did = λ s. rw c.in-Sum.is (c.operation_of.ensures.did s) }

pub returns-in-Min : goal.returns-in-Min
returns-in-Min c = record { did = λ s. rw c.in-Min.is (subst (Does _ _ s) (sym (least_as _ _ s)) (c.extreme_of.ensures.did s)) }

pub returns-in-Max : goal.returns-in-Max
returns-in-Max c = record { did = λ s. rw c.in-Max.is (subst (Does _ _ s) (sym (greatest_as _ _ s)) (c.extreme_of-in-Max.ensures.did s)) }

pub returns-in-All : goal.returns-in-All
returns-in-All c = record { did = λ s. rw c.in-All.is (c.all_of.ensures.did s) }

pub returns-in-And : goal.returns-in-And
returns-in-And c = record { did = λ s. rw c.in-And.is (c.operation_of-in-And.ensures.did s) }

pub returns-in-Or : goal.returns-in-Or
returns-in-Or c = record { did = λ s. rw c.in-Or.is (c.operation_of-in-Or.ensures.did s) }

pub returns-in-SetOf : goal.returns-in-SetOf
returns-in-SetOf c = record { did = λ s. rw c.in-SetOf.is (c.keyed_of.ensures.did s) }

pub returns-in-ArgMin : goal.returns-in-ArgMin
returns-in-ArgMin c = record { did = λ s. rw c.in-ArgMin.is (c.keyed_of-in-ArgMin.ensures.did s) }

pub returns-in-ArgMax : goal.returns-in-ArgMax
returns-in-ArgMax c = record { did = λ s. rw c.in-ArgMax.is (c.keyed_of-in-ArgMax.ensures.did s) }
