use Rattle.run_values.proofs.aggregates.aggregate_value.Goals as goal

pub returns-in-All-clause-did : goal.returns-in-All-clause-did
returns-in-All-clause-did c = λ s. rw c.in-All.is (c.all.ensures.did c.args.at s)
