use Rattle.run_steps.proofs.short_calls.called_number.Goals as goal

pub returns-in-None : goal.returns-in-None
returns-in-None c = record { given = λ printed. (c.in-None.ensures.given printed).spent }
