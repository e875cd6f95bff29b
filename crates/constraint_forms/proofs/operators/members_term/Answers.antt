use Rattle.constraint_forms.proofs.operators.members_term.Goals as goal

pub returns : goal.returns
returns g c = record { did = c.combine.ensures.did _ _ c.members_of-members.ensures.did }
