use Rattle.form_parts.proofs.values.value_of.Goals as goal

pub returns-in-Some : goal.returns-in-Some
returns-in-Some g c = record { did = rw c.room.ensures at (c.in-Some.ensures.given (g.W.Within.code c.args.inside.now) (g.O.Outside.told c.args.out.now)) }
