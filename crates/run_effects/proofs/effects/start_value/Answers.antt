use Rattle.run_effects.proofs.effects.start_value.Goals as goal

pub returns-then-is_array : goal.returns-then-is_array
returns-then-is_array g c = record { did = let printed = (g.O.Outside.told c.args.out.now) in rw (← c.is_array.ensures, c.if-is_array.true) (c.copy_array.ensures.did) }

pub returns-else-is_array : goal.returns-else-is_array
returns-else-is_array g c = record { did = let printed = (g.O.Outside.told c.args.out.now) in rw (← c.is_array.ensures, c.if-is_array.false, ← c.as_kind.ensures) (c.put.ensures.did printed) }
