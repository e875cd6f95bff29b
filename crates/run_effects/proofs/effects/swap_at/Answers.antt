use Rattle.run_effects.proofs.effects.swap_at.Goals as goal

pub returns-in-Moved : goal.returns-in-Moved
returns-in-Moved g c = record { did = let printed = (g.O.Outside.told c.args.out.now) in rw c.in-Moved.is (c.swap_with.ensures.did); printed = c.swap_with.ensures.printed }
