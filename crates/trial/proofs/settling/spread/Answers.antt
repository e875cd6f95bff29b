use Rattle.std.proofs.Common.{ℕ, List, OnOk, subst}
use Rattle.store_turns.specs.Cones.{has, chosen}
use Rattle.store_turns.specs.Waits.{waits}
use Rattle.store_turns.specs.Telling.{IsTold, layer_in}
use Rattle.trial.proofs.settling.spread.Goals as goal

pub returns-in-Value-clause-told : goal.returns-in-Value-clause-told
returns-in-Value-clause-told g c =
    subst (λ (ls : List ℕ). OnOk c.tell.result (IsTold (layer_in ls) (chosen (has c.args.members.now) c.args.uses.now) c.args.old.now c.args.outcome.now (waits c.args.overlay.now.waiting) (waits c.tell.new.waiting))) c.deref.ensures.value c.tell.ensures.told
