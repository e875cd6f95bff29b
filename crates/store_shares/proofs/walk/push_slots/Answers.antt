use Rattle.std.proofs.Common.{map, take, ap}
use Rattle.std.proofs.lemmas.List.{take_all}
use Rattle.term_model.specs.Definitions.{vars_of}
use Rattle.store_shares.proofs.WalkLaws.{walked_is, walked_none, walked_slots}
use Rattle.store_shares.proofs.walk.push_slots.Goals as goal

pub loop-argument-init : goal.loop-argument-init
loop-argument-init c = walked_none c.args.walk.now

pub loop-argument-preserved : goal.loop-argument-preserved
loop-argument-preserved c =
    walked_slots c.args.walk.now c.loop-argument.walk c.push_slot.new.walk c.args.arguments.now c.loop-argument.argument-index c.argument-item.result c.loop-argument-test.true c.argument-item.is
    c.loop-argument.invariant c.in_ok-push_slot.ensures

pub returns : goal.returns
returns c =
    walked_is c.args.walk.now c.loop-argument.walk (map vars_of (take c.loop-argument.argument-index c.args.arguments.now)) (map vars_of c.args.arguments.now)
    (ap (map vars_of) (take_all c.loop-argument.argument-index c.args.arguments.now c.loop-argument-test.false)) c.loop-argument.invariant
