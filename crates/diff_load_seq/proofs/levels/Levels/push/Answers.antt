use Rattle.std.proofs.Common.{arith, length, ap, length-append, ◌<◌, ◌+◌, ◌^◌, ◌∷◌, [], rules}
use Rattle.diff_load_seq.specs.Levels.{excesses}
use Rattle.diff_load_seq.proofs.PartLemmas.{has_room_more}
use Rattle.diff_load_seq.proofs.LevelLemmas.{levels_pushed}
use Rattle.diff_load_seq.proofs.levels.Levels.push.Goals as goal

pub replaced-self-requires : goal.replaced-self-requires
replaced-self-requires c = has_room_more c.args.self.now.excess (excesses c.args.self.now.each.items) c.requires

pub returns-clause-kept : goal.returns-clause-kept
returns-clause-kept c =
    let small : length c.push.new.self.items < 2 ^ 63 = search rules in
    let few : length c.args.self.now.each.items + 1 < 2 ^ 63 = omega (arith, small, ap length c.in_ok-push.ensures.items, length-append c.args.self.now.each.items (c.args.level ∷ [])) in
    rw (c.in_ok-push.ensures.items)
    (levels_pushed c.args.self.now.excess c.replaced-self.result c.args.self.now.each.items c.args.level c.requires few
    (rw (← c.excess.ensures) c.replaced-self.ensures))
