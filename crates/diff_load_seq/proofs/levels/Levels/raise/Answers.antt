use Rattle.std.proofs.Common.{sym, subst}
use Rattle.diff_load_seq.specs.Parts.{HasRoom}
use Rattle.diff_load_seq.proofs.LevelLemmas.{room_at, levels_replaced}
use Rattle.diff_load_seq.proofs.levels.Levels.raise.Goals as goal

pub replaced-self-requires : goal.replaced-self-requires
replaced-self-requires c =
    subst (HasRoom c.args.self.now.excess) (sym c.excess.ensures)
    (room_at c.args.self.now.excess c.args.self.now.each.items c.args.place c.index-old.result.now c.requires.kept c.requires.within c.index-old.ensures)

pub returns-clause-kept : goal.returns-clause-kept
returns-clause-kept c =
    levels_replaced c.args.self.now.excess c.replaced-self.result c.args.self.now.each.items c.args.place c.index-old.result.now c.raised-new.result c.requires.kept c.requires.within c.index-old.ensures
    (rw (← c.excess.ensures, ← c.excess-2.ensures) c.replaced-self.ensures)
