use Rattle.std.proofs.Common.{◌<◌, set, ap, sym, ◌∙◌, subst}
use Rattle.std.specs.Int.{w128}
use Rattle.std.proofs.lemmas.Int.{to_z-of_z}
use Rattle.diff_load_seq.specs.Parts.{IsSumOf, HasRoom}
use Rattle.diff_load_seq.specs.Levels.{excesses, raised}
use Rattle.diff_load_seq.specs.LevelsOver.{shown}
use Rattle.diff_load_seq.proofs.LevelLemmas.{room_at, levels_replaced}
use Rattle.diff_load_seq.proofs.OverLemmas.{one_kept, length_shown, shown_read}
use Rattle.diff_load_seq.proofs.levels_over.LevelsOver.raise.Goals as goal

pub replaced-self-requires : goal.replaced-self-requires
replaced-self-requires c =
    let levels = c.args.levels.now.each.items in
    let over = c.args.self.now in
    subst (HasRoom c.args.self.now.excess) (sym c.excess.ensures)
    (room_at over.excess (shown levels over) c.args.place c.level-old.result c.requires.kept (subst (λ n. c.args.place < n) (sym (length_shown levels over)) c.requires.within)
    (shown_read levels over c.args.place c.level-old.result c.requires.within c.level-old.ensures))

pub returns-clause-shown : goal.returns-clause-shown
returns-clause-shown c =
    let levels = c.args.levels.now.each.items in
    let over = c.args.self.now in
    one_kept levels over (record { raised = c.insert.new.self; excess = c.replaced-self.result }) c.args.place c.raised-new.result c.requires.within c.in_ok-insert.ensures.updates.1 c.in_ok-insert.ensures.updates.2
    ∙ ap (set (shown c.args.levels.now.each.items c.args.self.now) c.args.place) c.raised-new.ensures
    ∙ ap (λ by. set (shown c.args.levels.now.each.items c.args.self.now) c.args.place (raised by c.level-old.result)) (to_z-of_z w128 c.args.by c.ranges.by)
    ∙ ap (λ level. set (shown c.args.levels.now.each.items c.args.self.now) c.args.place (raised c.args.by level)) c.level-old.ensures

pub returns-clause-kept : goal.returns-clause-kept
returns-clause-kept c =
    let levels = c.args.levels.now.each.items in
    let over = c.args.self.now in
    subst (λ ls. IsSumOf c.replaced-self.result (excesses ls))
    (sym (one_kept levels over (record { raised = c.insert.new.self; excess = c.replaced-self.result }) c.args.place c.raised-new.result c.requires.within c.in_ok-insert.ensures.updates.1 c.in_ok-insert.ensures.updates.2))
    (levels_replaced over.excess c.replaced-self.result (shown levels over) c.args.place c.level-old.result c.raised-new.result c.requires.kept
    (subst (λ n. c.args.place < n) (sym (length_shown levels over)) c.requires.within)
    (shown_read levels over c.args.place c.level-old.result c.requires.within c.level-old.ensures)
    (rw (← c.excess.ensures, ← c.excess-2.ensures) c.replaced-self.ensures))
