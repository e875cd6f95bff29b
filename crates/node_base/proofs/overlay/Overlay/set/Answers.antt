use Rattle.std.proofs.Common.{◌≡◌, ◌+◌, ◌-◌, w64, rules, arith, rules}
use Rattle.std.specs.Prelude.{FitsSigned}
use Rattle.std.proofs.lemmas.Int.{to_z-of_z}
use Rattle.node_base.specs.Counting.{count_over, IsWritten}
use Rattle.node_base.proofs.TallyLemmas.{no_more, shows_change}
use Rattle.node_base.proofs.overlay.Overlay.set.Goals as goal
use Rattle.node_base.proofs.overlay.Overlay.set.Goals.{After-times-old, In_ok-write, After-times-new}

old_is : (c : After-times-old) → c.times-old.result ≡ count_over c.args.tally.now c.args.self.now c.args.change.old
old_is c =
    let fits : FitsSigned w64 c.args.change.old = search rules in
    simp (to_z-of_z w64 c.args.change.old fits) at c.times-old.ensures

new_is : (c : After-times-new) → c.times-new.result ≡ count_over c.args.tally.now c.write.new.self c.args.change.new
new_is c =
    let fits : FitsSigned w64 c.args.change.new = search rules in
    simp (to_z-of_z w64 c.args.change.new fits) at c.times-new.ensures

down : (c : In_ok-write) → IsWritten c.args.self.now c.write.new.self c.args.change.old (count_over c.args.tally.now c.args.self.now c.args.change.old - 1)
down c =
    let fits : FitsSigned w64 c.args.change.old = search rules in
    rw (← old_is (goal.at.In_ok-write c).After-times-old) (simp (to_z-of_z w64 c.args.change.old fits) at c.in_ok-write.ensures)

pub overflow_add-new : goal.overflow_add-new
overflow_add-new c =
    let new = new_is (goal.at.overflow_add-new c).After-times-new in
    let few = no_more c.args.tally.now c.args.self.now c.write.new.self c.write.new.self c.args.change (down (goal.at.overflow_add-new c).In_ok-write) c.args.change.new in
    record { fits = omega (arith, new, few, c.requires.room) }

pub returns : goal.returns
returns c =
    let fits : FitsSigned w64 c.args.change.new = search rules in
    let old = old_is (goal.at.returns c).After-times-old in
    let new = new_is (goal.at.returns c).After-times-new in
    let up : IsWritten c.write.new.self c.write-2.new.self c.args.change.new (count_over c.args.tally.now c.write.new.self c.args.change.new + 1)
    = rw (← new) (simp (to_z-of_z w64 c.args.change.new fits) at c.in_ok-write-2.ensures) in
    rw (old, new) (shows_change c.args.tally.now c.args.self.now c.write.new.self c.write-2.new.self c.args.change (down (goal.at.returns c).In_ok-write) up)
