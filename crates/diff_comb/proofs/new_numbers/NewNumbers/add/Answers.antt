use Rattle.std.proofs.Common.{get_or, w64, rules}
use Rattle.std.specs.Prelude.{FitsSigned}
use Rattle.std.specs.BTreeMap.{get}
use Rattle.std.specs.Ordering.{nat_cmp}
use Rattle.std.proofs.lemmas.Int.{to_z-of_z}
use Rattle.node_base.proofs.ChangeLemmas.{no_change}
use Rattle.diff_comb.proofs.NewNumberLemmas.{new_numbers_more, written_number}
use Rattle.diff_comb.proofs.new_numbers.NewNumbers.add.Goals as goal

pub returns-in_ok-insert : goal.returns-in_ok-insert
returns-in_ok-insert c =
    let change = get_or c.args.changes.now c.args.count no_change in
    let fits : FitsSigned w64 change.new = search rules in
    new_numbers_more c.args.self.now (record { by_place = c.insert.new.self }) c.args.changes.now c.args.count no_change c.requires.within c.requires.kept
    (λ place x. written_number (get nat_cmp c.args.self.now.by_place place) (get nat_cmp c.insert.new.self place) change.place place change.new x
    ((simp (to_z-of_z w64 change.new fits) at c.in_ok-insert.ensures.updates.0) place))
