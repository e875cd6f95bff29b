use Rattle.std.proofs.Common.{rules, ◌≡◌, if◌then◌else◌, ap, ◌∙◌, arith, w64, to_z, of_z}
use Rattle.std.specs.Prelude.{FitsSigned}
use Rattle.std.specs.Ordering.{int_eq}
use Rattle.std.proofs.lemmas.Int.{to_z-of_z}
use Rattle.cbl_base.specs.Counts.{count_of}
use Rattle.node_base.proofs.TallyLemmas.{old_elsewhere, count_before}
use Rattle.node_base.proofs.tally.Tally.elsewhere.Goals as goal
use Rattle.node_base.proofs.tally.Tally.elsewhere.Goals.{After-one_if_same, After-times-old}

old_times : (c : After-times-old) → c.times-old.result ≡ count_of c.args.change.old c.args.self.now
old_times c =
    let fits : FitsSigned w64 c.args.change.old = search rules in
    c.times-old.ensures ∙ ap (λ v. count_of v c.args.self.now) (to_z-of_z w64 c.args.change.old fits)

new_times : (c : After-one_if_same) → c.times.result ≡ count_of c.args.change.new c.args.self.now
new_times c =
    let fits : FitsSigned w64 c.args.change.new = search rules in
    c.times.ensures ∙ ap (λ v. count_of v c.args.self.now) (to_z-of_z w64 c.args.change.new fits)

same_times : (c : After-one_if_same) → c.one_if_same.result ≡ (if int_eq c.args.change.old c.args.change.new then 1 else 0)
same_times c =
    let fits : FitsSigned w64 c.args.change.old = search rules in
    let fits' : FitsSigned w64 c.args.change.new = search rules in
    c.one_if_same.ensures
    ∙ ap (λ v. if int_eq v (to_z w64 (of_z w64 c.args.change.new)) then 1 else 0) (to_z-of_z w64 c.args.change.old fits)
    ∙ ap (λ v. if int_eq c.args.change.old v then 1 else 0) (to_z-of_z w64 c.args.change.new fits')

pub overflow_sub-old : goal.overflow_sub-old
overflow_sub-old c = omega (arith, old_times c, old_elsewhere c.args.self.now c.args.change c.requires)

pub overflow_sub-new : goal.overflow_sub-new
overflow_sub-new c = omega (arith, new_times c, same_times c, count_before c.args.self.now c.args.change c.requires c.args.change.new)

pub returns : goal.returns
returns c = record {
  old = omega (arith, old_times (goal.at.returns c).After-times-old, old_elsewhere c.args.self.now c.args.change c.requires);
  new = omega (arith, new_times c, same_times c, count_before c.args.self.now c.args.change c.requires c.args.change.new);
}
