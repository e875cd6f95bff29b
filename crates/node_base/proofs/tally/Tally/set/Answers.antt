use Rattle.std.proofs.Common.{◌≡◌, ◌-◌, w64, rules, ap, ◌∙◌, arith, subst}
use Rattle.std.specs.Prelude.{FitsSigned}
use Rattle.std.proofs.lemmas.Int.{to_z-of_z}
use Rattle.cbl_base.specs.Counts.{count_of}
use Rattle.node_base.specs.NumberChanges.{IsNumberChange, after_number_change}
use Rattle.node_base.specs.Counting.{IsElsewhere}
use Rattle.node_base.specs.KeptCounts.{times_in, AreCountsOf}
use Rattle.node_base.proofs.ChangeLemmas.{number_within}
use Rattle.node_base.proofs.TallyLemmas.{old_elsewhere, new_elsewhere, old_stands, old_kept, counts_changed}
use Rattle.node_base.proofs.tally.Tally.set.Goals as goal
use Rattle.node_base.proofs.tally.Tally.set.Goals.{After-times-old, In_ok-add, After-times-new}

-- it is a change of the numbers inside
inside : (c : After-times-old) → IsNumberChange c.self.inside.numbers.items c.args.change
inside c = rw c.self.view_is c.requires

times_before : (c : After-times-old) → c.times-old.result ≡ count_of c.args.change.old c.self.inside.numbers.items
times_before c =
    let fits : FitsSigned w64 c.args.change.old = search rules in
    c.times-old.ensures ∙ ap (times_in c.self.inside.counts) (to_z-of_z w64 c.args.change.old fits) ∙ c.self.invariant c.args.change.old

pub overflow_sub-old : goal.overflow_sub-old
overflow_sub-old c =
    let before = times_before (goal.at.overflow_sub-old c).After-times-old in
    let stands = old_stands c.self.inside.numbers.items c.args.change (inside (goal.at.overflow_sub-old c).After-times-old) in
    omega (arith, before, stands)

pub take-requires : goal.take-requires
take-requires c =
    let fits : FitsSigned w64 c.args.change.old = search rules in
    let fits' : FitsSigned w64 c.args.change.new = search rules in
    rw (to_z-of_z w64 c.args.change.old fits)
    (old_kept (times_in c.self.inside.counts) (times_in c.add.new.self) (times_in c.add.new.self) c.self.inside.numbers.items c.args.change (inside (goal.at.take-requires c).After-times-old) c.self.invariant
    (simp (to_z-of_z w64 c.args.change.new fits') at c.in_ok-add.ensures.ok))

-- the counts once the old number is out
counts_after : (c : After-times-new) → AreCountsOf (times_in c.take.new.self) (after_number_change c.self.inside.numbers.items c.args.change)
counts_after c =
    let fits : FitsSigned w64 c.args.change.old = search rules in
    let fits' : FitsSigned w64 c.args.change.new = search rules in
    counts_changed (times_in c.self.inside.counts) (times_in c.add.new.self) (times_in c.take.new.self) c.self.inside.numbers.items c.args.change (rw c.self.view_is c.requires) c.self.invariant
    (simp (to_z-of_z w64 c.args.change.new fits') at c.in_ok-add.ensures.ok) (simp (to_z-of_z w64 c.args.change.old fits) at c.take.ensures)

times_after : (c : After-times-new) → c.times-new.result ≡ count_of c.args.change.new (after_number_change c.self.inside.numbers.items c.args.change)
times_after c =
    let fits : FitsSigned w64 c.args.change.new = search rules in
    c.times-new.ensures ∙ ap (times_in c.take.new.self) (to_z-of_z w64 c.args.change.new fits) ∙ counts_after c c.args.change.new

pub overflow_sub-new : goal.overflow_sub-new
overflow_sub-new c =
    let after = times_after (goal.at.overflow_sub-new c).After-times-new in
    let there = new_elsewhere c.self.inside.numbers.items c.args.change (rw c.self.view_is c.requires) in
    omega (arith, after, there)

pub index_mut-requires : goal.index_mut-requires
index_mut-requires c =
    let lt = number_within c.self.inside.numbers.items c.args.change (rw c.self.view_is c.requires) in
    omega (arith, lt, c.self.inside.numbers.ok.0)

pub invariant_of-self-2 : goal.invariant_of-self-2
invariant_of-self-2 c =
    let fits : FitsSigned w64 c.args.change.new = search rules in
    rw (to_z-of_z w64 c.args.change.new fits) (counts_after (goal.at.invariant_of-self-2 c).After-times-new)

pub returns-clause-elsewhere : goal.returns-clause-elsewhere
returns-clause-elsewhere c =
    let d = (goal.at.returns-clause-elsewhere c).After-times-new in
    let change : IsNumberChange c.self.inside.numbers.items c.args.change = rw c.self.view_is c.requires in
    let before : c.times-old.result ≡ count_of c.args.change.old c.self.inside.numbers.items = times_before (goal.at.returns-clause-elsewhere c).After-times-old in
    let after = times_after (goal.at.returns-clause-elsewhere c).After-times-new in
    let here : IsElsewhere c.self.inside.numbers.items c.args.change (record { old = c.times-old.result - 1; new = c.times-new.result - 1 }) =
    record {
      old = omega (arith, before, old_elsewhere c.self.inside.numbers.items c.args.change change);
      new = omega (arith, after, new_elsewhere c.self.inside.numbers.items c.args.change change);
    } in
    subst (λ xs. IsElsewhere xs c.args.change (record { old = c.times-old.result - 1; new = c.times-new.result - 1 })) c.self.view_is here
