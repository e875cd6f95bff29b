-- Both numbers wait, or both are committed, of which the second counts where both are for one variable.
use Rattle.std.proofs.Common.{◌≡◌, ℤ, true, false, [], ◌∷◌, refl, sym, ◌∙◌, w64, to_z, of_z, rules}
use Rattle.cbl_base.specs.declared.ids.VarId.{VarId}
use Rattle.ls_solver.specs.Ids.{has_definition, is_own}
use Rattle.run_solvers.specs.Views.{waits}
use Rattle.run_solvers.proofs.BlockLaws.{moved_now, moved_second, none_waits, nothing_kept, waited_first, waiting_more, waits_is, written_is}
use Rattle.run_solvers.proofs.WaitingLaws.{one_distinct, one_each, two_distinct, two_each}
use Rattle.run_solvers.proofs.TriedLaws.{moved_as}
use Rattle.run_solvers.proofs.held.Held.move_both.Goals as goal

pub move_one-requires-clause-kept : goal.move_one-requires-clause-kept
move_one-requires-clause-kept g c =
    let old = c.args.self.now in
    let whole = c.requires.kept.0 in
    let next = c.wait_in.ensures.written ∙ written_is old.waiting c.args.first.0.index _ in
    (record { number_ = whole.number_; usable = whole.usable; named = whole.named; waits_ = waiting_more old.solver (waits old) _ c.args.first.0.index _ next c.requires.free.0 whole.waits_ }, c.requires.kept.1)

pub returns-then-wait_in : goal.returns-then-wait_in
returns-then-wait_in g c =
    let old = c.args.self.now in
    let next = c.wait_in.ensures.written ∙ written_is old.waiting c.args.first.0.index _ in
    let some = waits_is (λ w. w.items) old.waiting ∙ sym c.wait_in.ensures.waits ∙ c.if-wait_in.true in
    let first : to_z w64 (of_z w64 c.args.first.1) ≡ c.args.first.1 = search rules in
    let second : to_z w64 (of_z w64 c.args.second.1) ≡ c.args.second.1 = search rules in
    moved_as old (record old { waiting = c.wait_in.new.waiting }) _ c.move_one.result _ _ refl refl
    (waited_first old.solver old.names (waits old) _ c.args.first.0.index c.args.second.0.index _ c.args.first.1 c.args.second.1 _ first second next some c.keeps_form.ensures.assigned c.requires.kept.0.waits_) c.move_one.ensures

pub commit-requires-clause-kept : goal.commit-requires-clause-kept
commit-requires-clause-kept g c =
    let old = c.args.self.now in
    let whole = c.requires.kept.0 in
    let none = none_waits (waits old) _ c.args.first.0.index _ (c.wait_in.ensures.written ∙ written_is old.waiting c.args.first.0.index _) (waits_is (λ w. w.items) old.waiting ∙ sym c.wait_in.ensures.waits ∙ c.if-wait_in.false) in
    (record { number_ = whole.number_; usable = whole.usable; named = whole.named; waits_ = nothing_kept old.solver _ none.1 }, c.requires.kept.1)

pub commit-requires-clause-nothing : goal.commit-requires-clause-nothing
commit-requires-clause-nothing g c =
    let old = c.args.self.now in
    (none_waits (waits old) _ c.args.first.0.index _ (c.wait_in.ensures.written ∙ written_is old.waiting c.args.first.0.index _) (waits_is (λ w. w.items) old.waiting ∙ sym c.wait_in.ensures.waits ∙ c.if-wait_in.false)).1

pub commit-requires-clause-distinct : goal.commit-requires-clause-distinct
commit-requires-clause-distinct g c = one_distinct c.args.second

pub commit-requires-clause-free : goal.commit-requires-clause-free
commit-requires-clause-free g c =
    let S = c.args.self.now.solver in
    one_each (λ (m : VarId × ℤ). (is_own S m.0 ≡ true) × (has_definition S.model m.0.index ≡ false)) c.args.second (c.requires.own.1, c.requires.free.1)

pub returns-then-first-second : goal.returns-then-first-second
returns-then-first-second g c =
    let old = c.args.self.now in
    let none = none_waits (waits old) _ c.args.first.0.index _ (c.wait_in.ensures.written ∙ written_is old.waiting c.args.first.0.index _) (waits_is (λ w. w.items) old.waiting ∙ sym c.wait_in.ensures.waits ∙ c.if-wait_in.false) in
    moved_as old (record old { waiting = c.wait_in.new.waiting }) _ c.commit.result _ _ refl refl (moved_second old.solver old.names (waits old) _ c.args.first.0.index c.args.second.0.index c.args.first.1 c.args.second.1 none.0 none.1 c.if-first-second.true) c.commit.ensures

pub commit-requires-2-clause-kept : goal.commit-requires-2-clause-kept
commit-requires-2-clause-kept g c =
    let old = c.args.self.now in
    let whole = c.requires.kept.0 in
    let none = none_waits (waits old) _ c.args.first.0.index _ (c.wait_in.ensures.written ∙ written_is old.waiting c.args.first.0.index _) (waits_is (λ w. w.items) old.waiting ∙ sym c.wait_in.ensures.waits ∙ c.if-wait_in.false) in
    (record { number_ = whole.number_; usable = whole.usable; named = whole.named; waits_ = nothing_kept old.solver _ none.1 }, c.requires.kept.1)

pub commit-requires-2-clause-nothing : goal.commit-requires-2-clause-nothing
commit-requires-2-clause-nothing g c =
    let old = c.args.self.now in
    (none_waits (waits old) _ c.args.first.0.index _ (c.wait_in.ensures.written ∙ written_is old.waiting c.args.first.0.index _) (waits_is (λ w. w.items) old.waiting ∙ sym c.wait_in.ensures.waits ∙ c.if-wait_in.false)).1

pub commit-requires-2-clause-distinct : goal.commit-requires-2-clause-distinct
commit-requires-2-clause-distinct g c = two_distinct c.args.first c.args.second c.if-first-second.false

pub commit-requires-2-clause-free : goal.commit-requires-2-clause-free
commit-requires-2-clause-free g c =
    let S = c.args.self.now.solver in
    two_each (λ (m : VarId × ℤ). (is_own S m.0 ≡ true) × (has_definition S.model m.0.index ≡ false)) c.args.first c.args.second (c.requires.own.0, c.requires.free.0) (c.requires.own.1, c.requires.free.1)

pub returns : goal.returns
returns g c =
    let old = c.args.self.now in
    let none = none_waits (waits old) _ c.args.first.0.index _ (c.wait_in.ensures.written ∙ written_is old.waiting c.args.first.0.index _) (waits_is (λ w. w.items) old.waiting ∙ sym c.wait_in.ensures.waits ∙ c.if-wait_in.false) in
    moved_as old (record old { waiting = c.wait_in.new.waiting }) _ c.commit-2.result _ _ refl refl (moved_now old.solver old.names (waits old) _ ((c.args.first.0.index, c.args.first.1) ∷ (c.args.second.0.index, c.args.second.1) ∷ []) none.0 none.1) c.commit-2.ensures
