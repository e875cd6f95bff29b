-- The number waits, or is committed.
use Rattle.std.proofs.Common.{◌≡◌, ℤ, true, false, [], ◌∷◌, refl, sym, ◌∙◌, ap, w64, to_z, of_z, rules}
use Rattle.cbl_base.specs.declared.ids.VarId.{VarId}
use Rattle.ls_solver.specs.Ids.{has_definition, is_own}
use Rattle.run_solvers.specs.Changing.{moved_one}
use Rattle.run_solvers.specs.Views.{held_seen, waits}
use Rattle.run_solvers.proofs.BlockLaws.{moved_now, none_waits, nothing_kept, waited_one, waiting_more, waits_is, written_is}
use Rattle.run_solvers.proofs.WaitingLaws.{one_distinct, one_each}
use Rattle.run_solvers.proofs.TriedLaws.{moved_as}
use Rattle.run_solvers.proofs.ToldLaws.{nothing_told}
use Rattle.run_solvers.proofs.held.Held.move_one.Goals as goal

pub returns-then-wait_in : goal.returns-then-wait_in
returns-then-wait_in g c =
    let old = c.args.self.now in
    let same : to_z w64 (of_z w64 c.args.number) ≡ c.args.number = search rules in
    let next = rw same at (c.wait_in.ensures.written ∙ written_is old.waiting c.args.variable.index _) in
    let some = waits_is (λ w. w.items) old.waiting ∙ sym c.wait_in.ensures.waits ∙ c.if-wait_in.true in
    let whole = c.requires.kept.0 in record {
      meant = waited_one old.solver old.names (waits old) _ c.args.variable.index c.args.number next some c.keeps_form.ensures.assigned whole.waits_;
      kept = (record { number_ = whole.number_; usable = whole.usable; named = whole.named; waits_ = waiting_more old.solver (waits old) _ c.args.variable.index c.args.number next c.requires.free whole.waits_ }, c.requires.kept.1);
      number = refl;
      told = nothing_told old.number (held_seen old) (held_seen (record old { waiting = c.wait_in.new.waiting })) c.new.result refl refl refl c.new.ensures.items;
    }

pub commit-requires-clause-kept : goal.commit-requires-clause-kept
commit-requires-clause-kept g c =
    let old = c.args.self.now in
    let whole = c.requires.kept.0 in
    let none = none_waits (waits old) _ c.args.variable.index _ (c.wait_in.ensures.written ∙ written_is old.waiting c.args.variable.index _) (waits_is (λ w. w.items) old.waiting ∙ sym c.wait_in.ensures.waits ∙ c.if-wait_in.false) in
    (record { number_ = whole.number_; usable = whole.usable; named = whole.named; waits_ = nothing_kept old.solver _ none.1 }, c.requires.kept.1)

pub commit-requires-clause-nothing : goal.commit-requires-clause-nothing
commit-requires-clause-nothing g c =
    let old = c.args.self.now in
    (none_waits (waits old) _ c.args.variable.index _ (c.wait_in.ensures.written ∙ written_is old.waiting c.args.variable.index _) (waits_is (λ w. w.items) old.waiting ∙ sym c.wait_in.ensures.waits ∙ c.if-wait_in.false)).1

pub commit-requires-clause-distinct : goal.commit-requires-clause-distinct
commit-requires-clause-distinct g c = one_distinct (c.args.variable, to_z w64 (of_z w64 c.args.number))

pub commit-requires-clause-free : goal.commit-requires-clause-free
commit-requires-clause-free g c =
    let S = c.args.self.now.solver in
    one_each (λ (m : VarId × ℤ). (is_own S m.0 ≡ true) × (has_definition S.model m.0.index ≡ false)) (c.args.variable, to_z w64 (of_z w64 c.args.number)) (c.requires.own, c.requires.free)

pub returns : goal.returns
returns g c =
    let old = c.args.self.now in
    let none = none_waits (waits old) _ c.args.variable.index _ (c.wait_in.ensures.written ∙ written_is old.waiting c.args.variable.index _) (waits_is (λ w. w.items) old.waiting ∙ sym c.wait_in.ensures.waits ∙ c.if-wait_in.false) in
    let same : to_z w64 (of_z w64 c.args.number) ≡ c.args.number = search rules in
    moved_as old (record old { waiting = c.wait_in.new.waiting }) _ c.commit.result _ _ refl refl
    (ap (λ (z : ℤ). moved_one ((c.args.variable.index, z) ∷ []) (held_seen old) (held_seen old).waiting) (sym same)
    ∙ moved_now old.solver old.names (waits old) _ ((c.args.variable.index, to_z w64 (of_z w64 c.args.number)) ∷ []) none.0 none.1) c.commit.ensures
