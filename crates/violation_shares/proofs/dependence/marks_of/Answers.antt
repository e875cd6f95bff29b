use Rattle.std.proofs.Common.{rules, ◌≡◌, ◌<◌, ◌≤◌, ℕ, Some, length, slice_get, subst, true, Decides}
use Rattle.std.specs.Cmp.{booleans_Decides}
use Rattle.std.proofs.lemmas.Slice.Eq.{slice_eq-Decides}
use Rattle.model_values.specs.Dependence.{mark_step}
use Rattle.model_values.proofs.MarkLaws.{mark_more, marks_fixed, marks_through}
use Rattle.violation_shares.proofs.dependence.marks_of.Goals as goal

pub returns-then-eq : goal.returns-then-eq
returns-then-eq g c =
    let M = c.args.tables.now.model.now in
    let told : Decides true (c.in_ok-next.next.items ≡ c.loop-round.marks.items) = subst (λ b. Decides b (c.in_ok-next.next.items ≡ c.loop-round.marks.items)) c.if-eq.true (slice_eq-Decides booleans_Decides c.in_ok-next.next.items c.loop-round.marks.items c.eq.result c.eq.ensures) in
    let same : c.in_ok-next.next.items ≡ c.loop-round.marks.items = search (rules, told) in
    let each : (i : ℕ) → i < length M.vars.items → slice_get c.in_ok-next.next.items i ≡ Some (mark_step M c.loop-round.marks.items c.args.var i) = subst (λ ms. (i : ℕ) → i < length M.vars.items → slice_get c.in_ok-next.next.items i ≡ Some (mark_step M ms c.args.var i)) c.deref.ensures.value c.in_ok-next.ensures.each in
    marks_fixed M c.requires.well_formed c.requires.acyclic c.args.var c.loop-round.marks.items c.in_ok-next.next.items same each

pub loop-round-preserved : goal.loop-round-preserved
loop-round-preserved g c =
    let M = c.args.tables.now.model.now in
    let each : (i : ℕ) → i < length M.vars.items → slice_get c.in_ok-next.next.items i ≡ Some (mark_step M c.loop-round.marks.items c.args.var i) = subst (λ ms. (i : ℕ) → i < length M.vars.items → slice_get c.in_ok-next.next.items i ≡ Some (mark_step M ms c.args.var i)) c.deref.ensures.value c.in_ok-next.ensures.each in
    λ acyclic. mark_more M c.requires.well_formed acyclic c.args.var c.loop-round._round c.loop-round.marks.items c.in_ok-next.next.items (c.loop-round.invariant acyclic) each

pub returns : goal.returns
returns g c =
    let M = c.args.tables.now.model.now in
    let le : length M.vars.items ≤ c.loop-round._round = search rules in
    marks_through M c.requires.well_formed c.requires.acyclic c.args.var c.loop-round._round c.loop-round.marks.items le (c.loop-round.invariant c.requires.acyclic)
