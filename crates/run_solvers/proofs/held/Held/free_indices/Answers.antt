-- The indices that have no definition, one after the other.
use Rattle.std.proofs.Common.{◌≡◌, ◌<◌, length, filter, sym, ◌∙◌, ap, arith}
use Rattle.std.specs.Prelude.{not}
use Rattle.std.specs.List.{range_with_len}
use Rattle.ls_solver.specs.Ids.{has_definition}
use Rattle.run_solvers.specs.Views.{waits}
use Rattle.run_solvers.proofs.SolutionLaws.{defined_as, defined_left, filtered_all, filtered_more, free_pushed, free_seen}
use Rattle.run_solvers.proofs.held.Held.free_indices.Goals as goal
use Rattle.run_solvers.proofs.held.Held.free_indices.Goals.{then-not-defines+in_ok-push, else-not-defines}

pub overflow_cast-index-end : goal.overflow_cast-index-end
overflow_cast-index-end g c = let few = c.keeps_form.ensures.few in let named = c.requires.0.named in omega (arith, few, named, c.len-index-end.ensures)

pub loop-index-preserved : goal.loop-index-preserved
loop-index-preserved g c =
    let h = c.args.self.now in
    let l = c.loop-index in
    let named = c.requires.0.named in
    let lt : l.index < length h.names = omega (arith, c.loop-index-test.true, c.len-index-end.ensures) in
    let there : c.own.result.index < length h.solver.model.vars.items = omega (arith, lt, named, ap (λ x. x.index) c.own.ensures) in
    let same : c.defines.result ≡ has_definition h.solver.model l.index = defined_as h.solver c.own.result c.defines.result (ap (λ x. x.solver) c.own.ensures ∙ sym c.requires.0.number_) there c.defines.ensures ∙ ap (λ x. has_definition h.solver.model x.index) c.own.ensures in
    elim c.if-not-defines.branch [
      | then-not-defines+in_ok-push w ↦ filtered_more (λ i. not (has_definition h.solver.model i)) l.index (length h.names) l.free.items c.if-not-defines.free.items _ lt l.invariant (free_pushed l.free.items c.if-not-defines.free.items l.index c.defines.result _ same w.if-not-defines.true (ap (λ v. v.items) w.free-is ∙ w.in_ok-push.ensures.items))
      | else-not-defines w ↦ filtered_more (λ i. not (has_definition h.solver.model i)) l.index (length h.names) l.free.items c.if-not-defines.free.items _ lt l.invariant (defined_left l.free.items c.if-not-defines.free.items l.index c.defines.result _ same w.if-not-defines.false (ap (λ v. v.items) w.free-is))
    ]

pub returns : goal.returns
returns g c =
    let h = c.args.self.now in
    let l = c.loop-index in
    let named = c.requires.0.named in
    filtered_all (λ i. not (has_definition h.solver.model i)) l.index (length h.names) l.free.items _ (omega (arith, c.loop-index-test.false, c.len-index-end.ensures)) l.invariant
    ∙ ap (λ n. filter (λ i. not (has_definition h.solver.model i)) (range_with_len 0 n)) named
    ∙ sym (free_seen h.solver h.names (waits h))
