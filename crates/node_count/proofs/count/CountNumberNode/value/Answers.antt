use Rattle.std.proofs.Common.{◌<◌, ◌^◌, sym, subst, arith, rules, w64}
use Rattle.std.specs.Prelude.{FitsSigned}
use Rattle.std.proofs.lemmas.Int.{ints, to_z-of_z, to_z_pos}
use Rattle.node_count.proofs.CountTurns.{counted_now, few_cells}
use Rattle.node_count.proofs.count.CountNumberNode.value.Goals as goal

pub overflow_cast-result : goal.overflow_cast-result
overflow_cast-result c =
    let is = c.times.ensures in
    let few = few_cells _ c.args.self.now.cells c.requires in
    let small : c.times.result < 2 ^ 63 = subst (λ k. k < 2 ^ 63) (sym is) few in
    omega (arith, ints, small)

pub returns : goal.returns
returns c =
    let s = c.args.self.now in
    let fits : FitsSigned w64 s.counted = search rules in
    let is = simp (to_z-of_z w64 s.counted fits) at c.times.ensures in
    let small : c.times.result < 2 ^ 63 = subst (λ k. k < 2 ^ 63) (sym is) (few_cells s.counted s.cells c.requires) in
    rw (to_z_pos w64 c.times.result small) (sym (counted_now s.cells s.counted c.times.result is))
