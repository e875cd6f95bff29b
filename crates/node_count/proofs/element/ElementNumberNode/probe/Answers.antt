use Rattle.std.proofs.Common.{◌+◌, ◌<◌, length, refl, rules, arith, w64}
use Rattle.std.specs.Prelude.{FitsSigned}
use Rattle.std.proofs.lemmas.Int.{to_z-of_z}
use Rattle.node_count.proofs.AfterLemmas.{read_any}
use Rattle.node_count.proofs.ElementLemmas.{element_found, element_missed}
use Rattle.node_count.proofs.element.ElementNumberNode.probe.Goals as goal

pub returns-in-Some : goal.returns-in-Some
returns-in-Some c =
    let s = c.args.self.now in
    let xs = s.numbers.items in
    let fits_low : FitsSigned w64 s.low = search rules in
    let fits_was : FitsSigned w64 c.index.result.now = search rules in
    let fits_index : FitsSigned w64 c.number_after-index.result = search rules in
    let fits_cell : FitsSigned w64 c.index-in-Some.result.now = search rules in
    let fits_number : FitsSigned w64 c.number_after.result = search rules in
    let long = c.requires.settled in
    let inside = c.in-Some.ensures.within in
    let place = c.in-Some.place in
    let first : 0 < length xs = omega (arith, long) in
    let within : place + 1 < length xs = omega (arith, long, inside) in
    rw (to_z-of_z w64 c.number_after.result fits_number)
    (element_found s.low s.len xs c.args.changes.now c.index.result.now c.number_after-index.result place (place + 1) c.index-in-Some.result.now c.number_after.result long (read_any xs 0 c.index.result.now first c.index.ensures) (simp (to_z-of_z w64 c.index.result.now fits_was) at c.number_after-index.ensures) (simp (to_z-of_z w64 c.number_after-index.result fits_index, to_z-of_z w64 s.low fits_low) at c.in-Some.ensures.place) refl within (read_any xs (place + 1) c.index-in-Some.result.now within c.index-in-Some.ensures) (simp (to_z-of_z w64 c.index-in-Some.result.now fits_cell) at c.number_after.ensures))

pub returns-in-None : goal.returns-in-None
returns-in-None c =
    let s = c.args.self.now in
    let xs = s.numbers.items in
    let fits_low : FitsSigned w64 s.low = search rules in
    let fits_was : FitsSigned w64 c.index.result.now = search rules in
    let fits_index : FitsSigned w64 c.number_after-index.result = search rules in
    let long = c.requires.settled in
    let first : 0 < length xs = omega (arith, long) in
    element_missed s.low s.len xs c.args.changes.now c.index.result.now c.number_after-index.result long (read_any xs 0 c.index.result.now first c.index.ensures) (simp (to_z-of_z w64 c.index.result.now fits_was) at c.number_after-index.ensures) (simp (to_z-of_z w64 c.number_after-index.result fits_index, to_z-of_z w64 s.low fits_low) at c.in-None.ensures.place)
