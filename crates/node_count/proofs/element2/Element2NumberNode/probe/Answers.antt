use Rattle.std.proofs.Common.{◌+◌, ◌<◌, length, refl, rules, arith, w64}
use Rattle.std.specs.Prelude.{FitsSigned}
use Rattle.std.proofs.lemmas.Int.{to_z-of_z}
use Rattle.node_count.proofs.AfterLemmas.{read_any}
use Rattle.node_count.proofs.ElementLemmas.{element2_found, element2_missed}
use Rattle.node_count.proofs.element2.Element2NumberNode.probe.Goals as goal

pub returns-in-Some : goal.returns-in-Some
returns-in-Some c =
    let s = c.args.self.now in
    let xs = s.numbers.items in
    let fits_low1 : FitsSigned w64 s.low1 = search rules in
    let fits_low2 : FitsSigned w64 s.low2 = search rules in
    let fits_was1 : FitsSigned w64 c.index.result.now = search rules in
    let fits_was2 : FitsSigned w64 c.index-2.result.now = search rules in
    let fits_row : FitsSigned w64 c.number_after.result = search rules in
    let fits_col : FitsSigned w64 c.number_after-2.result = search rules in
    let fits_cell : FitsSigned w64 c.index-in-Some.result.now = search rules in
    let fits_number : FitsSigned w64 c.number_after-in-Some.result = search rules in
    let long = c.requires.settled in
    let inside = c.in-Some.ensures.within in
    let place = c.in-Some.place in
    let first : 0 < length xs = omega (arith, long) in
    let second : 1 < length xs = omega (arith, long) in
    let within : place + 2 < length xs = omega (arith, long, inside) in
    rw (to_z-of_z w64 c.number_after-in-Some.result fits_number)
    (element2_found s.low1 s.len1 s.low2 s.len2 xs c.args.changes.now c.index.result.now c.number_after.result c.index-2.result.now c.number_after-2.result c.place_of_index-row.result c.place_of_index-col.result place (place + 2) c.index-in-Some.result.now c.number_after-in-Some.result long (read_any xs 0 c.index.result.now first c.index.ensures) (simp (to_z-of_z w64 c.index.result.now fits_was1) at c.number_after.ensures) (read_any xs 1 c.index-2.result.now second c.index-2.ensures) (simp (to_z-of_z w64 c.index-2.result.now fits_was2) at c.number_after-2.ensures) (simp (to_z-of_z w64 c.number_after.result fits_row, to_z-of_z w64 s.low1 fits_low1) at c.place_of_index-row.ensures.place) (simp (to_z-of_z w64 c.number_after-2.result fits_col, to_z-of_z w64 s.low2 fits_low2) at c.place_of_index-col.ensures.place) c.in-Some.ensures.place refl within (read_any xs (place + 2) c.index-in-Some.result.now within c.index-in-Some.ensures) (simp (to_z-of_z w64 c.index-in-Some.result.now fits_cell) at c.number_after-in-Some.ensures))

pub returns-in-None : goal.returns-in-None
returns-in-None c =
    let s = c.args.self.now in
    let xs = s.numbers.items in
    let fits_low1 : FitsSigned w64 s.low1 = search rules in
    let fits_low2 : FitsSigned w64 s.low2 = search rules in
    let fits_was1 : FitsSigned w64 c.index.result.now = search rules in
    let fits_was2 : FitsSigned w64 c.index-2.result.now = search rules in
    let fits_row : FitsSigned w64 c.number_after.result = search rules in
    let fits_col : FitsSigned w64 c.number_after-2.result = search rules in
    let long = c.requires.settled in
    let first : 0 < length xs = omega (arith, long) in
    let second : 1 < length xs = omega (arith, long) in
    element2_missed s.low1 s.len1 s.low2 s.len2 xs c.args.changes.now c.index.result.now c.number_after.result c.index-2.result.now c.number_after-2.result c.place_of_index-row.result c.place_of_index-col.result long (read_any xs 0 c.index.result.now first c.index.ensures) (simp (to_z-of_z w64 c.index.result.now fits_was1) at c.number_after.ensures) (read_any xs 1 c.index-2.result.now second c.index-2.ensures) (simp (to_z-of_z w64 c.index-2.result.now fits_was2) at c.number_after-2.ensures) (simp (to_z-of_z w64 c.number_after.result fits_row, to_z-of_z w64 s.low1 fits_low1) at c.place_of_index-row.ensures.place) (simp (to_z-of_z w64 c.number_after-2.result fits_col, to_z-of_z w64 s.low2 fits_low2) at c.place_of_index-col.ensures.place) c.in-None.ensures.place
