use Rattle.std.proofs.Common.{ℕ, ℤ, pos, Option, ap, ◌∙◌, w64, FitsSigned, get_or, drop, rules}
use Rattle.std.proofs.lemmas.Int.{to_z-of_z}
use Rattle.std.proofs.lemmas.List.{take_rest}
use Rattle.cbl_operations.specs.Cells.{place_of_index, place_in_rows, cell_at}
use Rattle.cbl_operations.proofs.elements.element2_value.Goals as goal

pub returns : goal.returns
returns c =
    let xs = c.args.inputs.now in
    let width = c.args.len2 in
    let row_fits : FitsSigned w64 (get_or xs 0 (pos 0)) = search rules in
    let col_fits : FitsSigned w64 (get_or xs 1 (pos 0)) = search rules in
    let low1_fits : FitsSigned w64 c.args.low1 = search rules in
    let low2_fits : FitsSigned w64 c.args.low2 = search rules in
    let row = simp to_z-of_z at c.place_of_index-row.ensures.place in
    let col = simp to_z-of_z at c.place_of_index-col.ensures.place in
    let cells = simp (take_rest {X = ℤ}) at c.cell_at.ensures in
    cells
    ∙ ap (λ (k : Option ℕ). cell_at (drop 2 xs) k) c.place_in_rows.ensures.place
    ∙ ap (λ (r : Option ℕ). cell_at (drop 2 xs) (place_in_rows r c.place_of_index-col.result width)) row
    ∙ ap (λ (k : Option ℕ). cell_at (drop 2 xs) (place_in_rows (place_of_index (get_or xs 0 (pos 0)) c.args.low1 c.args.len1) k width)) col
