-- The cell at an index or at two, after changes.
use Rattle.std.proofs.Common.{◌≡◌, ℕ, ◌+◌, ◌*◌, ◌<◌, ℤ, pos, List, length, get_or, drop, Option, Some, None, Result, Ok, Err, ap, sym, ◌∙◌, arith}
use Rattle.std.proofs.lemmas.List.{get_or-drop}
use Rattle.cbl_base.specs.declared.faults.RunFault.{RunFault}
use Rattle.cbl_base.specs.declared.faults.RunFault.TheVariants.{OutOfRange}
use Rattle.cbl_operations.specs.Cells.{place_of_index, place_in_rows, cell_at}
use Rattle.cbl_operations.specs.Operations.Element.{element}
use Rattle.cbl_operations.specs.Operations.Element2.{element2}
use Rattle.node_base.specs.NumberChanges.{after_number_changes}
use Rattle.node_base.specs.declared.number_change.NumberChange.{NumberChange}
use Rattle.node_count.specs.After.{number_after}
use Rattle.node_count.proofs.AfterLemmas.{number_read_after}

-- the cell behind so many indices
cell_after : (xs : List ℤ) (cs : List NumberChange) (skip place p : ℕ) (found : Option ℕ) (cell number : ℤ) → found ≡ Some place → p ≡ skip + place → p < length xs → cell ≡ get_or xs p (pos 0) → number ≡ number_after p cell cs
    → cell_at (drop skip (after_number_changes xs cs)) found ≡ Ok number
cell_after xs cs skip place p found cell number is at lt was now =
    ap (cell_at (drop skip (after_number_changes xs cs))) is ∙ ap ok (get_or-drop skip (after_number_changes xs cs) place (pos 0) ∙ ap (λ q. get_or (after_number_changes xs cs) q (pos 0)) (sym at) ∙ number_read_after xs cs p (pos 0) lt ∙ ap (λ x. number_after p x cs) (sym was) ∙ sym now)
  where
    ok : ℤ → Result ℤ RunFault
    ok x = Ok x

no_cell : (cells : List ℤ) (found : Option ℕ) → found ≡ None → cell_at cells found ≡ Err OutOfRange
no_cell cells found is = ap (cell_at cells) is

index_after : (xs : List ℤ) (cs : List NumberChange) (p : ℕ) (was index : ℤ) → p < length xs → was ≡ get_or xs p (pos 0) → index ≡ number_after p was cs → get_or (after_number_changes xs cs) p (pos 0) ≡ index
index_after xs cs p was index lt at is = number_read_after xs cs p (pos 0) lt ∙ ap (λ x. number_after p x cs) (sym at) ∙ sym is

pub element_found : (low : ℤ) (len : ℕ) (xs : List ℤ) (cs : List NumberChange) (was index : ℤ) (place p : ℕ) (cell number : ℤ) → length xs ≡ len + 1 → was ≡ get_or xs 0 (pos 0) → index ≡ number_after 0 was cs → Some place ≡ place_of_index index low len
    → p ≡ place + 1 → p < length xs → cell ≡ get_or xs p (pos 0) → number ≡ number_after p cell cs → (element low len).value (after_number_changes xs cs) ≡ Ok number
element_found low len xs cs was index place p cell number long at is found here lt is_cell is_number =
    ap (λ i. cell_at (drop 1 (after_number_changes xs cs)) (place_of_index i low len)) (index_after xs cs 0 was index (omega (arith, long)) at is)
    ∙ cell_after xs cs 1 place p (place_of_index index low len) cell number (sym found) (omega (arith, here)) lt is_cell is_number

pub element_missed : (low : ℤ) (len : ℕ) (xs : List ℤ) (cs : List NumberChange) (was index : ℤ) → length xs ≡ len + 1 → was ≡ get_or xs 0 (pos 0) → index ≡ number_after 0 was cs → None ≡ place_of_index index low len
    → (element low len).value (after_number_changes xs cs) ≡ Err OutOfRange
element_missed low len xs cs was index long at is found =
    ap (λ i. cell_at (drop 1 (after_number_changes xs cs)) (place_of_index i low len)) (index_after xs cs 0 was index (omega (arith, long)) at is)
    ∙ no_cell (drop 1 (after_number_changes xs cs)) (place_of_index index low len) (sym found)

-- both indices
places : (low1 : ℤ) (len1 : ℕ) (low2 : ℤ) (len2 : ℕ) (xs : List ℤ) (cs : List NumberChange) (was1 row was2 col : ℤ) (r k : Option ℕ) → length xs ≡ len1 * len2 + 2 → was1 ≡ get_or xs 0 (pos 0) → row ≡ number_after 0 was1 cs → was2 ≡ get_or xs 1 (pos 0) → col ≡ number_after 1 was2 cs
    → r ≡ place_of_index row low1 len1 → k ≡ place_of_index col low2 len2
    → (element2 low1 len1 low2 len2).value (after_number_changes xs cs) ≡ cell_at (drop 2 (after_number_changes xs cs)) (place_in_rows r k len2)
places low1 len1 low2 len2 xs cs was1 row was2 col r k long at1 is1 at2 is2 is_r is_k =
    let ys = after_number_changes xs cs in
    ap (λ i. cell_at (drop 2 ys) (place_in_rows (place_of_index i low1 len1) (place_of_index (get_or ys 1 (pos 0)) low2 len2) len2)) (index_after xs cs 0 was1 row (omega (arith, long)) at1 is1)
    ∙ ap (λ i. cell_at (drop 2 ys) (place_in_rows (place_of_index row low1 len1) (place_of_index i low2 len2) len2)) (index_after xs cs 1 was2 col (omega (arith, long)) at2 is2)
    ∙ ap (λ o. cell_at (drop 2 ys) (place_in_rows o (place_of_index col low2 len2) len2)) (sym is_r)
    ∙ ap (λ o. cell_at (drop 2 ys) (place_in_rows r o len2)) (sym is_k)

pub element2_found : (low1 : ℤ) (len1 : ℕ) (low2 : ℤ) (len2 : ℕ) (xs : List ℤ) (cs : List NumberChange) (was1 row was2 col : ℤ) (r k : Option ℕ) (place p : ℕ) (cell number : ℤ) → length xs ≡ len1 * len2 + 2 → was1 ≡ get_or xs 0 (pos 0) → row ≡ number_after 0 was1 cs → was2 ≡ get_or xs 1 (pos 0) → col ≡ number_after 1 was2 cs
    → r ≡ place_of_index row low1 len1 → k ≡ place_of_index col low2 len2 → Some place ≡ place_in_rows r k len2 → p ≡ place + 2 → p < length xs → cell ≡ get_or xs p (pos 0) → number ≡ number_after p cell cs
    → (element2 low1 len1 low2 len2).value (after_number_changes xs cs) ≡ Ok number
element2_found low1 len1 low2 len2 xs cs was1 row was2 col r k place p cell number long at1 is1 at2 is2 is_r is_k found here lt is_cell is_number =
    places low1 len1 low2 len2 xs cs was1 row was2 col r k long at1 is1 at2 is2 is_r is_k
    ∙ cell_after xs cs 2 place p (place_in_rows r k len2) cell number (sym found) (omega (arith, here)) lt is_cell is_number

pub element2_missed : (low1 : ℤ) (len1 : ℕ) (low2 : ℤ) (len2 : ℕ) (xs : List ℤ) (cs : List NumberChange) (was1 row was2 col : ℤ) (r k : Option ℕ) → length xs ≡ len1 * len2 + 2 → was1 ≡ get_or xs 0 (pos 0) → row ≡ number_after 0 was1 cs → was2 ≡ get_or xs 1 (pos 0) → col ≡ number_after 1 was2 cs
    → r ≡ place_of_index row low1 len1 → k ≡ place_of_index col low2 len2 → None ≡ place_in_rows r k len2
    → (element2 low1 len1 low2 len2).value (after_number_changes xs cs) ≡ Err OutOfRange
element2_missed low1 len1 low2 len2 xs cs was1 row was2 col r k long at1 is1 at2 is2 is_r is_k found =
    places low1 len1 low2 len2 xs cs was1 row was2 col r k long at1 is1 at2 is2 is_r is_k
    ∙ no_cell (drop 2 (after_number_changes xs cs)) (place_in_rows r k len2) (sym found)
