-- The parts of a knapsack's load: each number times its weight. A rule of this project.
use Rattle.std.specs.Prelude.{ℕ, ℤ, pos, ◌*ℤ◌, ◌-ℤ◌, List, [], ◌∷◌, length, map, Ok, Err, slice_index_or}
use Rattle.std.specs.List.{range_with_len}
use Rattle.cbl_base.specs.Arithmetic.{exact}
use Rattle.cbl_violations.specs.Fitting.{where_all_fit, excess}
use Rattle.diff_load_seq.specs.Parts.{Part}

-- the product of a number at a place, where it fits
abbrev pub product_of : List ℤ → ℕ → ℤ → Part
product_of weights place number = exact (slice_index_or weights place (pos 0) *ℤ number)

-- the products of all numbers
abbrev pub products : List ℤ → List ℤ → List Part
products weights xs = map (λ k. product_of weights k (slice_index_or xs k (pos 0))) (range_with_len 0 (length xs))

-- how far a load, if there is one, is above the capacity
abbrev pub above_capacity : Part → ℤ → Part
above_capacity (Ok load) capacity = where_all_fit ((load -ℤ capacity) ∷ []) (excess (load -ℤ capacity))
above_capacity (Err fault) capacity = Err fault
