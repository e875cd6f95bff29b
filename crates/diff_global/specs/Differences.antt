-- What a bounded value, which stands so often in a list, differs by from what is asked of it, the
-- violations that this makes, and which places count. A rule of this project.
use Rattle.std.specs.Prelude.{ℕ, ℤ, pos, ◌-ℤ◌, Bool, true, false, ◌&&◌, Option, unwrap_or, if◌then◌else◌}
use Rattle.cbl_base.specs.Arithmetic.{fits_64}
use Rattle.cbl_violations.specs.Fitting.{excess, distance}
use Rattle.diff_global.specs.declared.cardinality.Demand.{Demand}
use Rattle.diff_global.specs.declared.cardinality.Demand.TheVariants.{AtMost, AtLeast, Exactly}

abbrev pub differs_by : Demand → ℕ → ℤ → ℤ
differs_by AtMost times bound = pos times -ℤ bound
differs_by AtLeast times bound = bound -ℤ pos times
differs_by Exactly times bound = pos times -ℤ bound

abbrev pub part : Demand → ℤ → ℤ
part AtMost difference = excess difference
part AtLeast difference = excess difference
part Exactly difference = distance difference

-- 1 where the difference doesn't fit 64 bits
abbrev pub misfit : ℤ → ℕ
misfit difference = if fits_64 difference then 0 else 1

-- whether a place counts, where there are violations or not, and its value stands too often, or not, or
-- has no bound
abbrev pub counts_at : Demand → Bool → Option Bool → Bool
counts_at AtMost violated over = unwrap_or over false
counts_at AtLeast violated over = violated && unwrap_or over true
counts_at Exactly violated over = unwrap_or over violated
