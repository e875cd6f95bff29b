-- The first entry of the name is the first one from the index on.
use Rattle.std.proofs.Common.{◌≡◌, map, string_bytes, drop}
use Rattle.std.specs.Ordering.{nat_cmp}
use Rattle.std.specs.Cmp.Lexicographic.{slice_cmp}
use Rattle.std.specs.FinMap.{find}
use Rattle.cbl_io.proofs.mem_files.bytes_of.Given as goal

abbrev pub invariant-loop-held : goal.invariant-loop-held
invariant-loop-held l =
    find (slice_cmp nat_cmp) l.name (map (λ e. (string_bytes e.0, e.1.items)) l.entries)
    ≡ find (slice_cmp nat_cmp) l.name (map (λ e. (string_bytes e.0, e.1.items)) (drop l.held-index l.entries))
