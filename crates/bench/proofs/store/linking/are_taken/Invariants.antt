use Rattle.std.proofs.Common.{◌≡◌, ℕ, ◌+◌, ◌<◌, true, length, slice_get, Some}
use Rattle.store_build.specs.Lists.{list_in}
use Rattle.bench.specs.Parts.{taken_by}
use Rattle.bench.specs.declared.store.parts.Part.{Part}
use Rattle.bench.proofs.store.linking.are_taken.Given as goal

abbrev pub invariant-loop-place : goal.invariant-loop-place
invariant-loop-place l = (k : ℕ) (part : Part) → k < l.place → slice_get l.fn.parts k ≡ Some part → taken_by part (length (list_in l.fn.lists (l.fn.cells + k))) ≡ true
