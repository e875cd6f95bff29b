-- The first of the ids without a value whose fault is its own.
use Rattle.std.specs.Prelude.{◌≡◌, ℕ, map, fold, List, Option, Some, None}
use Rattle.std.specs.Option.{option_map}
use Rattle.std.specs.BTreeMap.{IsOrdered}
use Rattle.std.specs.Ordering.{nat_cmp}
use Rattle.cbl_base.specs.declared.faults.RunFault.{RunFault}
use Rattle.inc_store.specs.declared.changed.NodeChange.{NodeChange}
use Rattle.inc_store.specs.declared.course.Course.{Course}
use Rattle.store_build.specs.declared.parts.StoreFault.{StoreFault}
use Rattle.store_build.specs.declared.parts.StoreFault.TheVariants.{Node, NoMemory}

abbrev pub and_later : Option (ℕ × RunFault) → ℕ × Option RunFault → Option (ℕ × RunFault)
and_later (Some first) e = Some first
and_later None e = option_map (λ fault. (e.0, fault)) e.1

abbrev pub first_failing : List (ℕ × Option RunFault) → Option (ℕ × RunFault)
first_failing es = fold and_later None es

-- a commit that is over ends by its first fault, or with its changes
abbrev pub IsDone : Course → List NodeChange → Type 0
IsDone course list = (first_failing course.lost.entries ≡ None) × IsOrdered nat_cmp course.changes × (list ≡ map (λ e. e.1) course.changes.entries)

abbrev pub EndsBy : Course → StoreFault → Type 0
EndsBy course (Node node fault) = IsOrdered nat_cmp course.lost × (first_failing course.lost.entries ≡ Some (node.0, fault))
EndsBy course NoMemory = Unit {0}
