-- Two parts of adjoining candidates, made with the same want and under the same fuel, are merged into the part of all of
-- them; but the later one has to be scanned again exactly where the earlier one didn't stop and both cost more than the
-- fuel. A rule of this project.
use Rattle.std.specs.Prelude.{◌≡◌, ℕ, ◌+◌, ◌&&◌, Bool, true, false, List, ◌++◌, nat_lt}
use Rattle.std.specs.Option.{is_none, is_some}
use Rattle.ls_select.specs.Candidates.{Candidate}
use Rattle.ls_select.specs.Parts.{part_under}
use Rattle.ls_select.specs.declared.merging.Merged.{Merged}
use Rattle.ls_select.specs.declared.merging.Merged.TheVariants.{Whole, Rescan}
use Rattle.ls_select.specs.declared.part.Part.{Part}
use Rattle.ls_select.specs.declared.want.Want.{Want}

abbrev pub is_rescanned : Part → Part → ℕ → Bool
is_rescanned earlier later fuel = is_none earlier.stop && nat_lt fuel (earlier.cost + later.cost)

-- this is the part of the joined list, of whatever lists the two are the parts
abbrev pub IsPartOfBoth : Want → ℕ → Part → Part → Part → Type 0
IsPartOfBoth want fuel earlier later whole =
    (front back : List Candidate) →
    earlier ≡ part_under want earlier.first fuel front → later ≡ part_under want later.first fuel back →
    whole ≡ part_under want earlier.first fuel (front ++ back)

abbrev pub Merges : Want → ℕ → Part → Part → Merged → Type 0
Merges want fuel earlier later (Whole part) =
    (is_rescanned earlier later fuel ≡ false)
    × (is_some earlier.stop ≡ true → part ≡ earlier)
    × IsPartOfBoth want fuel earlier later part
Merges want fuel earlier later (Rescan part) =
    (is_rescanned earlier later fuel ≡ true) × (part ≡ earlier)
