-- What the scan of some adjoining candidates gives, of what each was scored: how many were scanned, the sum of their
-- costs, the best key of the kept ones, the numbers of those that have it, and the first that stopped. A rule of this
-- project.
use Rattle.std.specs.Prelude.{◌≡◌, ℕ, ℤ, ◌+◌, ◌-◌, Bool, false, if◌then◌else◌, List, [], ◌∷◌, ◌++◌, Option, Some, None, length, filter_map, sum_by}
use Rattle.std.specs.Option.{option_map, option_or}
use Rattle.ls_select.specs.Best.{best_of, is_best}
use Rattle.ls_select.specs.Candidates.{Candidate, scan, score, stop_in}
use Rattle.ls_select.specs.declared.part.Part.{Part}
use Rattle.ls_select.specs.declared.scored.End.{End}
use Rattle.ls_select.specs.declared.scored.End.TheVariants.{Skipped, Kept, Stopped}
use Rattle.ls_select.specs.declared.scored.Scored.{Scored}
use Rattle.ls_select.specs.declared.scored.Stop.{Stop}
use Rattle.ls_select.specs.declared.want.Want.{Want}

-- the key of a kept candidate
abbrev pub key_in : End → Option ℤ
key_in Skipped = None
key_in (Kept key) = Some key
key_in (Stopped stop) = None

-- the keys of the kept ones, in order
abbrev pub keys_of : List Scored → List ℤ
keys_of scores = filter_map (λ s. key_in s.end) scores

-- a candidate is kept, with a key as good as the best one
abbrev pub is_tied : Want → Option ℤ → End → Bool
is_tied want best Skipped = false
is_tied want best (Kept key) = is_best want best key
is_tied want best (Stopped stop) = false

-- the numbers of the tied ones, where the first of all has this number
abbrev pub tied_from : Want → Option ℤ → ℕ → List Scored → List ℕ
tied_from want best number [] = []
tied_from want best number (s ∷ scores) =
    if is_tied want best s.end
    then number ∷ tied_from want best (number + 1) scores
    else tied_from want best (number + 1) scores

-- the first that stopped, with its number
abbrev pub stop_from : ℕ → List Scored → Option (ℕ × Stop)
stop_from number [] = None
stop_from number (s ∷ scores) =
    option_or (option_map (λ stop. (number, stop)) (stop_in s.end)) (stop_from (number + 1) scores)

-- the part of candidates that were scored so, the first of which has this number
abbrev pub part_of : Want → ℕ → List Scored → Part
part_of want first scores =
    let best = best_of want (keys_of scores) in
    record {
      first = first;
      count = length scores;
      cost = sum_by (λ s. s.cost) scores;
      best = best;
      ties = tied_from want best first scores;
      stop = stop_from first scores;
    }

-- the part of candidates that are scanned under a fuel
abbrev pub part_under : Want → ℕ → ℕ → List Candidate → Part
part_under want first fuel candidates = part_of want first (scan candidates fuel)

-- where a part is that of some candidates under a fuel, and one more was scored with the fuel that these left, this is
-- the part of all of them
abbrev pub IsOneMore : Want → Part → Scored → Part → Type 0
IsOneMore want old scored new =
    (fuel : ℕ) (candidates : List Candidate) (next : Candidate) →
    old ≡ part_under want old.first fuel candidates → scored ≡ score next (fuel - old.cost) →
    new ≡ part_under want old.first fuel (candidates ++ next ∷ [])
