-- Candidates, as the code keeps them: the values of all, one candidate behind the other. A rule of this project.
use Rattle.std.specs.Prelude.{◌≡◌, ◌≤◌, ℕ, zero, suc, ◌*◌, ℤ, List, [], ◌∷◌, length, take, drop}
use Rattle.comet_meaning.specs.Candidates.{Candidate}
use Rattle.comet_meaning.specs.Limits.{most_candidates}
use Rattle.search_forms.specs.declared.candidates.Candidates.{Candidates}

-- so many rows of so many numbers
abbrev pub rows_of : ℕ → ℕ → List ℤ → List Candidate
rows_of width zero xs = []
rows_of width (suc n) xs = take width xs ∷ rows_of width n (drop width xs)

abbrev pub candidates_seen : Candidates → List Candidate
candidates_seen c = rows_of c.width c.count c.numbers.items

-- each candidate has as many values as there are generators, and there are no more than there may be
pub record AreRows (c : Candidates) (width : ℕ) : Type 0 where
  pub wide : c.width ≡ width
  pub whole : length c.numbers.items ≡ c.count * c.width
  pub few : c.count ≤ most_candidates
