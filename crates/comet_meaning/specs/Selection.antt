-- Selectors: the candidates are listed, and then each in order costs a unit, is tested, and gets its key. The chosen one
-- is of those that are kept, and have the least or the greatest key where one is asked: one word chooses where there are
-- several, none is taken where there is one or none, and where there is none the body isn't run. From the language.
use Rattle.std.specs.Prelude.{ℕ, suc, ℤ, pos, List, [], ◌∷◌, ◌++◌, length, map, filter, Option, Some, None, slice_get, if◌then◌else◌}
use Rattle.std.specs.Ordering.{int_eq}
use Rattle.cbl_base.specs.declared.place.Place.{Place}
use Rattle.cbl_operations.specs.Operations.Least.{least_of}
use Rattle.cbl_operations.specs.Operations.Greatest.{greatest_of}
use Rattle.comet_syntax.specs.declared.tree.expressions.Extreme.{Extreme}
use Rattle.comet_syntax.specs.declared.tree.expressions.Extreme.TheVariants as extremes
use Rattle.checked_tree.specs.Shape as shapes
use Rattle.checked_tree.specs.Shape.{Shape, Seen, whole, optional}
use Rattle.checked_tree.specs.Tasks.{Work}
use Rattle.comet_meaning.specs.Outcome.{Act, ◌>>=◌, give}
use Rattle.comet_meaning.specs.Cells.{in_scope}
use Rattle.comet_meaning.specs.Levels.{Level, Flow, Next}
use Rattle.comet_meaning.specs.Parts.{condition, number}
use Rattle.comet_meaning.specs.Generators.{bind, generated}
use Rattle.comet_meaning.specs.Draws.{below}
use Rattle.comet_meaning.specs.Candidates.{Candidate, named, candidates_form}

-- the scan

-- a candidate that is kept, by its number from 0, with its key
pub record Rated : Type 0 where
  pub number : ℕ
  pub key : ℤ

-- where no key is asked each has the same one
unfoldable pub key_form : Level → Shape → Act ℤ
key_form l shapes.left_out = give (pos 0)
key_form l e = number l e

-- a candidate whose names have their values is kept, behind those before, if it passes the condition
unfoldable pub rated_form : Level → Shape → Shape → ℕ → List Rated → Act (List Rated)
rated_form l c key n xs = do
  passes ← condition l c
  if passes then (key_form l key >>= λ k. give (xs ++ record { number = n; key = k } ∷ [])) else give xs

-- candidates in order, numbered from here on
unfoldable pub scanned : Level → Place → List Shape → Shape → Shape → ℕ → List Candidate → List Rated → Act (List Rated)
scanned l at gs c key n [] xs = give xs
scanned l at gs c key n (t ∷ ts) xs = generated at (named gs t) (rated_form l c key n xs) >>= scanned l at gs c key (suc n) ts

-- all candidates, and those that are kept
pub record Scan : Type 0 where
  pub candidates : List Candidate
  pub kept : List Rated

-- the names of the generators end with the scan
unfoldable pub scan_form : Level → Place → List Shape → Shape → Shape → Act Scan
scan_form l at gs c key = in_scope (candidates_form l at gs >>= λ ts. scanned l at gs c key 0 ts [] >>= λ xs. give (record { candidates = ts; kept = xs }))

-- the choice

abbrev pub numbers_of : List Rated → List ℕ
numbers_of xs = map (λ x. x.number) xs

-- those whose key is this one
abbrev pub having : ℤ → List Rated → List Rated
having k xs = filter (λ x. int_eq x.key k) xs

abbrev pub keys_of : List Rated → List ℤ
keys_of xs = map (λ x. x.key) xs

-- the candidates among which is chosen
abbrev pub ties_of : Option Extreme → List Rated → List ℕ
ties_of None xs = numbers_of xs
ties_of (Some extremes.Min) xs = numbers_of (having (least_of (keys_of xs)) xs)
ties_of (Some extremes.Max) xs = numbers_of (having (greatest_of (keys_of xs)) xs)

unfoldable pub chosen_of : List ℕ → Act (Option ℕ)
chosen_of [] = give None
chosen_of (n ∷ []) = give (Some n)
chosen_of (n ∷ m ∷ ns) = below (length (n ∷ m ∷ ns)) >>= λ k. give (slice_get (n ∷ m ∷ ns) k)

abbrev pub candidate_at : List Candidate → Option ℕ → Option Candidate
candidate_at ts None = None
candidate_at ts (Some n) = slice_get ts n

unfoldable pub choice_form : Level → Place → Option Extreme → List Shape → Shape → Shape → Act (Option Candidate)
choice_form l at x gs c key = do
  scan ← scan_form l at gs c key
  n ← chosen_of (ties_of x scan.kept)
  give (candidate_at scan.candidates n)

-- the body, with the chosen one's names

abbrev pub with_chosen : Level → List Shape → Work → Option Candidate → Act Flow
with_chosen l gs body None = give Next
with_chosen l gs body (Some t) = bind (named gs t) >>= λ _. l.stmt body

unfoldable pub select_form : Level → Place → List Shape → Option Seen → Work → Act Flow
select_form l at gs c body = choice_form l at None gs (optional whole c) shapes.left_out >>= with_chosen l gs body

unfoldable pub select_by_form : Level → Place → Extreme → List Shape → Option Seen → Seen → Work → Act Flow
select_by_form l at x gs c key body = choice_form l at (Some x) gs (optional whole c) (whole key) >>= with_chosen l gs body
