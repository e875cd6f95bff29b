-- What a scan gives, and what the meaning of programs keeps of it. A rule of this project.
use Rattle.std.specs.Prelude.{◌≡◌, ℕ, ◌+◌, List, [], ◌∷◌, ◌++◌, Option, Result, Ok, Err}
use Rattle.comet_syntax.specs.declared.tree.expressions.Extreme.{Extreme}
use Rattle.comet_meaning.specs.Outcome.{Outcome, Went}
use Rattle.comet_meaning.specs.Selection.{Rated, Scan, ties_of}
use Rattle.comet_meaning.specs.State.{State}
use Rattle.ls_select.specs.declared.part.Part.{Part}
use Rattle.ls_select.specs.declared.scored.End.{End}
use Rattle.ls_select.specs.declared.scored.End.TheVariants.{Skipped, Kept, Stopped}
use Rattle.ls_select.specs.declared.scored.Scored.{Scored}
use Rattle.run_steps.specs.Does.{Ends}
use Rattle.run_values.specs.declared.stop.Stop.{Stop}
use Rattle.search_forms.specs.Tables.{candidates_seen}
use Rattle.search_forms.specs.declared.scanning.Scanned.{Scanned}

-- the kept candidates, with one more that ended so, whose number is this one
abbrev pub rated_by : ℕ → End → List Rated → List Rated
rated_by n Skipped xs = xs
rated_by n (Kept key) xs = xs ++ record { number = n; key = key } ∷ []
rated_by n (Stopped stop) xs = xs

-- the kept ones behind one that ended so, whose number is this one
abbrev pub kept_with : ℕ → End → List Rated → List Rated
kept_with n Skipped xs = xs
kept_with n (Kept key) xs = record { number = n; key = key } ∷ xs
kept_with n (Stopped stop) xs = xs

-- the kept ones of candidates that were scored so, the first of which has this number
abbrev pub kept_of : ℕ → List Scored → List Rated
kept_of n [] = []
kept_of n (s ∷ ss) = kept_with n s.end (kept_of (n + 1) ss)

-- a part has the ties of the candidates that are kept
abbrev pub ScansTo : Option Extreme → Result Part Stop → State → Outcome (List Rated) → Type 0
ScansTo x (Ok part) s o = (kept : List Rated) × (part.ties ≡ ties_of x kept) × (o ≡ Went kept s)
ScansTo x (Err stop) s o = Ends stop s o

-- the same with all candidates
abbrev pub ScansAs : Option Extreme → Result Scanned Stop → State → Outcome Scan → Type 0
ScansAs x (Ok scan) s o = (kept : List Rated) × (scan.part.ties ≡ ties_of x kept) × (o ≡ Went (record { candidates = candidates_seen scan.candidates; kept = kept }) s)
ScansAs x (Err stop) s o = Ends stop s o
