-- The least report: what a monitor's best is after a history, whatever order the reports came in. A rule of
-- this project.
use Rattle.std.specs.Prelude.{◌≡◌, ◌==◌, ℕ, ◌<ℤ◌, ◌≤ℤ◌, ◌⊎◌, cond, Option, List, [], ◌∷◌, ◌++◌, slice_get, MatchOption}
use Rattle.std.specs.Option.{option_and_then, option_to_list}
use Rattle.best_turn.specs.declared.replays.Entry.{Entry}
use Rattle.best_monitor.specs.declared.monitor.Best.{Best}
use Rattle.best_monitor.specs.declared.monitor.Monitor.{Monitor}
use Rattle.best_monitor.specs.declared.request.Request.{Request}
use Rattle.best_monitor.specs.declared.request.Request.TheVariants.{Report}
use Rattle.best_monitor.specs.declared.request.Reply.{Reply}

-- the best that a monitor of a board has
abbrev pub best_of : List Monitor → ℕ → Option Best
best_of board m = option_and_then (λ monitor. monitor.best) (slice_get board m)

-- what a request reports of a monitor, if it does
abbrev pub report_of : ℕ → Request → List Best
report_of m (Report n value second list) = cond (n == m) (record { value = value; second = second; list = list } ∷ []) []
report_of m _ = []

-- what a history reports of a monitor, in order
abbrev pub reports_of : ℕ → List (Entry Request Reply) → List Best
reports_of m [] = []
reports_of m (e ∷ es) = report_of m e.request ++ reports_of m es

-- the pair of value and second value is less: its value, or at equal values its second value
abbrev pub IsLess : Best → Best → Type 0
IsLess a b = (a.value <ℤ b.value) ⊎ ((a.value ≡ b.value) × (a.second <ℤ b.second))

-- the pair is less or equal
abbrev pub IsAtMost : Best → Best → Type 0
IsAtMost a b = (a.value <ℤ b.value) ⊎ ((a.value ≡ b.value) × (a.second ≤ℤ b.second))

-- all of these have a greater pair
abbrev pub AllGreater : Best → List Best → Type 0
AllGreater best [] = Unit {0}
AllGreater best (b ∷ bs) = IsLess best b × AllGreater best bs

-- none of these has a lesser pair
abbrev pub NoneLess : Best → List Best → Type 0
NoneLess best [] = Unit {0}
NoneLess best (b ∷ bs) = IsAtMost best b × NoneLess best bs

-- this one has the least pair of all, and of those that have it is the first
pub record IsFirstLeast (all : List Best) (best : Best) : Type 0 where
  pub before : List Best
  pub after : List Best
  pub stands : all ≡ before ++ best ∷ after
  pub first : AllGreater best before
  pub least : NoneLess best after

-- this is the first of the least ones, or there are none
abbrev pub IsLeastOf : List Best → Option Best → Type 0
IsLeastOf all best = MatchOption best (all ≡ []) (IsFirstLeast all)

-- what a monitor had on a board, and what a history reports of it, in order
abbrev pub offers_of : List Monitor → List (Entry Request Reply) → ℕ → List Best
offers_of board entries m = option_to_list (best_of board m) ++ reports_of m entries
