-- What holds between any two steps on the word, which counts the draws, and what each step tells.
use Rattle.std.specs.Prelude.{◌≡◌, ℕ, ◌+◌, ◌-◌, ◌<◌, ◌≤◌, true, false, cond, ◌||◌, [], ◌∷◌, ◌++◌, length, min}
use mathlib.Core.Option.{some}
use lib.ListN.{get_elem?}
use Rattle.atomic_table.specs.Table.{State, Me, Step}
use Rattle.iter_claim.specs.declared.view.View.{View}
use Rattle.iter_claim.specs.Numbers.{total, times, AllLess}

-- how many seats there can be, 2^32
abbrev pub all_seats : ℕ
all_seats = 4294967296

-- how often a view drew a number
abbrev pub times_drawn : ℕ → View → ℕ
times_drawn x v = times x v.drawn

-- how many numbers a view drew
abbrev pub count_drawn : View → ℕ
count_drawn v = length v.drawn

-- how many of a view's steps found no number left
abbrev pub count_nones : View → ℕ
count_nones v = v.nones

-- how many seats may still come from a view
abbrev pub count_seats : View → ℕ
count_seats v = v.seats

-- how many seats may still come from a view and still step on the word
abbrev pub count_drawers : View → ℕ
count_drawers v = cond v.stopped 0 v.seats

-- the first seat's view of n numbers
abbrev pub first_view : ℕ → View
first_view n = record { count = n; drawn = []; nones = 0; seats = all_seats; stopped = false }

-- the view of a seat that was joined into another
abbrev pub spent : View
spent = record { count = 0; drawn = []; nones = 0; seats = 0; stopped = true }

-- what a seat knows once another was split from it
abbrev pub kept_half : View → View
kept_half v = record { count = v.count; drawn = v.drawn; nones = v.nones; seats = v.seats - 1; stopped = v.stopped }

-- what the new seat knows
abbrev pub given_half : View → View
given_half v = record { count = v.count; drawn = []; nones = 0; seats = 1; stopped = v.stopped }

-- what a seat knows once it took in another
abbrev pub both : View → View → View
both v w = record { count = v.count; drawn = v.drawn ++ w.drawn; nones = v.nones + w.nones; seats = v.seats + w.seats; stopped = v.stopped || w.stopped }

-- what a seat knows once it drew k
abbrev pub with_drawn : View → ℕ → View
with_drawn v k = record { count = v.count; drawn = v.drawn ++ k ∷ []; nones = v.nones; seats = v.seats; stopped = v.stopped }

-- what a seat knows once it found no number left
abbrev pub with_none : View → View
with_none v = record { count = v.count; drawn = v.drawn; nones = v.nones + 1; seats = v.seats; stopped = true }

-- a view agrees with n numbers and a word that counts this many draws
pub record Fits (n draws : ℕ) (v : View) : Type 0 where
  pub count : 0 < v.seats → v.count ≡ n
  pub less : AllLess draws v.drawn
  pub empty : v.seats ≡ 0 → v.drawn ≡ []
  pub stopped : 0 < v.seats → v.stopped ≡ true → n ≤ draws

-- The word counts the draws. Each number below n that it has passed was drawn once, and no other number.
-- It is at most n and the draws that found nothing, which are so few that it never overflows.
pub record Kept (n : ℕ) (t : State (Unit {0}) View) : Type 0 where
  pub draws : ℕ
  pub words : t.words ≡ draws ∷ []
  pub small : n < all_seats
  pub most : draws ≤ n + total count_nones t.views
  pub room : total count_nones t.views + total count_drawers t.views ≤ all_seats
  pub seats : total count_seats t.views ≡ all_seats
  pub each : (i : ℕ) (v : View) → get_elem? t.views i ≡ some v → Fits n draws v
  pub drawn : total count_drawn t.views ≡ min draws n
  pub once : (x : ℕ) → (x < n → x < draws → total (times_drawn x) t.views ≡ 1) × (n ≤ x → total (times_drawn x) t.views ≡ 0) × (draws ≤ x → total (times_drawn x) t.views ≡ 0)

-- a draw found a number above all that the seat has drawn, or found none left
abbrev pub draw_tells : Step (Unit {0}) → Me (Unit {0}) View → ℕ → Me (Unit {0}) View → Type 0
draw_tells s v k w = (w.1 ≡ v.1) × (k < v.0.count → (w.0 ≡ with_drawn v.0 k) × AllLess k v.0.drawn) × (v.0.count ≤ k → w.0 ≡ with_none v.0)
