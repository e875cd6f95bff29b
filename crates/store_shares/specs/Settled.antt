-- The sets of the variables that are found so far, each from its own and those of its users. A rule of this project.
use Rattle.std.specs.Prelude.{◌≡◌, ℕ, ◌<◌, Bool, true, false, List, [], Option, Some, None, slice_get, Vec}
use Rattle.std.specs.declared.alloc.Global.{Global}
use Rattle.std.specs.List.{Contains}
use Rattle.store_shares.specs.Words.{has, IsRising}
use Rattle.store_shares.specs.declared.words.Word.{Word}

abbrev pub words_there : Option (Option (Vec Word Global)) → List Word
words_there (Some (Some words)) = words.items
words_there (Some None) = []
words_there None = []

-- the set of a variable, empty where it isn't known
abbrev pub known_words : List (Option (Vec Word Global)) → ℕ → List Word
known_words sets x = words_there (slice_get sets x)

abbrev pub is_there : Option (Option (Vec Word Global)) → Bool
is_there (Some (Some words)) = true
is_there (Some None) = false
is_there None = false

abbrev pub is_known : List (Option (Vec Word Global)) → ℕ → Bool
is_known sets x = is_there (slice_get sets x)

-- what is known is right
pub record AreRight (all : ℕ → ℕ → Bool) (sets : List (Option (Vec Word Global))) : Type 0 where
  pub right : (x k : ℕ) → is_known sets x ≡ true → has (known_words sets x) k ≡ all x k

-- the numbers of each set are in order
abbrev pub AreRising : List (Option (Vec Word Global)) → Type 0
AreRising sets = (x : ℕ) → IsRising (known_words sets x)

-- what is known stays known
abbrev pub KeepsKnown : List (Option (Vec Word Global)) → List (Option (Vec Word Global)) → Type 0
KeepsKnown old new = (x : ℕ) → is_known old x ≡ true → is_known new x ≡ true

-- each variable ranks below its users
pub record AreRanked (users : ℕ → List ℕ) (count : ℕ) : Type 0 where
  pub rank : ℕ → ℕ
  pub within : (x : ℕ) → x < count → rank x < count
  pub falls : (x u : ℕ) → Contains (users x) u → rank u < rank x
  pub low : (x u : ℕ) → Contains (users x) u → u < count

-- the variables that rank below a number are known
abbrev pub IsKnownBelow : (ℕ → ℕ) → ℕ → ℕ → List (Option (Vec Word Global)) → Type 0
IsKnownBelow rank count k sets = (x : ℕ) → x < count → rank x < k → is_known sets x ≡ true

-- these are the sets of all variables
pub record AreSets (all : ℕ → ℕ → Bool) (count : ℕ) (sets : List (Option (Vec Word Global))) : Type 0 where
  pub each : (x k : ℕ) → x < count → has (known_words sets x) k ≡ all x k
  pub rising : AreRising sets
