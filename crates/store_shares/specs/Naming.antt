-- Numbered lists of variables, kept as a set of numbers for each variable: those of the lists that name it. A rule of
-- this project.
use Rattle.std.specs.Prelude.{◌≡◌, ℕ, ◌<◌, ◌/◌, ◌||◌, ◌&&◌, List, [], length, nat_eq, slice_get, Some, None, Option, Vec}
use Rattle.std.specs.List.{list_any}
use Rattle.std.specs.declared.alloc.Global.{Global}
use Rattle.store_shares.specs.Closing.{names_in}
use Rattle.store_shares.specs.Words.{has, IsRising, IsUpTo}
use Rattle.store_shares.specs.declared.naming.Naming.{Naming}
use Rattle.store_shares.specs.declared.words.Word.{Word}

abbrev pub words_in : Option (Vec Word Global) → List Word
words_in (Some words) = words.items
words_in None = []

-- the set of a variable, empty for a number that no variable has
abbrev pub words_of : List (Vec Word Global) → ℕ → List Word
words_of sets x = words_in (slice_get sets x)

-- a number is put into the sets of some variables
pub record IsPut (old new : List (Vec Word Global)) (number : ℕ) (variables : List ℕ) : Type 0 where
  pub width : length new ≡ length old
  pub both : (x k : ℕ) → x < length old → has (words_of new x) k ≡ (has (words_of old x) k || (list_any (λ d. nat_eq d x) variables && nat_eq k number))
  pub rising : (x : ℕ) → IsRising (words_of old x) → IsUpTo (words_of old x) (number / 64) → IsRising (words_of new x)
  pub up : (x : ℕ) → IsUpTo (words_of old x) (number / 64) → IsUpTo (words_of new x) (number / 64)

-- the sets are those of these lists
pub record IsNaming (variables : ℕ) (naming : Naming) (lists : List (List ℕ)) : Type 0 where
  pub width : length naming.sets.items ≡ variables
  pub count : naming.count ≡ length lists
  pub named : (x k : ℕ) → x < variables → has (words_of naming.sets.items x) k ≡ names_in lists x k
  pub rising : (x : ℕ) → IsRising (words_of naming.sets.items x)
  pub up : (x : ℕ) → IsUpTo (words_of naming.sets.items x) (naming.count / 64)
