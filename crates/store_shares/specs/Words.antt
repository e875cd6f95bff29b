-- Sets of numbers as words of 64 numbers each, in rising order. A rule of this project.
use Rattle.std.specs.Prelude.{◌≡◌, ℕ, ◌<◌, ◌≤◌, ◌/◌, ◌%◌, ◌&&◌, ◌||◌, ◌+◌, Bool, true, false, List, length, nat_eq, slice_index_or, take}
use Rattle.std.specs.Int.{bit_at}
use Rattle.std.specs.List.{list_any}
use Rattle.store_shares.specs.declared.words.Word.{Word}
use Rattle.store_shares.specs.declared.words.Joining.{Joining}

-- whether a number is one of a word's
unfoldable pub word_has : Word → ℕ → Bool
word_has w k = nat_eq w.index (k / 64) && nat_eq (bit_at w.bits (k % 64)) 1

-- whether a number is in a set
abbrev pub has : List Word → ℕ → Bool
has words k = list_any (λ w. word_has w k) words

abbrev pub word_at : List Word → ℕ → Word
word_at words i = slice_index_or words i (record { index = 0; bits = 0 })

abbrev pub IsRising : List Word → Type 0
IsRising words = (i j : ℕ) → i < j → j < length words → (word_at words i).index < (word_at words j).index

-- no number is of a later word
abbrev pub IsUpTo : List Word → ℕ → Type 0
IsUpTo words n = (i : ℕ) → i < length words → (word_at words i).index ≤ n

-- ---- the next number
-- no bit is set from this one on
abbrev pub HasNone : ℕ → ℕ → Type 0
HasNone bits from = (b : ℕ) → from ≤ b → b < 64 → bit_at bits b ≡ 0

abbrev pub IsLowest : ℕ → ℕ → ℕ → Type 0
IsLowest bits from bit = (from ≤ bit) × (bit < 64) × (bit_at bits bit ≡ 1) × ((b : ℕ) → from ≤ b → b < bit → bit_at bits b ≡ 0)

-- a word has none from one number on and below another
abbrev pub HasNoneIn : Word → ℕ → ℕ → Type 0
HasNoneIn w from limit = (k : ℕ) → from ≤ k → k < limit → word_has w k ≡ false

abbrev pub IsNextIn : Word → ℕ → ℕ → ℕ → Type 0
IsNextIn w from limit number = (from ≤ number) × (number < limit) × (word_has w number ≡ true) × HasNoneIn w from number

-- the least of those from one number on and below another that pass a test, and the other one where there is none
pub record IsNext (test : ℕ → Bool) (from limit number : ℕ) : Type 0 where
  pub above : from ≤ number
  pub within : number ≤ limit
  pub none : (k : ℕ) → from ≤ k → k < number → test k ≡ false
  pub some : number < limit → test number ≡ true

-- ---- two sets are joined
-- so many of the words of both are taken, in order
pub record IsJoining (first second : List Word) (turn : ℕ) (state : Joining) : Type 0 where
  pub rising : IsRising state.words.items
  pub has_both : (k : ℕ) → has state.words.items k ≡ (has (take state.left first) k || has (take state.right second) k)
  pub up_left : (i : ℕ) → state.left ≤ i → i < length first → IsUpTo state.words.items (word_at first i).index
  pub up_right : (i : ℕ) → state.right ≤ i → i < length second → IsUpTo state.words.items (word_at second i).index
  pub within_left : state.left ≤ length first
  pub within_right : state.right ≤ length second
  pub count : state.left + state.right ≡ turn
