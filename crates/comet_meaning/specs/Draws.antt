-- Draws: each takes one word of the running stream. A `UniformDistribution` is the range that its numbers come from, and
-- `get` draws a number of it. From the language.
use Rattle.std.specs.Prelude.{ℕ, pos, ◌+ℤ◌, nat_lt}
use Rattle.cbl_base.specs.declared.place.Place.{Place}
use Rattle.cbl_base.specs.declared.faults.RunFault.TheVariants.{EmptyRange}
use Rattle.comet_meaning.specs.Values.{Value, Nothing, Number, Distribution, Bounds, size_of}
use Rattle.comet_meaning.specs.Words.{word_of, behind_word, share}
use Rattle.comet_meaning.specs.Search.{Search}
use Rattle.comet_meaning.specs.Outcome.{Went, Act, ◌>>=◌, give, unless}

abbrev pub without_word : Search → Search
without_word x = record x { words = behind_word x.words }

-- the next word
unfoldable pub next_word : Act ℕ
next_word = λ s. Went (word_of s.search.words) (record s { search = without_word s.search })

-- a number below `n`, which is positive
unfoldable pub below : ℕ → Act ℕ
below n = next_word >>= λ w. give (share n w)

-- a number of a range, and a fault where it is empty; one word is taken also where there is one number
abbrev pub drawn_of : Place → Bounds → Act Value
drawn_of at b = do
  _ ← unless (nat_lt 0 (size_of b)) at EmptyRange
  k ← below (size_of b)
  give (Number (b.low +ℤ pos k))

unfoldable pub draw : Place → Value → Act Value
draw at (Distribution b) = drawn_of at b
draw at v = give Nothing
