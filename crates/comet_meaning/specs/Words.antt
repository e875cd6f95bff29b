-- Random words: those of the generator PCG XSL RR 128/64 for a seed and a stream, one after the other. The main program
-- has stream 0. From the language, with the generator's own definition.
use Rattle.std.specs.Prelude.{ℕ, ◌*◌, ◌/◌, ◌^◌}
use Rattle.rand_pcg.specs.Lcg.{Lcg, advance, started, increment_of}
use Rattle.rand_pcg.specs.Pcg.{multiplier_128, pcg64}

-- the generator of a seed and a stream, and the same behind so many words
abbrev pub words_of : ℕ → ℕ → Lcg
words_of seed stream = started 128 multiplier_128 seed (increment_of 128 stream)

abbrev pub words_behind : ℕ → ℕ → ℕ → Lcg
words_behind seed stream n = advance 128 multiplier_128 n (words_of seed stream)

-- the word that a generator gives next, and the generator behind it
abbrev pub word_of : Lcg → ℕ
word_of g = (pcg64 g).0

abbrev pub behind_word : Lcg → Lcg
behind_word g = (pcg64 g).1

-- the word of a stream at a position from 0
abbrev pub word : ℕ → ℕ → ℕ → ℕ
word seed stream n = word_of (words_behind seed stream n)

abbrev pub main_stream : ℕ
main_stream = 0

-- the share of a word: a number below `n`
unfoldable pub share : ℕ → ℕ → ℕ
share n w = w * n / 2 ^ 64
