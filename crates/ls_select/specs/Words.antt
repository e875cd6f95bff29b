-- Random words: the successive outputs of PCG XSL RR 128/64 (O'Neill, "PCG: a family of simple fast space-efficient
-- statistically good algorithms for random number generation"), started as its reference code does from a state, here
-- the seed, and a stream.
use Rattle.std.specs.Prelude.{ℕ, ◌*◌, ◌/◌, ◌^◌}
use Rattle.rand_pcg.specs.Lcg.{Lcg, increment_of, started}
use Rattle.rand_pcg.specs.Pcg.{multiplier_128, pcg64}

-- all words of a seed and a stream
abbrev pub draws_of : ℕ → ℕ → Lcg
draws_of seed stream = started 128 multiplier_128 seed (increment_of 128 stream)

-- the next word
abbrev pub word_of : Lcg → ℕ
word_of d = (pcg64 d).0

-- the words behind the next one
abbrev pub after_word : Lcg → Lcg
after_word d = (pcg64 d).1

-- the share of n that the next word is of 2 ^ 64, rounded down. A rule of this project
abbrev pub share_of : ℕ → Lcg → ℕ
share_of n d = word_of d * n / 2 ^ 64
