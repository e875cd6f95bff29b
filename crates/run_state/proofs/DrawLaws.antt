-- A number of a range is drawn.
use Rattle.std.proofs.Common.{◌≡◌, ℕ, ℤ, pos, ◌+ℤ◌, ◌≤ℤ◌, ◌<◌, Bool, true, false, refl, sym, ap, ◌∙◌, subst, arith, w64, to_z, of_z, SFits}
use Rattle.std.proofs.lemmas.Bool.{lt-ltb}
use Rattle.std.proofs.lemmas.Int.{ints}
use Rattle.std.specs.Int.{w128}
use Rattle.std.specs.Prelude.{nat_lt}
use Rattle.cbl_base.specs.declared.place.Place.{Place}
use Rattle.cbl_base.specs.declared.faults.RunFault.TheVariants.{EmptyRange}
use Rattle.comet_meaning.specs.Draws.{below, drawn_of, next_word, without_word}
use Rattle.comet_meaning.specs.Outcome.{Went, ◌>>=◌, give, unless}
use Rattle.comet_meaning.specs.Search.{Search}
use Rattle.comet_meaning.specs.State.{State}
use Rattle.comet_meaning.specs.Values.{Bounds, Number, size_of}
use Rattle.comet_meaning.specs.Words.{share, word_of}

drawn_where : (at : Place) (low : ℤ) (n : ℕ) (s : State) (b : Bool) → b ≡ true →
    (unless b at EmptyRange >>= λ _. below n >>= λ k. give (Number (low +ℤ pos k))) s ≡ Went (Number (low +ℤ pos (share n (word_of s.search.words)))) (record s { search = without_word s.search })
unfolding below next_word
drawn_where at low n s true e = refl
drawn_where at low n s false e = absurd cc

pub drawn_as : (at : Place) (b : Bounds) (s : State) (n k : ℕ) (z : ℤ) (y : Search) → n ≡ size_of b → 0 < n → k ≡ share n (word_of s.search.words) → y ≡ without_word s.search → z ≡ b.low +ℤ pos k →
    drawn_of at b s ≡ Went (Number z) (record s { search = y })
drawn_as at b s n k z y is some drawn left sum =
    subst (λ m. (unless (nat_lt 0 m) at EmptyRange >>= λ _. below m >>= λ j. give (Number (b.low +ℤ pos j))) s ≡ Went (Number z) (record s { search = y })) is
    (drawn_where at b.low n s (nat_lt 0 n) (lt-ltb 0 n some)
    ∙ ap (λ (x : Search). Went (Number (b.low +ℤ pos (share n (word_of s.search.words)))) (record s { search = x })) (sym left)
    ∙ ap (λ (j : ℕ). Went (Number (b.low +ℤ pos j)) (record s { search = y })) (sym drawn)
    ∙ ap (λ (w : ℤ). Went (Number w) (record s { search = y })) (sym sum))

-- where a number below the size of a range is added to its low end, it is in the range

drawn_within : (b : Bounds) (k n : ℕ) → n ≡ size_of b → k < n → (b.low +ℤ pos k) ≤ℤ b.up
drawn_within b k n e lt = grind (arith, ints)

pub drawn_cast : (b : Bounds) (k n : ℕ) → SFits w64 b.low → SFits w64 b.up → n ≡ size_of b → k < n →
    to_z w64 (of_z w64 (to_z w128 (of_z w128 (to_z w128 (of_z w128 (to_z w64 (of_z w64 b.low))) +ℤ to_z w128 k)))) ≡ b.low +ℤ pos k
drawn_cast b k n low up e lt = let inside : (b.low +ℤ pos k) ≤ℤ b.up = drawn_within b k n e lt in omega (arith, ints)
