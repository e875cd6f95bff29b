-- The words of a stream, one after the other.
use Rattle.std.proofs.Common.{◌≡◌, refl, ap, ℕ, zero, suc}
use Rattle.rand_pcg.specs.Lcg.{next_state, state_after}
use Rattle.rand_pcg.specs.Pcg.{multiplier_128}
use Rattle.comet_meaning.specs.Words.{words_of, words_behind, behind_word}

one_more : (w m increment n state : ℕ) → next_state w m increment (state_after w m increment n state) ≡ state_after w m increment (suc n) state
unfolding state_after
one_more w m increment zero state = refl
one_more w m increment (suc n) state = one_more w m increment n (next_state w m increment state)

pub words_go_on : (seed stream n : ℕ) → behind_word (words_behind seed stream n) ≡ words_behind seed stream (suc n)
words_go_on seed stream n =
    ap (λ z. record (words_of seed stream) { state = z }) (one_more 128 multiplier_128 (words_of seed stream).increment n (words_of seed stream).state)
