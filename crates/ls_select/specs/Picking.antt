-- One of some candidates is chosen: none where there is none, and the only one where there is one, without a draw; else
-- that at a share of their count, by one word. A rule of this project.
use Rattle.std.specs.Prelude.{ℕ, List, [], ◌∷◌, Option, Some, None, length, slice_get}
use Rattle.rand_pcg.specs.Lcg.{Lcg}
use Rattle.ls_select.specs.Words.{after_word, share_of}

-- the chosen one, and the words that are left
abbrev pub picked : List ℕ → Lcg → Option ℕ × Lcg
picked [] d = (None, d)
picked (x ∷ []) d = (Some x, d)
picked (x ∷ y ∷ rest) d =
    (slice_get (x ∷ y ∷ rest) (share_of (length (x ∷ y ∷ rest)) d), after_word d)
