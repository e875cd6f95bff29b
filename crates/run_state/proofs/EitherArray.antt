-- What is asked of an array that isn't one of variables is asked of its numbers.
use Rattle.std.proofs.Common.{◌≡◌, ℕ, ℤ, pos, length, refl}
use Rattle.cbl_base.specs.Counts.{count_of}
use Rattle.cbl_base.specs.declared.place.Place.{Place}
use Rattle.comet_meaning.specs.State.{State}
use Rattle.comet_meaning.specs.Outcome.{Went}
use Rattle.comet_meaning.specs.Cells.{cells, cells_of, cells_extent, extent_of, size_in, cell_in, number_at}
use Rattle.comet_meaning.specs.Taking.{read_array}
use Rattle.comet_meaning.specs.Printing.{cells_text}
use Rattle.run_values.specs.Views.{value_seen}
use Rattle.run_values.specs.declared.values.Value.{Value}
use Rattle.run_values.specs.declared.values.Value.TheVariants.{Variables}
use Rattle.run_state.specs.Acts.{numbers_read, count_read, text_read}

-- the value is no array of variables
abbrev pub IsOther : Value → Type 0
IsOther x = (n : ℕ) → x ≡ Variables n → ⊥

pub other_extent : (s : State) (x : Value) → IsOther x → extent_of s (value_seen x) ≡ cells_extent (cells_of s (value_seen x))
other_extent s (Variables n) h = absurd (h n refl)
other_extent s x h = refl

pub other_size : (s : State) (x : Value) → IsOther x → size_in s (value_seen x) ≡ length (cells_of s (value_seen x)).numbers
other_size s (Variables n) h = absurd (h n refl)
other_size s x h = refl

pub other_cell : (s : State) (x : Value) (k : ℕ) → IsOther x → cell_in s (value_seen x) k ≡ number_at (cells_of s (value_seen x)) k
other_cell s (Variables n) k h = absurd (h n refl)
other_cell s x k h = refl

pub other_read : (at : Place) (s : State) (x : Value) → IsOther x → numbers_read at (value_seen x) s ≡ Went (cells_of s (value_seen x)).numbers s
unfolding read_array cells
other_read at s (Variables n) h = absurd (h n refl)
other_read at s x h = refl

pub other_count : (at : Place) (s : State) (x : Value) (z : ℤ) → IsOther x → count_read at (value_seen x) z s ≡ Went (pos (count_of z (cells_of s (value_seen x)).numbers)) s
unfolding read_array cells
other_count at s (Variables n) z h = absurd (h n refl)
other_count at s x z h = refl

pub other_text : (at : Place) (s : State) (x : Value) → IsOther x → text_read at (value_seen x) s ≡ Went (cells_text (cells_of s (value_seen x))) s
unfolding cells
other_text at s (Variables n) h = absurd (h n refl)
other_text at s x h = refl
