-- The place behind some bytes: line 1 and column 1 behind none, the next line's column 1 behind a line
-- feed, and the next column behind any other byte. A carriage return ends no line. A rule of this
-- project.
use Rattle.std.specs.Prelude.{◌+◌, ◌-◌, ◌==◌, ℕ, List, length, take, if◌then◌else◌}
use Rattle.std.specs.List.{fold}
use Rattle.cbl_base.specs.declared.place.Place.{Place}

abbrev pub first_place : Place
first_place = record { line = 1; col = 1 }

-- the place behind one more byte
abbrev pub next_place : Place → ℕ → Place
next_place place byte = if byte == 10 then record { line = place.line + 1; col = 1 } else record { line = place.line; col = place.col + 1 }

abbrev pub place_behind : List ℕ → Place
place_behind bytes = fold next_place first_place bytes

-- how many bytes of the text stand before its rest
abbrev pub index_of : List ℕ → List ℕ → ℕ
index_of text rest = length text - length rest

-- the place in the text at which its rest begins
abbrev pub place_of : List ℕ → List ℕ → Place
place_of text rest = place_behind (take (index_of text rest) text)
