use Rattle.std.specs.Prelude.{◌≡◌, ◌≤◌, ◌+◌, drop}
use Rattle.std.specs.List.{fold}
use Rattle.comet_syntax.specs.Place.{next_place}
use Rattle.comet_syntax.proofs.lexer.place_behind.Given as goal

-- the place so far leads on to the place behind all, and is no further than there are bytes
abbrev pub invariant-loop-byte : goal.invariant-loop-byte
invariant-loop-byte l = record {
  leads : fold next_place l.place (drop l.byte-index l.bytes) ≡ fold next_place l.fn.place l.bytes;
  line : l.place.line ≤ l.fn.place.line + l.byte-index;
  column : l.place.col ≤ l.fn.place.col + l.byte-index;
}
