-- A list as a `Vec` holds it, wherever that lies. No `Vec` is as long as 2^63, so a longer list is cut there. A rule of
-- this project.
use Rattle.std.specs.Prelude.{◌≡◌, ℕ, ◌^◌, ◌<◌, List, length, take, Vec}
use Rattle.std.specs.declared.alloc.Global.{Global}
use Rattle.std.proofs.Common.{length-take, min, refl, arith}
use denote.RawPtr.{null_ptr}

-- how long a `Vec` may be
abbrev pub most_items : ℕ
most_items = 9223372036854775807

abbrev pub heap : Global
heap = record { memory = record { seal = tt } }

pub no_more : {A : Type 0} (xs : List A) → length (take most_items xs) < 2 ^ 63
no_more xs = let cut : length (take most_items xs) ≡ min most_items (length xs) = length-take most_items xs in omega arith

abbrev pub vec_of : {A : Type 0} → List A → Vec A Global
vec_of xs = record {
  ptr = null_ptr;
  len = length (take most_items xs);
  cap = length (take most_items xs);
  alloc = heap;
  items = take most_items xs;
  ok = (refl, omega arith);
  small = no_more xs;
}
