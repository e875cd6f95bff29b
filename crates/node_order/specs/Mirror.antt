-- A number is mirrored to the one as far on the other side of zero and minus one, so that the greatest of
-- some numbers is the mirrored least of the mirrored ones. A rule of this project.
use Rattle.std.specs.Prelude.{ℤ, negsuc, ◌-ℤ◌}
use Rattle.node_base.specs.declared.number_change.NumberChange.{NumberChange}

abbrev pub mirrored : ℤ → ℤ
mirrored x = negsuc 0 -ℤ x

-- the change of a mirrored number
abbrev pub mirrored_change : NumberChange → NumberChange
mirrored_change c = record { place = c.place; old = mirrored c.old; new = mirrored c.new }
