-- Numbers of which each may stand several times: how often each stands there, and the set of them. A rule
-- of this project.
use Rattle.std.specs.Prelude.{◌≡◌, ℕ, ℤ, Bool, ◌+◌, List, if◌then◌else◌}
use Rattle.std.specs.Ordering.{int_eq}
use Rattle.cbl_base.specs.Counts.{count_of}
use Rattle.cbl_base.specs.Sets.{set_of}
use Rattle.cbl_base.specs.declared.input.Input.TheVariants.{Set}
use Rattle.node_base.specs.KeptCounts.{times_kept}
use Rattle.node_set.specs.declared.key_bag.KeyBag.{KeyBag}

-- it has the counts of these numbers and the set of them
pub record IsBagOf (bag : KeyBag) (xs : List ℤ) : Type 0 where
  pub counts : (q : ℤ) → times_kept bag.counts q ≡ count_of q xs
  pub kept : bag.kept ≡ Set (set_of xs)

-- 1 at the number itself where it counts, 0 else
abbrev pub one_where : Bool → ℤ → ℤ → ℕ
one_where counts v q = if counts then (if int_eq v q then 1 else 0) else 0

-- the same numbers, but for one that stood among the first if `was` and stands among the last if `is`
abbrev pub IsChangedBy : ℤ → Bool → Bool → List ℤ → List ℤ → Type 0
IsChangedBy v was is xs ys = (q : ℤ) → count_of q ys + one_where was v q ≡ count_of q xs + one_where is v q
