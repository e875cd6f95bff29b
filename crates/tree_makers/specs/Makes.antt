-- What it means that a function made something.
use Rattle.std.specs.Prelude.{◌≡◌, Result, Ok, Err}
use Rattle.checked_tree.specs.declared.stop.Stop.{Stop}
use Rattle.checked_tree.specs.declared.stop.Stop.TheVariants.{NoMemory}

-- it made this, unless memory ran out
abbrev pub Makes : {X A : Type 0} → (X → A) → Result X Stop → A → Type 0
Makes view (Ok x) a = view x ≡ a
Makes view (Err stop) a = stop ≡ NoMemory
