-- Whether an input is a number. A rule of this project.
use Rattle.std.specs.Prelude.{Bool, true, false}
use Rattle.cbl_base.specs.declared.input.Input.{Input}
use Rattle.cbl_base.specs.declared.input.Input.TheVariants.{Int, Set}

abbrev pub is_number : Input → Bool
is_number (Int _) = true
is_number (Set _) = false
