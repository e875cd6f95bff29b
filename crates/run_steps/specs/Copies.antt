-- The kind whose names have an array of their own, which is copied where they are declared. From the language.
use Rattle.std.specs.Prelude.{Bool, true, false}
use Rattle.checked_tree.specs.declared.kind.Kind.{Kind}
use Rattle.checked_tree.specs.declared.kind.Kind.TheVariants.{Array}

abbrev pub is_array : Kind → Bool
is_array Array = true
is_array k = false
