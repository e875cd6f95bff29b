-- Generators in a row run by now exactly where each one does.
use Rattle.std.proofs.Common.{◌≡◌, refl, ap, List, [], ◌∷◌, ◌&&◌}
use Rattle.std.specs.List.{list_all}
use Rattle.checked_tree.specs.Shape.{Shape, rows}
use Rattle.comet_meaning.specs.Built.{is_built_expression}

pub built_rows : (xs : List Shape) → is_built_expression (rows xs) ≡ list_all is_built_expression xs
built_rows [] = refl
built_rows (x ∷ xs) = ap (λ b. is_built_expression x && b) (built_rows xs)
