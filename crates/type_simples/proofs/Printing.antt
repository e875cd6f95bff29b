-- Tests of lists of what is printed.
use Rattle.std.specs.Prelude.{◌≡◌, refl, ◌&&◌, List, [], ◌∷◌, map}
use Rattle.std.specs.List.{list_all}
use Rattle.std.proofs.Common.{ap}
use Rattle.checked_tree.specs.declared.statements.Printed.{Printed}
use Rattle.checked_tree.specs.Actions.{printed_of}
use Rattle.type_simples.specs.Simples.{is_shown, all_shown}

pub all_shown_seen : (xs : List Printed) → all_shown (map printed_of xs) ≡ list_all (λ x. is_shown (printed_of x)) xs
all_shown_seen [] = refl
all_shown_seen (x ∷ xs) = ap (λ b. is_shown (printed_of x) && b) (all_shown_seen xs)
