use Rattle.std.proofs.Common.{◌≡◌, pos, refl}
use Rattle.std.specs.Ordering.{int_eq}
use Rattle.cbl_operations.specs.Operations.Greatest.{greatest_of}
use Rattle.cbl_operations.specs.Operations.Least.{least_of}
use Rattle.cbl_operations.specs.Places.{IsLeastOf, IsGreatestOf}
use Rattle.cbl_operations.specs.Truth.{is_one}
use Rattle.cbl_operations.proofs.KeyLaws.{keys_law, least_decides, greatest_decides}
use Rattle.std.proofs.lemmas.Bool.Decides.{Decides-int_eq}
use Rattle.cbl_operations.proofs.laws.keys_of_numbers.Goals as goal

pub returns-clause-least : goal.returns-clause-least
returns-clause-least c = λ keys xs key. keys_law (IsLeastOf xs) (λ x. int_eq x (least_of xs)) keys xs _ key (least_decides xs) refl

pub returns-clause-greatest : goal.returns-clause-greatest
returns-clause-greatest c = λ keys xs key. keys_law (IsGreatestOf xs) (λ x. int_eq x (greatest_of xs)) keys xs _ key (greatest_decides xs) refl

pub returns-clause-ones : goal.returns-clause-ones
returns-clause-ones c = λ keys xs key. keys_law (λ x. x ≡ pos 1) is_one keys xs _ key (λ x _. ((Decides-int_eq x (pos 1)).0, (Decides-int_eq x (pos 1)).1)) refl
