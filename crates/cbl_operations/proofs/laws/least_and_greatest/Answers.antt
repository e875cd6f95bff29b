use Rattle.std.proofs.Common.{◌≡◌, length, subst}
use Rattle.std.specs.Prelude.{Contains}
use Rattle.std.proofs.lemmas.Bool.{ltb-true}
use Rattle.cbl_operations.specs.Operations.Least.{least_of}
use Rattle.cbl_operations.specs.Operations.Greatest.{greatest_of}
use Rattle.cbl_operations.specs.Places.{IsLeastOf, IsGreatestOf}
use Rattle.cbl_operations.proofs.LeastLaws.{least_is, greatest_is}
use Rattle.cbl_operations.proofs.laws.least_and_greatest.Goals as goal

pub returns-clause-least : goal.returns-clause-least
returns-clause-least c = λ xs v some e.
    let same : least_of xs ≡ v = cc in
    subst (λ w. Contains xs w × IsLeastOf xs w) same (least_is xs (ltb-true 0 (length xs) some))

pub returns-clause-greatest : goal.returns-clause-greatest
returns-clause-greatest c = λ xs v some e.
    let same : greatest_of xs ≡ v = cc in
    subst (λ w. Contains xs w × IsGreatestOf xs w) same (greatest_is xs (ltb-true 0 (length xs) some))
