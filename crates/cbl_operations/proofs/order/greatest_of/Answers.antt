use Rattle.std.proofs.Common.{w64, FitsSigned, ap, ◌∙◌, rules}
use Rattle.std.specs.Int.{int_max}
use Rattle.std.specs.Prelude.{fold}
use Rattle.std.proofs.lemmas.Int.{to_z-of_z}
use Rattle.cbl_operations.proofs.LeastLemmas.{walk_max}
use Rattle.cbl_operations.proofs.order.greatest_of.Goals as goal

pub returns : goal.returns
returns c =
    let xs = c.args.numbers.now in
    let first_fits : FitsSigned w64 c.first_of.result = search rules in
    let fits : FitsSigned w64 c.raised.result = search rules in
    to_z-of_z w64 c.raised.result fits ∙ simp (to_z-of_z w64 c.first_of.result first_fits) at c.raised.ensures ∙ ap (λ z. fold int_max z xs) c.first_of.ensures ∙ walk_max xs
