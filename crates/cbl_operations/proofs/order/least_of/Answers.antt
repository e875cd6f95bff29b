use Rattle.std.proofs.Common.{w64, FitsSigned, ap, ◌∙◌, rules}
use Rattle.std.specs.Int.{int_min}
use Rattle.std.specs.Prelude.{fold}
use Rattle.std.proofs.lemmas.Int.{to_z-of_z}
use Rattle.cbl_operations.proofs.LeastLemmas.{walk_min}
use Rattle.cbl_operations.proofs.order.least_of.Goals as goal

pub returns : goal.returns
returns c =
    let xs = c.args.numbers.now in
    let first_fits : FitsSigned w64 c.first_of.result = search rules in
    let fits : FitsSigned w64 c.lowered.result = search rules in
    to_z-of_z w64 c.lowered.result fits ∙ simp (to_z-of_z w64 c.first_of.result first_fits) at c.lowered.ensures ∙ ap (λ z. fold int_min z xs) c.first_of.ensures ∙ walk_min xs
