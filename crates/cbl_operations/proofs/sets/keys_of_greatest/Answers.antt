use Rattle.std.proofs.Common.{ℤ, w64, FitsSigned, ap, ◌∙◌, rules}
use Rattle.std.specs.Ordering.{int_eq}
use Rattle.std.proofs.lemmas.Int.{to_z-of_z}
use Rattle.cbl_operations.specs.SetForms.{keys_where}
use Rattle.cbl_operations.proofs.GivenSets.{given_set}
use Rattle.cbl_operations.proofs.sets.keys_of_greatest.Goals as goal

pub returns : goal.returns
returns c =
    let keys = c.args.keys.now in
    let fits : FitsSigned w64 c.greatest_of.result = search rules in
    let best = to_z-of_z w64 c.greatest_of.result fits ∙ c.greatest_of.ensures in
    let found =
    c.deref.ensures.value ∙ c.in_ok-found.ensures
    ∙ ap (λ (b : ℤ). keys_where (λ x. int_eq x b) keys c.args.inputs.now) best in
    given_set c.from_slice.result _ _ c.from_slice.ensures found
