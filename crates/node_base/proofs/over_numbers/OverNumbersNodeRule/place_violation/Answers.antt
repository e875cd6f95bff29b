use Rattle.std.proofs.Common.{rules, w64}
use Rattle.std.specs.Prelude.{FitsSigned}
use Rattle.std.proofs.lemmas.Int.{to_z-of_z}
use Rattle.cbl_base.proofs.InputLemmas.{numbers_of-as_inputs}
use Rattle.node_base.proofs.ChangeLemmas.{ok_number}
use Rattle.node_base.proofs.over_numbers.OverNumbersNodeRule.place_violation.Goals as goal

pub place_violation-requires-clause-valued : goal.place_violation-requires-clause-valued
place_violation-requires-clause-valued g c = ok_number _ (rw numbers_of-as_inputs at c.requires.valued)

pub returns : goal.returns
returns g c =
    let fits : FitsSigned w64 c.place_violation.result = search rules in
    rw (numbers_of-as_inputs, to_z-of_z w64 c.place_violation.result fits) c.place_violation.ensures
