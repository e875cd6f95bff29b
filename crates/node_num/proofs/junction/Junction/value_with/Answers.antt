use Rattle.std.proofs.Common.{◌≡◌, w64, rules, arith, length}
use Rattle.std.specs.Prelude.{FitsSigned}
use Rattle.std.proofs.lemmas.Int.{to_z-of_z}
use Rattle.node_num.proofs.TruthCounts.{and_value, or_value}
use Rattle.node_num.proofs.junction.Junction.value_with.Goals as goal

pub returns-in-And : goal.returns-in-And
returns-in-And c xs long e =
    let fits : FitsSigned w64 c.truth_value.result = search rules in
    let all : length xs ≡ c.len.result = omega (arith, long, c.len.ensures, c.args.self.now.numbers.ok.0) in
    rw (to_z-of_z w64 c.truth_value.result fits) (and_value _ xs c.args.truths c.len.result c.truth_value.result c.in-And.is e all c.truth_value.ensures)

pub returns-in-Or : goal.returns-in-Or
returns-in-Or c xs long e =
    let fits : FitsSigned w64 c.truth_value-in-Or.result = search rules in
    rw (to_z-of_z w64 c.truth_value-in-Or.result fits) (or_value _ xs c.args.truths c.truth_value-in-Or.result c.in-Or.is e c.truth_value-in-Or.ensures)
