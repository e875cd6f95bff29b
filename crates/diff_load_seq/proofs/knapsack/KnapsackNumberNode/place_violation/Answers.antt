use Rattle.std.proofs.Common.{◌∙◌, ap, rules, to_z, of_z, pos, w64, get_or, ◌*ℤ◌}
use Rattle.std.specs.Prelude.{FitsSigned}
use Rattle.std.specs.Int.{int_max, int_min}
use Rattle.std.specs.Result.{result_unwrap_or}
use Rattle.std.proofs.lemmas.Int.{to_z-of_z}
use Rattle.std.proofs.lemmas.List.{get_or_default}
use Rattle.cbl_base.specs.Arithmetic.{exact}
use Rattle.cbl_violations.specs.Violations.Knapsack.{part_of_load, knapsack_violations, knapsack_violation_at}
use Rattle.cbl_violations.proofs.FitLemmas.{unwrapped}
use Rattle.cbl_violations.proofs.KnapsackRun.{parts_fit}
use Rattle.diff_load_seq.specs.Products.{above_capacity, products}
use Rattle.diff_load_seq.proofs.PartLemmas.{joined_kept}
use Rattle.diff_load_seq.proofs.ProductLemmas.{above_is}
use Rattle.diff_load_seq.proofs.knapsack.KnapsackNumberNode.place_violation.Goals as goal

pub returns : goal.returns
unfolding knapsack_violation_at
returns c =
    let weights = c.args.self.now.weights in
    let xs = c.args.self.now.numbers.items in
    let capacity = c.args.self.now.capacity in
    let w : FitsSigned w64 (get_or c.as_slice.result.now c.args.place (pos 0)) = search rules in
    let x : FitsSigned w64 c.index.result.now = search rules in
    let read = c.index.ensures ∙ get_or_default c.args.self.now.numbers.items c.args.place c.index.result.now (pos 0) c.requires.within in
    let product = simp (to_z-of_z w64 (get_or c.as_slice.result.now c.args.place (pos 0)) w, to_z-of_z w64 c.index.result.now x) at c.mul.ensures in
    let violations = to_z-of_z w64 c.unwrap_or-violations.result (search rules) ∙ c.unwrap_or-violations.ensures
    ∙ ap (λ r. result_unwrap_or r (pos 0)) (c.above.ensures
    ∙ ap (λ load. above_capacity load c.args.self.now.capacity) (joined_kept c.args.self.now.load (products weights xs) c.requires.settled.1)
    ∙ above_is weights capacity xs) in
    let part = to_z-of_z w64 c.unwrap_or-part.result (search rules)
    ∙ unwrapped (part_of_load c.args.self.now.weights c.args.self.now.numbers.items c.args.place) c.mul.result c.unwrap_or-part.result
    (parts_fit weights capacity xs c.requires.valued c.args.place c.requires.within) (product ∙ ap (λ ws. exact (get_or ws c.args.place (pos 0) *ℤ c.index.result.now)) c.as_slice.ensures ∙ ap (λ x. exact (get_or c.args.self.now.weights c.args.place (pos 0) *ℤ x)) read) c.unwrap_or-part.ensures in
    let least = to_z-of_z w64 c.min.result (search rules) ∙ c.min.ensures.value
    ∙ ap (λ z. int_min z (to_z w64 (of_z w64 c.unwrap_or-part.result))) violations
    ∙ ap (int_min (result_unwrap_or (knapsack_violations c.args.self.now.weights c.args.self.now.capacity c.args.self.now.numbers.items) (pos 0))) part in
    to_z-of_z w64 c.max.result (search rules) ∙ c.max.ensures.value ∙ ap (λ z. int_max z (pos 0)) least
