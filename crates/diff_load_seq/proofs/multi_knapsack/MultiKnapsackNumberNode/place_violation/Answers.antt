use Rattle.std.proofs.Common.{◌≡◌, ◌∙◌, ap, sym, arith, rules, pos, get_or, length, to_z, of_z, w64}
use Rattle.std.specs.Prelude.{FitsSigned}
use Rattle.std.proofs.lemmas.Int.{to_z-of_z}
use Rattle.std.proofs.lemmas.List.{get_or_default}
use Rattle.cbl_violations.specs.Violations.MultiKnapsack.{load_of, excess_of, multi_knapsack_violation_at}
use Rattle.diff_load_seq.specs.Parts.{number_in}
use Rattle.diff_load_seq.specs.Levels.{level_at, excess_of as excess_of_level}
use Rattle.diff_load_seq.specs.Bins.{place_of_bin}
use Rattle.diff_load_seq.proofs.BinPlaces.{bin_found, bound_lost}
use Rattle.diff_load_seq.proofs.BinLoads.{bins_length, bin_violation}
use Rattle.diff_load_seq.proofs.multi_knapsack.MultiKnapsackNumberNode.place_violation.Goals as goal
use Rattle.diff_load_seq.proofs.multi_knapsack.MultiKnapsackNumberNode.place_violation.Goals.{After-place_of_bin}

-- the place that was found
place : (c : After-place_of_bin) → c.place_of_bin.result ≡ place_of_bin c.args.self.now.low (length c.args.self.now.capacities) (get_or c.args.self.now.numbers.items c.args.place (pos 0))
place c =
    let ok = c.args.self.now.bins.each.ok in
    let low : FitsSigned w64 c.args.self.now.low = search rules in
    let bin : FitsSigned w64 c.index.result.now = search rules in
    let n : c.len.result ≡ length c.args.self.now.capacities = omega (arith, c.len.ensures, ok.0, ap length c.requires.settled.1, bins_length c.args.self.now.sizes c.args.self.now.low c.args.self.now.capacities c.args.self.now.numbers.items (length c.args.self.now.numbers.items)) in
    c.place_of_bin.ensures
    ∙ ap (λ low. place_of_bin low c.len.result (to_z w64 (of_z w64 c.index.result.now))) (to_z-of_z w64 c.args.self.now.low low)
    ∙ ap (place_of_bin c.args.self.now.low c.len.result) (to_z-of_z w64 c.index.result.now bin ∙ c.index.ensures ∙ get_or_default c.args.self.now.numbers.items c.args.place c.index.result.now (pos 0) c.requires.within)
    ∙ ap (λ n. place_of_bin c.args.self.now.low n (get_or c.args.self.now.numbers.items c.args.place (pos 0))) n

pub returns-in-Some : goal.returns-in-Some
unfolding multi_knapsack_violation_at
returns-in-Some c =
    let bin = get_or c.args.self.now.numbers.items c.args.place (pos 0) in
    let at = bin_found c.args.self.now.low (length c.args.self.now.capacities) bin c.in-Some.bin (sym (place (goal.at.returns-in-Some c).After-place_of_bin) ∙ c.in-Some.is) in
    to_z-of_z w64 c.excess_at.result (search rules) ∙ c.excess_at.ensures
    ∙ ap (λ bins. number_in (excess_of_level (level_at bins c.in-Some.bin))) c.requires.settled.1
    ∙ bin_violation c.args.self.now.sizes c.args.self.now.low c.args.self.now.capacities c.args.self.now.numbers.items c.requires.valued bin c.in-Some.bin at

pub returns-in-None : goal.returns-in-None
unfolding multi_knapsack_violation_at
returns-in-None c =
    let bin = get_or c.args.self.now.numbers.items c.args.place (pos 0) in
    sym (ap (λ b. excess_of b (load_of bin c.args.self.now.sizes c.args.self.now.numbers.items))
    (bound_lost c.args.self.now.low c.args.self.now.capacities bin (sym (place (goal.at.returns-in-None c).After-place_of_bin) ∙ c.in-None.is)))
