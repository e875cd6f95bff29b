use Rattle.std.proofs.Common.{w64, rules}
use Rattle.std.specs.Prelude.{FitsSigned}
use Rattle.std.proofs.lemmas.Int.{to_z-of_z}
use Rattle.diff_global.proofs.RepeatLemmas.{violation_repeated, violation_once}
use Rattle.diff_global.proofs.all_different.AllDifferentNumberNode.place_violation.Goals as goal

pub returns-then-is_repeated : goal.returns-then-is_repeated
returns-then-is_repeated c =
    let fits : FitsSigned w64 c.at.result = search rules in
    violation_repeated c.args.self.now.tally c.args.place c.times-is_repeated.result c.at.result c.requires.within c.at.ensures (simp (to_z-of_z w64 c.at.result fits) at c.times-is_repeated.ensures) c.if-is_repeated.true

pub returns-else-is_repeated : goal.returns-else-is_repeated
returns-else-is_repeated c =
    let fits : FitsSigned w64 c.at.result = search rules in
    violation_once c.args.self.now.tally c.args.place c.times-is_repeated.result c.at.result c.requires.within c.at.ensures (simp (to_z-of_z w64 c.at.result fits) at c.times-is_repeated.ensures) c.if-is_repeated.false
