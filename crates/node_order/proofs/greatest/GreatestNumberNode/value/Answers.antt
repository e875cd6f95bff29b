use Rattle.std.proofs.Common.{◌∙◌, sym, rules, w64}
use Rattle.std.specs.Prelude.{FitsSigned}
use Rattle.std.proofs.lemmas.Int.{to_z-of_z}
use Rattle.node_order.proofs.MirrorLemmas.{greatest_value, no_fault}
use Rattle.node_order.proofs.greatest.GreatestNumberNode.value.Goals as goal

pub returns-in-Ok : goal.returns-in-Ok
returns-in-Ok c =
    let fits : FitsSigned w64 c.mirrored.result = search rules in
    let fits_least : FitsSigned w64 c.in-Ok.least = search rules in
    rw (to_z-of_z w64 c.mirrored.result fits)
    (sym (greatest_value c.args.self.now.lowest.numbers.items c.in-Ok.least c.mirrored.result c.requires.1 (sym c.value.ensures ∙ c.in-Ok.is) (simp (to_z-of_z w64 c.in-Ok.least fits_least) at c.mirrored.ensures)))

pub returns-in-Err : goal.returns-in-Err
returns-in-Err c = absurd (no_fault c.args.self.now.lowest.numbers.items c.in-Err.fault (sym c.value.ensures ∙ c.in-Err.is))
