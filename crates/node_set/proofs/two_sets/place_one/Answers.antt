use Rattle.std.proofs.lemmas.Result.{on_ok_weaker}
use Rattle.std.proofs.Common.{◌∙◌, ap, w64}
use Rattle.std.proofs.lemmas.Int.{to_z-of_z}
use Rattle.node_set.specs.Combining.{belongs}
use Rattle.node_set.proofs.Combined.{kept-placed}
use Rattle.node_set.proofs.two_sets.place_one.Goals as goal

pub returns-clause-kept : goal.returns-clause-kept
returns-clause-kept c =
    let here = simp (to_z-of_z w64 c.args.v c.ranges.v) at c.contains.ensures in
    let made = simp (to_z-of_z w64 c.args.v c.ranges.v) at c.in_ok-place.ensures in
    on_ok_weaker c.place_in.result (λ e. kept-placed c.args.combining c.args.v c.args.is_in c.has.result c.args.set.now c.args.other.now c.place.new.set c.args.kept.now c.place_in.new.input c.requires (c.has.ensures ∙ ap (belongs c.args.combining c.args.is_in) here) made e) (simp (to_z-of_z w64 c.args.v c.ranges.v) at c.place_in.ensures)
