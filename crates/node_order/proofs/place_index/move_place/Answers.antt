use Rattle.std.proofs.Common.{rules, w64}
use Rattle.std.specs.Prelude.{FitsSigned}
use Rattle.std.proofs.lemmas.Int.{to_z-of_z}
use Rattle.node_order.proofs.IndexLemmas.{index_moved}
use Rattle.node_order.proofs.place_index.move_place.Goals as goal

pub returns : goal.returns
returns c xs is change =
    let d = c.args.change in
    let fits_old : FitsSigned w64 d.old = search rules in
    let fits_new : FitsSigned w64 d.new = search rules in
    index_moved c.args.index.now c.remove.new.self c.insert.new.self xs d (simp (to_z-of_z w64 d.old fits_old) at c.remove.ensures.updates) (simp (to_z-of_z w64 d.new fits_new) at c.in_ok-insert.ensures.updates) is change
