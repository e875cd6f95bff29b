use Rattle.std.proofs.Common.{◌<◌, ◌-◌, ◌^◌, ◌∙◌, length, ap, arith, rules, w64}
use Rattle.std.specs.Prelude.{FitsSigned}
use Rattle.std.proofs.lemmas.Int.{to_z-of_z}
use Rattle.cbl_base.specs.Sets.{set_of}
use Rattle.node_base.specs.NumberChanges.{after_number_changes}
use Rattle.node_order.proofs.IndexLemmas.{places_between}
use Rattle.node_order.proofs.ExtremeLemmas.{keys_found, if_same}
use Rattle.node_order.proofs.least_keys.LeastKeys.found.Goals as goal

pub returns : goal.returns
returns c =
    let s = c.args.self.now in
    let xs = s.lowest.numbers.items in
    let cs = c.args.changes.now in
    let least = c.in_ok-least.least in
    let fits : FitsSigned w64 least = search rules in
    let small = s.lowest.numbers.small in
    let short : length xs < 2 ^ 64 - 1 = omega (arith, small) in
    let before = places_between (2 ^ 64 - 1) s.index c.in_ok-places.places least xs (simp (to_z-of_z w64 least fits) at c.in_ok-places.ensures) short c.requires.index in
    let after = (simp (to_z-of_z w64 least fits) at c.in_ok-move_places.ensures) xs before c.requires.changes in
    if_same c.from_slice.result (set_of c.deref.result.now) _ c.from_slice.ensures
    (ap set_of (c.deref.ensures.value ∙ c.in_ok-found.ensures) ∙ keys_found s.keys (after_number_changes xs cs) least c.move_places.new.places c.in_ok-least.ensures after)
