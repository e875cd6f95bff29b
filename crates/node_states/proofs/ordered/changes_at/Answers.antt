use Rattle.std.proofs.Common.{rules, ◌≡◌, true, ◌<◌, ◌++◌, [], ◌∷◌, length, ap, set, subst}
use Rattle.std.specs.Prelude.{IfSome, slice_index_or}
use Rattle.std.specs.List.{list_all}
use Rattle.node_states.specs.Elsewhere.{is_elsewhere}
use Rattle.node_states.specs.Step.{IsStep}
use Rattle.node_states.proofs.AnyOrder.{makes_more, none_of}
use Rattle.node_states.proofs.ordered.changes_at.Goals as goal

pub loop-at-preserved : goal.loop-at-preserved
loop-at-preserved c =
    let p = slice_index_or c.args.places.now c.loop-at.at-index 0 in
    let from = c.args.from.now in
    let held = c.loop-at.held.items in
    let changes = c.loop-at.changes.items in
    let old = c.index-from-index in
    let new = c.index-to-index in
    let step : IsStep p old.result new.result c.in-Some.change = subst (λ o. IfSome o (IsStep p old.result new.result)) c.in-Some.is c.in_ok-change.ensures in
    let lt : p < length from = search rules in
    let elsewhere : list_all (is_elsewhere p) changes ≡ true = search rules in
    let pushed : c.push.new.self.items ≡ changes ++ c.in-Some.change ∷ [] = search rules in
    makes_more from held (set held p c.in_ok-copy.copy) changes c.push.new.self.items p c.in-Some.change old.result new.result
    lt old.is step (none_of p changes elsewhere) pushed (ap (λ z. set held p z) c.in_ok-copy.ensures) c.loop-at.invariant
