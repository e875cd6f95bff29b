use Rattle.std.proofs.Common.{pos, get_or, rules, w64, refl, subst}
use Rattle.std.specs.Prelude.{FitsSigned}
use Rattle.std.proofs.lemmas.Int.{to_z-of_z}
use Rattle.std.proofs.lemmas.List.{take_all}
use Rattle.node_order.specs.PlaceIndex.{IsIndexOf}
use Rattle.node_order.proofs.IndexLemmas.{index_none, index_more}
use Rattle.node_order.proofs.place_index.index_of.Goals as goal

pub loop-place-init : goal.loop-place-init
loop-place-init c = index_none c.new-index.result c.new-index.ensures.empty

pub loop-place-preserved : goal.loop-place-preserved
loop-place-preserved c =
    let xs = c.args.numbers.now in
    let i = c.loop-place.place in
    let n = get_or xs i (pos 0) in
    let fits : FitsSigned w64 n = search rules in
    index_more c.loop-place.index c.insert.new.self xs i n (simp (to_z-of_z w64 n fits) at c.in_ok-insert.ensures.updates) c.loop-place.invariant c.loop-place-test.true refl

pub returns : goal.returns
returns c = subst (λ t. IsIndexOf c.loop-place.index t) (take_all _ _ c.loop-place-test.false) c.loop-place.invariant
