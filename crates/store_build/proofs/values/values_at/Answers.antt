use Rattle.std.proofs.Common.{◌∙◌, ◌<◌, List, Some, length, sym, ap, arith}
use Rattle.cbl_base.specs.declared.input.Input.{Input}
use Rattle.store_build.proofs.ValueLemmas.{values_more, values_lost}
use Rattle.store_build.proofs.values.values_at.Goals as goal

pub loop-id-preserved : goal.loop-id-preserved
loop-id-preserved c =
    let lt : c.loop-id.id-index < length c.args.ids.now = omega arith in
    values_more c.args.outcomes.now c.args.ids.now c.loop-id.id-index (record { 0 = 0 }) c.in-Some.value.now c.loop-id.values.items lt (sym c.in-Some.ensures) c.loop-id.invariant
    ∙ ap (λ (xs : List Input). Some xs) (sym c.in_ok-push_copy-in-Some.ensures)

pub returns-in-None : goal.returns-in-None
returns-in-None c =
    let lt : c.loop-id.id-index < length c.args.ids.now = omega arith in
    sym (values_lost c.args.outcomes.now c.args.ids.now c.loop-id.id-index (record { 0 = 0 }) lt (sym c.in-None.ensures))
