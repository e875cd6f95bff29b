use Rattle.std.proofs.Common.{◌≡◌, ◌∙◌, ◌+◌, ◌++◌, ap, length, refl, arith}
use Rattle.std.specs.List.{range_with_len}
use Rattle.cbl_base.specs.declared.ids.NodeId.{NodeId}
use Rattle.store_turns.specs.Meaning.{ids_of}
use Rattle.model_nodes.proofs.PartSteps.{range_more}
use Rattle.model_nodes.proofs.parts.total_inputs.Goals as goal

pub loop-place-preserved : goal.loop-place-preserved
loop-place-preserved c =
    let id : NodeId = record { 0 = c.args.first + c.loop-place.place } in
    range_more c.args.ids.now c.loop-place.inputs.items c.push.new.self.items id c.args.first c.loop-place.place c.loop-place.invariant c.in_ok-push.ensures.items refl

pub returns : goal.returns
returns c =
    let all : c.loop-place.place ≡ length c.args.ids.now = omega arith in
    c.loop-place.invariant ∙ ap (λ n. ids_of c.args.ids.now ++ range_with_len c.args.first n) all
