use Rattle.std.proofs.Common.{◌∙◌, ◌+◌, ◌<◌, ◌++◌, ◌∷◌, [], ap, length, arith}
use Rattle.cbl_base.specs.declared.ids.NodeId.{NodeId}
use Rattle.store_turns.specs.Meaning.{ids_of}
use Rattle.model_nodes.proofs.PartFits.{fits_repeat}
use Rattle.model_nodes.proofs.parts.put_repeats.Goals as goal

pub put-requires : goal.put-requires
put-requires g c κs within =
    let k = c.loop-number.number in
    let id : NodeId = record { 0 = c.args.first + k } in
    let lt : k < length g.about.model.objectives.items = omega (arith, c.loop-number-test.true, c.requires.1.1.0) in (
      within,
      (
        c.loop-number.invariant.made,
        fits_repeat g.about (length c.loop-number.making.lists.items) k (g.N.NodeRule.rule c.of_repeat.result) c.push.new.self.items (record { line = 0; col = 0 }) lt c.loop-number.invariant.count c.of_repeat.ensures
            (ap ids_of (c.in_ok-push.ensures.items ∙ ap (λ is. is ++ id ∷ []) c.new-inputs.ensures.items) ∙ ap (λ n. (n + k) ∷ []) c.requires.1.0),
      ),
    )

pub loop-number-preserved : goal.loop-number-preserved
loop-number-preserved g c = record {
  made = c.in_ok-put.ensures.made;
  count = omega (arith, c.in_ok-put.ensures.count, c.loop-number.invariant.count);
}
