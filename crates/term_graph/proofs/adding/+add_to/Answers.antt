use Rattle.std.proofs.Common.{◌<◌, sym, subst, rules}
use Rattle.std.proofs.lemmas.Result.{IfErr-weaker, IfOk-weaker, err_from_is_err_and}
use Rattle.term_count.specs.Numbering.{terms_after_all}
use Rattle.term_count.proofs.Numbered.{node_below}
use Rattle.term_graph.specs.Graphs.{StopsAt}
use Rattle.term_graph.proofs.AddLaws.{after_all, arg_below, full_arg, ids_below, one_stands, takes_all, var_is_below}
use Rattle.term_graph.proofs.Lists.{is_grown_twice}
use Rattle.term_model.specs.Depth.{depth_of}
use Rattle.term_model.proofs.Layers.{depth_below}
use Rattle.term_graph.proofs.adding.+add_to.Goals as goal

pub add_to-requires : goal.add_to-requires
add_to-requires t c =
    let below : depth_of c.arg-item.result < depth_of c.args.term.now = depth_below c.args.term.now c.in-Node.op c.in-Node.args c.in-Node.place c.deref-arg-items.result.now c.loop-arg.arg-index c.arg-item.result c.in-Node.is c.deref-arg-items.ensures.value c.loop-arg-test.true c.arg-item.is in (
      search (rules, below),
      arg_below c.args.graph.now c.loop-arg.graph c.args.term.now c.in-Node.op c.in-Node.args c.in-Node.place c.deref-arg-items.result.now c.loop-arg.arg-index c.arg-item.result
          c.loop-arg.invariant.grown c.in-Node.is c.deref-arg-items.ensures.value c.loop-arg-test.true c.arg-item.is c.requires,
    )

pub loop-arg-preserved : goal.loop-arg-preserved
loop-arg-preserved t c = record {
  grown = is_grown_twice c.args.graph.now c.loop-arg.graph c.add_to.new.graph c.loop-arg.invariant.grown c.in_ok-id-in-Node.ensures.grown;
  below = ids_below c.loop-arg.graph c.add_to.new.graph c.loop-arg.inputs.items c.push.new.self.items c.in_ok-id-in-Node.id c.in_ok-id-in-Node.ensures.grown c.loop-arg.invariant.below c.in_ok-id-in-Node.ensures.below c.in_ok-push-in-Node.ensures.items;
  stand = λ ts graph. one_stands c.args.graph.now c.loop-arg.graph c.add_to.new.graph ts c.deref-arg-items.result.now c.loop-arg.arg-index c.arg-item.result c.loop-arg.inputs.items c.push.new.self.items c.in_ok-id-in-Node.id
      c.loop-arg.invariant.grown c.loop-arg-test.true c.arg-item.is (c.loop-arg.invariant.stand ts graph) c.in_ok-id-in-Node.ensures.added c.in_ok-push-in-Node.ensures.items;
}

pub returns-in_err-id-in-Node-clause-stop : goal.returns-in_err-id-in-Node-clause-stop
returns-in_err-id-in-Node-clause-stop t c =
    let p = err_from_is_err_and c.from_residual-in_err-id-in-Node.result c.from_residual-in_err-id-in-Node.ensures.1 in
    rw (p.1, p.2)
    (λ ts graph. full_arg c.args.graph.now c.loop-arg.graph ts c.args.term.now c.in-Node.op c.in-Node.args c.in-Node.place c.deref-arg-items.result.now c.loop-arg.arg-index c.arg-item.result c.loop-arg.inputs.items _
    c.loop-arg.invariant.grown c.in-Node.is c.deref-arg-items.ensures.value c.loop-arg-test.true c.arg-item.is (c.loop-arg.invariant.stand ts graph) c.in_err-id-in-Node.ensures.stop)

pub returns-in-Var-clause-below : goal.returns-in-Var-clause-below
returns-in-Var-clause-below t c = var_is_below _ _ c.args.term.now c.in-Var.var c.in-Var.is c.requires

pub returns-after-loop-arg-clause-added : goal.returns-after-loop-arg-clause-added
returns-after-loop-arg-clause-added t c =
    IfOk-weaker c.keep_operation.result _ _
    (λ id e ts graph. after_all c.args.graph.now c.loop-arg.graph _ _ ts c.args.term.now c.in-Node.op c.in-Node.args c.in-Node.place id.0 c.loop-arg.invariant.grown c.in-Node.is
    (e (terms_after_all ts c.in-Node.args.items)
    (takes_all c.args.graph.now c.loop-arg.graph ts c.args.term.now c.in-Node.op c.in-Node.args c.in-Node.place c.deref-arg-items.result.now c.loop-arg.arg-index c.loop-arg.inputs.items c.loop-arg.invariant.grown c.in-Node.is
    c.deref-arg-items.ensures.value c.loop-arg-test.false c.requires c.loop-arg.invariant.below (c.loop-arg.invariant.stand ts graph))))
    c.keep_operation.ensures.kept

pub returns-after-loop-arg-clause-stop : goal.returns-after-loop-arg-clause-stop
returns-after-loop-arg-clause-stop t c =
    IfErr-weaker c.keep_operation.result _ _
    (λ stop e ts graph. subst (λ vs. StopsAt vs stop) (sym (node_below ts c.args.term.now c.in-Node.op c.in-Node.args c.in-Node.place c.in-Node.is))
    (e (terms_after_all ts c.in-Node.args.items)
    (takes_all c.args.graph.now c.loop-arg.graph ts c.args.term.now c.in-Node.op c.in-Node.args c.in-Node.place c.deref-arg-items.result.now c.loop-arg.arg-index c.loop-arg.inputs.items c.loop-arg.invariant.grown c.in-Node.is
    c.deref-arg-items.ensures.value c.loop-arg-test.false c.requires c.loop-arg.invariant.below (c.loop-arg.invariant.stand ts graph))))
    c.keep_operation.ensures.stop
