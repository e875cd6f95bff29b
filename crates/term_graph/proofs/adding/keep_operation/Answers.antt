use Rattle.std.proofs.Common.{◌≡◌, ◌++◌, ap, map, ◌∙◌}
use Rattle.std.proofs.lemmas.Result.{IfErr-weaker, IfOk-weaker}
use Rattle.cbl_base.specs.declared.ids.NodeId.{NodeId}
use Rattle.term_count.specs.Codes.{operation_code}
use Rattle.term_graph.specs.Adding.{name_of_id}
use Rattle.term_graph.proofs.AddLaws.{operation_fits}
use Rattle.term_graph.proofs.adding.keep_operation.Goals as goal

pub returns-clause-kept : goal.returns-clause-kept
returns-clause-kept c =
    let named : c.in_ok-names.names.items ≡ map (λ (id : NodeId). name_of_id c.args.graph.now.cells id.0) c.args.inputs.items =
    c.in_ok-names.ensures ∙ ap (map (λ (id : NodeId). name_of_id c.args.graph.now.cells id.0)) c.deref.ensures.value in
    let made : c.in_ok-code.code.items ≡ operation_code c.args.op.now ++ c.in_ok-names.names.items = c.in_ok-code.ensures ∙ ap (λ ns. operation_code c.args.op.now ++ ns) c.deref-2.ensures.value in
    IfOk-weaker c.keep.result _ _ (λ id e ts takes. e ts (operation_fits _ _ _ ts _ _ c.in_ok-code.code.items c.in_ok-names.names.items _ takes named made)) c.keep.ensures.kept

pub returns-clause-stop : goal.returns-clause-stop
returns-clause-stop c =
    let named : c.in_ok-names.names.items ≡ map (λ (id : NodeId). name_of_id c.args.graph.now.cells id.0) c.args.inputs.items =
    c.in_ok-names.ensures ∙ ap (map (λ (id : NodeId). name_of_id c.args.graph.now.cells id.0)) c.deref.ensures.value in
    let made : c.in_ok-code.code.items ≡ operation_code c.args.op.now ++ c.in_ok-names.names.items = c.in_ok-code.ensures ∙ ap (λ ns. operation_code c.args.op.now ++ ns) c.deref-2.ensures.value in
    IfErr-weaker c.keep.result _ _ (λ stop e ts takes. e ts (operation_fits _ _ _ ts _ _ c.in_ok-code.code.items c.in_ok-names.names.items _ takes named made)) c.keep.ensures.stop
