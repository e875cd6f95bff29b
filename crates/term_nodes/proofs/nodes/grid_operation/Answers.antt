use Rattle.std.proofs.Common.{◌≡◌, IfOk, sym, subst, arith, length}
use Rattle.term_nodes.proofs.NodeLaws.{grid_as}
use Rattle.term_nodes.proofs.nodes.grid_operation.Goals as goal

pub returns-in-Some-clause-operation : goal.returns-in-Some-clause-operation
returns-in-Some-clause-operation c =
    let n : c.len.result ≡ length c.args.cells.now.terms.items = omega (arith, c.len.ensures, c.args.cells.now.terms.ok.0) in
    subst (λ q. IfOk c.plane_operation.result (λ op. op ≡ q)) (sym (grid_as _ _ _ _ _ n c.in-Some.is)) c.plane_operation.ensures.operation
