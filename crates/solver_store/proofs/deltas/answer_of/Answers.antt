use Rattle.std.proofs.Common.{rules, ◌≡◌, ℤ, Result, Some, Err, refl, slice_get, subst}
use Rattle.std.proofs.lemmas.Option.{slice_get_read, slice_get_within}
use Rattle.graph_values.specs.WholeGraphs.{total_id}
use Rattle.store_laws.specs.Deltas.{IsTold}
use Rattle.trial.specs.declared.fault.DifferenceFault.{DifferenceFault}
use Rattle.trial.specs.declared.fault.DifferenceFault.TheVariants.{Node}
use Rattle.solver_store.proofs.Targets.{placed}
use Rattle.solver_store.proofs.deltas.answer_of.Goals as goal

pub returns-in-Some : goal.returns-in-Some
returns-in-Some c = λ M answer are told.
    let e : c.args.told ≡ Err (Node c.in-Err-Node.node c.in-Err-Node.fault) = search rules in
    let t : IsTold M (total_id M) answer (Err (Node c.in-Err-Node.node c.in-Err-Node.fault)) = subst (λ (r : Result ℤ DifferenceFault). IsTold M (total_id M) answer r) e told in
    let look = c.in-Some.ensures.lookup in
    let found : slice_get c.args.places.now c.in-Err-Node.node.0 ≡ Some c.in-Some.place.now = slice_get_read c.args.places.now _ c.in-Err-Node.node.0 c.in-Some.place.now refl look.3.0 look.1 in
    let lt = slice_get_within c.args.places.now c.in-Err-Node.node.0 c.in-Some.place.now found in
    placed M c.args.places.now are answer c.in-Err-Node.node.0 c.in-Err-Node.fault t.1 c.in-Some.place.now found lt (are c.in-Err-Node.node.0 t.1 t.0 lt t.2) t.3
