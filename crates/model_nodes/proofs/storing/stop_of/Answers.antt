use Rattle.std.proofs.Common.{◌∙◌, subst, sym}
use Rattle.graph_values.specs.Links.{IsModelStop}
use Rattle.graph_values.specs.WholeGraphs.{total_id}
use Rattle.model_nodes.specs.StopPlaces.{IsBehind}
use Rattle.model_nodes.proofs.Stops.{fault_placed}
use Rattle.model_nodes.proofs.storing.stop_of.Goals as goal

pub returns-in-Some : goal.returns-in-Some
returns-in-Some c = λ users M a all are behind found.
    fault_placed users M a c.args.places.now c.in-Node.node.0 c.in-Node.fault c.in-Some.place all are (subst (λ s. IsBehind M s) c.in-Node.is behind) (sym c.place_at.ensures ∙ c.in-Some.is) (subst (λ s. IsModelStop users M a (total_id M) s) c.in-Node.is found)
