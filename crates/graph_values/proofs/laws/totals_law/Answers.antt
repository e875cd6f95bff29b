use Rattle.model_values.specs.Wholes.{place_of}
use Rattle.graph_values.proofs.ModelTotals.{repeat_is, total_is}
use Rattle.graph_values.proofs.WholeLayers.{layer_in, whole_layers}
use Rattle.graph_values.proofs.Wholes.{objective_repeats, whole_holds}
use Rattle.graph_values.proofs.laws.totals_law.Goals as goal

pub returns-clause-whole : goal.returns-clause-whole
returns-clause-whole c = λ users M. whole_holds users M

pub returns-clause-totals : goal.returns-clause-totals
returns-clause-totals c = λ users M a g id_of_total given holds o whole meaning there. total_is users M a given.formed given.acyclic given.long g holds.terms o meaning whole (id_of_total whole) (holds.totals whole there) (place_of M whole)

pub returns-clause-again : goal.returns-clause-again
returns-clause-again c = λ users M k lt. objective_repeats users M k lt

pub returns-clause-repeats : goal.returns-clause-repeats
returns-clause-repeats c = λ users M a g id_of_total given holds o whole id meaning there again.
    repeat_is users M a given.formed given.acyclic given.long g holds.terms o meaning whole (id_of_total whole) (holds.totals whole there) (place_of M whole) id again

pub returns-clause-layers : goal.returns-clause-layers
returns-clause-layers c = λ users M formed acyclic. (layer_in users M formed acyclic, whole_layers users M formed acyclic)
