use Rattle.graph_values.proofs.FreshMeaning.{fresh_is_meaning}
use Rattle.graph_values.proofs.Held.{same_fresh}
use Rattle.graph_values.proofs.Levels.{are_layers, layer_by}
use Rattle.graph_values.proofs.laws.fresh_values_law.Goals as goal

pub returns-clause-layers : goal.returns-clause-layers
returns-clause-layers c = λ users M formed acyclic. (layer_by M acyclic, are_layers users M formed acyclic)

pub returns-clause-meaning : goal.returns-clause-meaning
returns-clause-meaning c = λ users M a given. fresh_is_meaning users M a given.formed given.acyclic given.long

pub returns-clause-values : goal.returns-clause-values
returns-clause-values c = λ users M a g given holds o meaning id lt. same_fresh users M a given.formed given.acyclic given.long g holds o meaning id lt
