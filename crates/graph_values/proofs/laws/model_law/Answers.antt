use Rattle.graph_values.proofs.HeldModels.{model_fault, model_values}
use Rattle.graph_values.proofs.laws.model_law.Goals as goal

pub returns-clause-values : goal.returns-clause-values
returns-clause-values c = λ users M a g id_of_total given holds x meaning. model_values users M a given.formed given.acyclic given.long g id_of_total holds x meaning

pub returns-clause-fault : goal.returns-clause-fault
returns-clause-fault c = λ users M a g id_of_total given holds id fault first.
    let own = model_fault users M a given.formed given.acyclic given.long g id_of_total holds id fault first in
    record { failure = own.0; fresh = own.1; fault = own.2; place = own.3 }
