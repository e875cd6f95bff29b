use Rattle.graph_values.proofs.FirstFailing.{has_least, none_before, only_least}
use Rattle.graph_values.proofs.laws.least_fault_law.Goals as goal

pub returns-clause-there : goal.returns-clause-there
returns-clause-there c = λ users M a g given holds o meaning failure is. has_least users M a given.formed given.acyclic given.long g holds o meaning failure is

pub returns-clause-only : goal.returns-clause-only
returns-clause-only c = λ users M a g given holds id fault first lt.
    let own = only_least users M a given.formed given.acyclic given.long g holds id fault lt first in
    record { failure = own.0; least = own.1; fault = own.2; place = own.3 }

pub returns-clause-least : goal.returns-clause-least
returns-clause-least c = λ users M a g given holds id fault first k t at is. none_before users M a given.formed given.acyclic given.long g holds id fault first k t at is
