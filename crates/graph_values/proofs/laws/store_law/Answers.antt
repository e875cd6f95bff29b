use Rattle.graph_values.proofs.Stores.{kept_values, links_hold, model_links_hold, stop_fault, term_head_value}
use Rattle.graph_values.proofs.laws.store_law.Goals as goal

pub returns-clause-heads : goal.returns-clause-heads
returns-clause-heads c = λ users t head xs e. term_head_value users t head xs e

pub returns-clause-links : goal.returns-clause-links
returns-clause-links c = λ users M rules inputs links. links_hold users M rules inputs links

pub returns-clause-model : goal.returns-clause-model
returns-clause-model c = λ users M rules inputs total links. model_links_hold users M rules inputs total links

pub returns-clause-values : goal.returns-clause-values
returns-clause-values c = λ users M a id_of_total rules helds frame cells given holds kept assigned.
    kept_values users M a id_of_total given.formed given.acyclic given.long rules helds frame cells holds assigned kept

pub returns-clause-stop : goal.returns-clause-stop
returns-clause-stop c = λ users M a id_of_total g free given holds assigned stop first. stop_fault users M a id_of_total given.formed given.acyclic given.long g free stop holds assigned first
