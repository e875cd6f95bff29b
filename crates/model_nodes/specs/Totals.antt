-- Where the totals of a side begin, and their weights. A rule of this project.
use Rattle.std.specs.Prelude.{ℕ}
use Rattle.term_model.specs.declared.model.Model.{Model}
use Rattle.term_model.specs.declared.posting.Side.{Side}
use Rattle.term_model.specs.declared.posting.Side.TheVariants.{Systems, Objectives}
use Rattle.graph_values.specs.Graphs.{count_of}
use Rattle.graph_values.specs.Members.{variables_of}
use Rattle.graph_values.specs.WholeGraphs.{first_objective, first_system}

-- the weights of systems are cells behind those of the variables, those of objectives stand behind the subterms
abbrev pub first_weight : Model → Side → ℕ
first_weight M Systems = variables_of M
first_weight M Objectives = count_of M

abbrev pub first_total : Model → Side → ℕ
first_total M Systems = first_system M
first_total M Objectives = first_objective M
