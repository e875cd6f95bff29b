-- A term has the first variable that it has without where its lists lie.
use Rattle.std.proofs.Common.{sym, ◌∙◌, ap}
use Rattle.comet_meaning.specs.Systems.{first_variable}
use Rattle.run_solvers.proofs.FirstLaws.{same_first}
use Rattle.run_solvers.proofs.built.Built.first_variable.Goals as goal

pub returns : goal.returns
returns c = c.first_variable.ensures ∙ sym (same_first c.self.inside.term) ∙ ap first_variable c.self.view_is
