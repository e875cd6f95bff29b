use Rattle.std.proofs.Common.{◌∙◌, ap}
use Rattle.std.proofs.lemmas.Bool.{and_parts}
use Rattle.cbl_base.specs.Inputs.{as_inputs}
use Rattle.cbl_base.proofs.InputLemmas.{as_inputs-numbers_of}
use Rattle.node_set.proofs.set_of.SetOfNodeRule.reset.Goals as goal

pub returns-clause-held : goal.returns-clause-held
returns-clause-held c = ap as_inputs c.in_ok-self.ensures ∙ as_inputs-numbers_of c.args.inputs.now (and_parts _ _ c.requires).0
