-- The term and its plain twin are equally deep.
use Rattle.std.proofs.Common.{sym, ap, ◌∙◌}
use Rattle.model_view.proofs.PlainParts.{same_depth}
use Rattle.term_model.specs.Depth.{depth_of}
use Rattle.run_solvers.proofs.built.Built.depth.Goals as goal

pub returns : goal.returns
returns c = c.self.invariant.depth_ ∙ sym (same_depth c.self.inside.term) ∙ ap depth_of c.self.view_is
