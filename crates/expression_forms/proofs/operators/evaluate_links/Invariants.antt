use Rattle.run_steps.specs.Views.{links_seen}
use Rattle.checked_tree.specs.Shape.{shape_of_link}
use Rattle.comet_meaning.specs.Operators.{links_form}
use Rattle.comet_meaning.specs.Program.{level}
use Rattle.comet_meaning.proofs.Rows.{LinksLeft}
use Rattle.run_steps.specs.OfRunState.Views.{state_seen}
use Rattle.run_values.specs.Views.{value_seen}
use Rattle.expression_forms.proofs.operators.evaluate_links.Given as goal

abbrev pub invariant-loop-link : goal.invariant-loop-link
invariant-loop-link g l = LinksLeft (level (g.W.Within.code l.inside) (g.W.Within.depth l.inside)) shape_of_link l.links l.link-index (value_seen l.value) (state_seen l.s (g.O.Outside.told l.out)) (links_form (level (g.W.Within.code l.inside) (g.W.Within.depth l.inside)) (links_seen l.links) (value_seen l.fn.first) (state_seen l.fn.s (g.O.Outside.told l.fn.out)))
