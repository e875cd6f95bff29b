use Rattle.std.proofs.Common.{[], ◌∷◌}
use Rattle.checked_tree.specs.Shape.{shape_of_link}
use Rattle.comet_meaning.specs.Program.{level}
use Rattle.comet_meaning.specs.TermForms.{operands_form}
use Rattle.comet_meaning.proofs.RowsOfTerms.{OperandsLeft}
use Rattle.run_steps.specs.OfRunState.Views.{state_seen}
use Rattle.run_steps.specs.Views.{links_seen}
use Rattle.term_forms.proofs.operators.operands_of.Given as goal

-- the operands that are left, from here, give what all give
abbrev pub invariant-loop-link : goal.invariant-loop-link
invariant-loop-link g l = OperandsLeft (level (g.W.Within.code l.inside) (g.W.Within.depth l.inside)) shape_of_link l.links l.link-index l.terms.items (state_seen l.s (g.O.Outside.told l.out)) (operands_form (level (g.W.Within.code l.inside) (g.W.Within.depth l.inside)) (links_seen l.links) (l.fn.first ∷ []) (state_seen l.fn.s (g.O.Outside.told l.fn.out)))
