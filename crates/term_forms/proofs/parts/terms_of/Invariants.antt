use Rattle.std.proofs.Common.{[]}
use Rattle.comet_meaning.specs.Parts.{each_term}
use Rattle.comet_meaning.specs.Program.{level}
use Rattle.comet_meaning.proofs.RowsOfTerms.{TermRowLeft}
use Rattle.run_steps.specs.OfRunState.Views.{state_seen}
use Rattle.run_steps.specs.Views.{part, row}
use Rattle.term_forms.proofs.parts.terms_of.Given as goal

-- the parts that are left, from here, give what all give
abbrev pub invariant-loop-e : goal.invariant-loop-e
invariant-loop-e g l = TermRowLeft (level (g.W.Within.code l.inside) (g.W.Within.depth l.inside)) part l.es l.e-index l.terms.items (state_seen l.s (g.O.Outside.told l.out)) (each_term (level (g.W.Within.code l.inside) (g.W.Within.depth l.inside)) (row l.es) [] (state_seen l.fn.s (g.O.Outside.told l.fn.out)))
