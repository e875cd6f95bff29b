use Rattle.std.proofs.Common.{List, take}
use Rattle.term_count.specs.Numbering.{AddsAll, IsNumbered, listed}
use Rattle.term_model.specs.declared.term.Term.{Term}
use Rattle.term_count.proofs.subterms.+add_to.Given as goal

abbrev pub invariant-loop-arg : goal.invariant-loop-arg
invariant-loop-arg l = (ts : List Term) → IsNumbered (listed l.initial.codes.keys) ts → AddsAll (listed l.codes.keys) ts (take l.arg-index l.arg-items) l.names.items
