-- The terms that were counted: distinct ones, in the order in which they came. A rule of this project.
use Rattle.std.specs.Prelude.{List}
use Rattle.term_count.specs.Numbering.{IsNumbered, listed}
use Rattle.term_count.specs.declared.subterms.Subterms.{Subterms}
use Rattle.term_model.specs.declared.term.Term.{Term}

abbrev pub Counts : Subterms → List Term → Type 0
Counts counted ts = IsNumbered (listed counted.codes.keys) ts
