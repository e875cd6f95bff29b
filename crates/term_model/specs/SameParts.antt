-- Whether a term is an operation of arguments that pass these tests, from its operation and arguments if it is
-- a node.
use Rattle.std.specs.Prelude.{Bool, false, ◌&&◌, List, Option, Some, None}
use Rattle.cbl_operations.specs.declared.op.Op.{Op}
use Rattle.term_model.specs.SameOperations.{same_operation}
use Rattle.term_model.specs.SameTerms.{all_pass}
use Rattle.term_model.specs.declared.equal_terms.Parts.{Parts}
use Rattle.term_model.specs.declared.term.Term.{Term}

abbrev pub is_node_of : Option Parts → Op → List (Term → Bool) → Bool
is_node_of (Some parts) op tests = same_operation parts.op.now op && all_pass tests parts.args.now
is_node_of None op tests = false
