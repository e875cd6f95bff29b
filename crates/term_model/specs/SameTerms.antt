-- Whether two terms are equal, with places left aside: the same number, set or variable, or the same operation
-- of arguments that are equal one by one. A rule of this project.
use Rattle.std.specs.Prelude.{ℕ, ℤ, Bool, true, false, ◌&&◌, List, [], ◌∷◌, nat_eq}
use Rattle.std.specs.Ordering.{int_eq}
use lib.Pointwise.{pointwise}
use Rattle.cbl_operations.specs.declared.op.Op.{Op}
use Rattle.term_model.specs.SameOperations.{same_operation}
use Rattle.term_model.specs.declared.term.Term.{Term}
use Rattle.term_model.specs.declared.term.Term.TheOpen.{Term-F}
use Rattle.term_model.specs.declared.term.Term.TheViews.{out-Term}
use Rattle.term_model.specs.declared.term.Term.TheFolds.{fold-Term}

-- whether a term is this number, this set, this variable, or this operation of arguments that pass these tests
abbrev pub is_number : Term-F Term → ℤ → Bool
is_number (Term-F.Const x) n = int_eq x n
is_number (Term-F.ConstSet s) n = false
is_number (Term-F.Var v) n = false
is_number (Term-F.Node op args place) n = false

abbrev pub is_set : Term-F Term → List ℤ → Bool
is_set (Term-F.Const x) set = false
is_set (Term-F.ConstSet s) set = pointwise int_eq s set
is_set (Term-F.Var v) set = false
is_set (Term-F.Node op args place) set = false

abbrev pub is_variable : Term-F Term → ℕ → Bool
is_variable (Term-F.Const x) i = false
is_variable (Term-F.ConstSet s) i = false
is_variable (Term-F.Var v) i = nat_eq v.index i
is_variable (Term-F.Node op args place) i = false

abbrev pub all_pass : List (Term → Bool) → List Term → Bool
all_pass [] [] = true
all_pass [] (u ∷ us) = false
all_pass (test ∷ tests) [] = false
all_pass (test ∷ tests) (u ∷ us) = test u && all_pass tests us

abbrev pub is_node : Term-F Term → Op → List (Term → Bool) → Bool
is_node (Term-F.Const x) op tests = false
is_node (Term-F.ConstSet s) op tests = false
is_node (Term-F.Var v) op tests = false
is_node (Term-F.Node op' args place) op tests = same_operation op' op && all_pass tests args.items

-- one layer of a term, where each argument has the test whether a term is equal to it in its place
abbrev pub same_layer : Term-F (Term → Bool) → Term-F Term → Bool
same_layer (Term-F.Const x) u = is_number u x
same_layer (Term-F.ConstSet s) u = is_set u s
same_layer (Term-F.Var v) u = is_variable u v.index
same_layer (Term-F.Node op args place) u = is_node u op args.items

abbrev pub same_term : Term → Term → Bool
same_term = fold-Term (Term → Bool) (λ y u. same_layer y (out-Term u))
