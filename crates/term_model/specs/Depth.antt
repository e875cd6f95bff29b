-- The depth of a term: 0 for a variable or a constant, and for a node one more than that of its deepest
-- argument. A rule of this project.
use Rattle.std.specs.Prelude.{ℕ, suc, List, [], ◌∷◌, max}
use Rattle.term_model.specs.declared.term.Term.{Term}
use Rattle.term_model.specs.declared.term.Term.TheOpen.{Term-F}
use Rattle.term_model.specs.declared.term.Term.TheFolds.{fold-Term}

abbrev pub greatest : List ℕ → ℕ
greatest [] = 0
greatest (n ∷ ns) = max n (greatest ns)

abbrev pub depth_step : Term-F ℕ → ℕ
depth_step (Term-F.Const x) = 0
depth_step (Term-F.ConstSet s) = 0
depth_step (Term-F.Var v) = 0
depth_step (Term-F.Node op args place) = suc (greatest args.items)

abbrev pub depth_of : Term → ℕ
depth_of = fold-Term ℕ depth_step
