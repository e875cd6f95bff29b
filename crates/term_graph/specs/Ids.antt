-- The id of a term among distinct terms that stand behind so many cells: a variable's is its index, another's is
-- the number of cells and the place from 0 where the term that is equal to it stands. A rule of this project.
use Rattle.std.specs.Prelude.{ℕ, ◌+◌, ◌<◌, List, map, All}
use Rattle.std.specs.List.{position_or_len}
use Rattle.cbl_base.specs.declared.ids.NodeId.{NodeId}
use Rattle.term_model.specs.Definitions.{vars_of}
use Rattle.term_model.specs.SameTerms.{same_term}
use Rattle.term_model.specs.declared.term.Term.{Term}
use Rattle.term_model.specs.declared.term.Term.TheOpen.{Term-F}
use Rattle.term_model.specs.declared.term.Term.TheViews.{out-Term}

-- behind the cells, at the term's place
abbrev pub behind : ℕ → List Term → Term → ℕ
behind cells ts t = cells + position_or_len (same_term t) ts

-- the id of a term by its outermost layer
abbrev pub id_by : ℕ → List Term → Term → Term-F Term → ℕ
id_by cells ts t (Term-F.Const x) = behind cells ts t
id_by cells ts t (Term-F.ConstSet s) = behind cells ts t
id_by cells ts t (Term-F.Var v) = v.index
id_by cells ts t (Term-F.Node op args place) = behind cells ts t

-- the id of a term
abbrev pub id_among : ℕ → List Term → Term → ℕ
id_among cells ts t = id_by cells ts t (out-Term t)

-- each variable of a term has a cell
abbrev pub HasCells : ℕ → Term → Type 0
HasCells cells t = All (λ index. index < cells) (vars_of t)

-- ids as numbers
abbrev pub ids_of : List NodeId → List ℕ
ids_of ids = map (λ id. id.0) ids
