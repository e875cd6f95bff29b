-- What a node computes, and where it stands in the text: what its term says itself, beside its arguments. A
-- variable is no node, and a constant has no place. A rule of this project.
use Rattle.std.specs.Prelude.{◌≡◌, Option, Some, None}
use Rattle.cbl_base.specs.declared.place.Place.{Place}
use Rattle.term_graph.specs.declared.head.Head.{Head}
use Rattle.term_graph.specs.declared.head.Head.TheVariants.{Const, ConstSet, Op as Operation}
use Rattle.term_model.specs.declared.term.Term.{Term}
use Rattle.term_model.specs.declared.term.Term.TheOpen.{Term-F}
use Rattle.term_model.specs.declared.term.Term.TheViews.{out-Term}

-- what a term computes of its arguments, by its outermost layer
abbrev pub head_by : Term-F Term → Option Head
head_by (Term-F.Const x) = Some (Const x)
head_by (Term-F.ConstSet s) = Some (ConstSet s)
head_by (Term-F.Var v) = None
head_by (Term-F.Node op args place) = Some (Operation op)

-- what a term computes of its arguments
abbrev pub head_of : Term → Option Head
head_of t = head_by (out-Term t)

-- where a term stands, by its outermost layer
abbrev pub place_by : Term-F Term → Option Place
place_by (Term-F.Const x) = None
place_by (Term-F.ConstSet s) = None
place_by (Term-F.Var v) = None
place_by (Term-F.Node op args place) = Some place

-- where a term stands
abbrev pub place_of : Term → Option Place
place_of t = place_by (out-Term t)

-- a term's head is this one, and its place, if it has any
abbrev pub IsHeadOf : Term → Head → Type 0
IsHeadOf t head = (h : Head) → head_of t ≡ Some h → head ≡ h

abbrev pub IsPlaceOf : Term → Place → Type 0
IsPlaceOf t place = (p : Place) → place_of t ≡ Some p → place ≡ p
