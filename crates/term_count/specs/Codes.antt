-- The code of a term among distinct terms: what it says beside its arguments, and the names of these. A variable
-- is named below 0 by its index, another term by the place where one that is equal to it stands. Among terms that
-- hold all arguments two codes are the same exactly where the terms are equal. A rule of this project.
use Rattle.std.specs.Prelude.{ℤ, pos, negsuc, Bool, true, List, [], ◌∷◌, ◌++◌, length, map}
use Rattle.std.specs.List.{list_any, position_or_len}
use Rattle.cbl_operations.specs.declared.op.Op.{Op}
use Rattle.term_model.specs.SameOperations.{first_of, name_of, numbers_of, second_of}
use Rattle.term_model.specs.SameTerms.{same_term}
use Rattle.term_model.specs.declared.term.Term.{Term}
use Rattle.term_model.specs.declared.term.Term.TheOpen.{Term-F}
use Rattle.term_model.specs.declared.term.Term.TheViews.{out-Term}

-- ---- names
abbrev pub place_of : List Term → Term → ℤ
place_of ts t = pos (position_or_len (same_term t) ts)

abbrev pub name_by : List Term → Term → Term-F Term → ℤ
name_by ts t (Term-F.Const x) = place_of ts t
name_by ts t (Term-F.ConstSet s) = place_of ts t
name_by ts t (Term-F.Var v) = negsuc v.index
name_by ts t (Term-F.Node op args place) = place_of ts t

abbrev pub name_among : List Term → Term → ℤ
name_among ts t = name_by ts t (out-Term t)

-- whether a term has a name: a variable, or one of these
abbrev pub is_known_by : List Term → Term → Term-F Term → Bool
is_known_by ts t (Term-F.Const x) = list_any (same_term t) ts
is_known_by ts t (Term-F.ConstSet s) = list_any (same_term t) ts
is_known_by ts t (Term-F.Var v) = true
is_known_by ts t (Term-F.Node op args place) = list_any (same_term t) ts

abbrev pub is_known : List Term → Term → Bool
is_known ts t = is_known_by ts t (out-Term t)

-- what isn't a variable
abbrev pub IsNode : Term-F Term → Type 0
IsNode (Term-F.Const x) = Unit {0}
IsNode (Term-F.ConstSet s) = Unit {0}
IsNode (Term-F.Var v) = ⊥
IsNode (Term-F.Node op args place) = Unit {0}

-- ---- codes
-- a list behind its length
abbrev pub counted : List ℤ → List ℤ
counted xs = pos (length xs) ∷ xs

abbrev pub operation_code : Op → List ℤ
operation_code op = (pos (name_of op) ∷ numbers_of op) ++ (counted (first_of op) ++ counted (second_of op))

abbrev pub code_by : List Term → Term-F Term → List ℤ
code_by ts (Term-F.Const x) = negsuc 0 ∷ x ∷ []
code_by ts (Term-F.ConstSet s) = negsuc 1 ∷ s
code_by ts (Term-F.Var v) = []
code_by ts (Term-F.Node op args place) = operation_code op ++ map (name_among ts) args.items

abbrev pub code_among : List Term → Term → List ℤ
code_among ts t = code_by ts (out-Term t)
