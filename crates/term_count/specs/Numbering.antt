-- What is kept of the distinct terms so far: the code of each, where all arguments of each stand among them. A
-- rule of this project.
use Rattle.std.specs.Prelude.{◌≡◌, ℕ, ℤ, true, List, [], ◌∷◌, ◌++◌, fold, map, Some, slice_get, Vec, if◌then◌else◌}
use Rattle.std.specs.List.{list_all, list_any}
use lib.Pointwise.{pointwise}
use Rattle.std.specs.Ordering.{int_eq}
use Rattle.std.specs.declared.alloc.Global.{Global}
use Rattle.term_count.specs.Codes.{code_among, is_known, name_among}
use Rattle.term_model.specs.Subterms.{arguments_of, joined_terms, subterms, with_subterm}
use Rattle.term_model.specs.declared.term.Term.{Term}
use Rattle.term_model.specs.declared.term.Term.TheViews.{out-Term}

pub record IsNumbered (codes : List (List ℤ)) (ts : List Term) : Type 0 where
  pub same : codes ≡ map (code_among ts) ts
  pub closed : (i : ℕ) (t : Term) → slice_get ts i ≡ Some t → list_all (is_known ts) (arguments_of (out-Term t)) ≡ true

-- the distinct terms with those below a term, and it itself
abbrev pub terms_after : List Term → Term → List Term
terms_after ts t = fold with_subterm ts (subterms t)

abbrev pub terms_after_all : List Term → List Term → List Term
terms_after_all ts us = fold with_subterm ts (joined_terms (map subterms us))

-- these are the codes with a term, which has this name
pub record Adds (codes : List (List ℤ)) (ts : List Term) (t : Term) (name : ℤ) : Type 0 where
  pub numbered : IsNumbered codes (terms_after ts t)
  pub named : name ≡ name_among (terms_after ts t) t
  pub known : is_known (terms_after ts t) t ≡ true

-- the same of all of these terms
pub record AddsAll (codes : List (List ℤ)) (ts us : List Term) (names : List ℤ) : Type 0 where
  pub numbered : IsNumbered codes (terms_after_all ts us)
  pub named : names ≡ map (name_among (terms_after_all ts us)) us
  pub known : list_all (is_known (terms_after_all ts us)) us ≡ true

-- the codes with one more, unless it is there
abbrev pub with_code : List (List ℤ) → List ℤ → List (List ℤ)
with_code cs c = if list_any (pointwise int_eq c) cs then cs else cs ++ c ∷ []

-- codes in `Vec`s
abbrev pub listed : List (Vec ℤ Global) → List (List ℤ)
listed codes = map (λ code. code.items) codes
