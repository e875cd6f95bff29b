-- The distinct subterms of a model, in the order of their numbers from 0: the subterms of all terms that were
-- posted, in the order of posting and each in post-order, without variables, and equal ones once, at their
-- first place. Each posted constraint of a user has a number of its own, so no two of these are equal. How
-- many there are counts for the limit of term nodes; the totals of systems and objectives are none. A rule of
-- this project.
use Rattle.std.specs.Prelude.{List, [], ◌∷◌, ◌++◌, fold, map, Option, Some, None, if◌then◌else◌}
use Rattle.std.specs.List.{list_any}
use Rattle.term_model.specs.Posting.{term_posted}
use Rattle.term_model.specs.SameTerms.{same_term}
use Rattle.term_model.specs.declared.model.Model.{Model}
use Rattle.term_model.specs.declared.model.Posted.{Posted}
use Rattle.term_model.specs.declared.term.Term.{Term}
use Rattle.term_model.specs.declared.term.Term.TheOpen.{Term-F}
use Rattle.term_model.specs.declared.term.Term.TheViews.{out-Term}
use Rattle.term_model.specs.declared.term.Term.TheFolds.{fold-Term}

abbrev pub joined_terms : List (List Term) → List Term
joined_terms [] = []
joined_terms (ts ∷ tss) = ts ++ joined_terms tss

-- ---- the subterms of a term in post-order, itself last unless it is a variable
abbrev pub arguments_of : Term-F Term → List Term
arguments_of (Term-F.Const x) = []
arguments_of (Term-F.ConstSet s) = []
arguments_of (Term-F.Var v) = []
arguments_of (Term-F.Node op args place) = args.items

-- what each argument gives, by the function in its place
abbrev pub each_listed : List (Term → List Term) → List Term → List Term
each_listed [] ts = []
each_listed (list ∷ lists) [] = []
each_listed (list ∷ lists) (t ∷ ts) = list t ++ each_listed lists ts

abbrev pub subterms_step : Term-F (Term → List Term) → Term → List Term
subterms_step (Term-F.Const x) t = t ∷ []
subterms_step (Term-F.ConstSet s) t = t ∷ []
subterms_step (Term-F.Var v) t = []
subterms_step (Term-F.Node op lists place) t = each_listed lists.items (arguments_of (out-Term t)) ++ t ∷ []

abbrev pub subterms : Term → List Term
subterms t = fold-Term (Term → List Term) subterms_step t t

-- ---- those of what was posted
abbrev pub subterms_where : Option Term → List Term
subterms_where (Some t) = subterms t
subterms_where None = []

abbrev pub subterms_posted : Model → List Posted → List Term
subterms_posted M posted = joined_terms (map (λ p. subterms_where (term_posted M p)) posted)

-- ---- each once, where it stands first
abbrev pub with_subterm : List Term → Term → List Term
with_subterm ts t = if list_any (same_term t) ts then ts else ts ++ t ∷ []

abbrev pub once : List Term → List Term
once ts = fold with_subterm [] ts

abbrev pub distinct_subterms : Model → List Term
distinct_subterms M = once (subterms_posted M M.posted.items)
