-- Equal terms have one id, others do not, and an id stays as terms are added.
use Rattle.std.proofs.Common.{◌≡◌, ℕ, ℤ, pos, negsuc, ◌+◌, Bool, true, false, List, [], ◌∷◌, ◌++◌, refl, sym, ap, ◌∙◌}
use Rattle.std.specs.Prelude.{if◌then◌else◌}
use Rattle.std.specs.List.{list_any}
use Rattle.term_count.specs.Codes.{is_known, is_known_by, name_by}
use Rattle.term_count.specs.Numbering.{terms_after, terms_after_all}
use Rattle.term_count.proofs.CodeLaws.{name_alike, name_same}
use Rattle.term_count.proofs.Numbered.{fold_grows, node_below, number_below, set_below}
use Rattle.term_count.proofs.PlaceLaws.{any_last, known_front}
use Rattle.term_graph.specs.Adding.{name_of_id}
use Rattle.term_graph.specs.Ids.{HasCells, id_among, id_by}
use Rattle.term_graph.proofs.IdLaws.{id_front_by, name_back_by}
use Rattle.term_model.proofs.EqualTerms.{roll_out, same_term_equiv}
use Rattle.term_model.specs.SameTerms.{same_term}
use Rattle.term_model.specs.Subterms.{subterms, with_subterm}
use Rattle.term_model.specs.declared.term.Term.{Term}
use Rattle.term_model.specs.declared.term.Term.TheOpen.{Term-F}
use Rattle.term_model.specs.declared.term.Term.TheViews.{out-Term, roll-Term}
use Rattle.term_model.specs.declared.term.Term.TheVariants.{rolls-Const, rolls-ConstSet, rolls-Node}

-- ---- ids by names
abbrev id_of_name : ℕ → ℤ → ℕ
id_of_name cells (pos n) = cells + n
id_of_name cells (negsuc n) = n

by_name : (cells : ℕ) (ts : List Term) (t : Term) (y : Term-F Term) → id_by cells ts t y ≡ id_of_name cells (name_by ts t y)
by_name cells ts t (Term-F.Const x) = refl
by_name cells ts t (Term-F.ConstSet s) = refl
by_name cells ts t (Term-F.Var v) = refl
by_name cells ts t (Term-F.Node op args place) = refl

pub ids_alike : (cells : ℕ) (ts : List Term) (t u : Term) → same_term t u ≡ true → id_among cells ts t ≡ id_among cells ts u
ids_alike cells ts t u same = by_name cells ts t (out-Term t) ∙ ap (id_of_name cells) (name_alike ts t u same) ∙ sym (by_name cells ts u (out-Term u))

pub ids_apart : (cells : ℕ) (ts : List Term) (t u : Term) → is_known ts t ≡ true → HasCells cells t → HasCells cells u → id_among cells ts t ≡ id_among cells ts u → same_term t u ≡ true
ids_apart cells ts t u known below other e =
    name_same ts t u known (sym (name_back_by cells ts t (out-Term t) refl below) ∙ ap (name_of_id cells) e ∙ name_back_by cells ts u (out-Term u) refl other)

-- ---- more terms
pub id_stays : (cells : ℕ) (ts : List Term) (t u : Term) → is_known ts t ≡ true → (is_known (terms_after ts u) t ≡ true) × (id_among cells (terms_after ts u) t ≡ id_among cells ts t)
id_stays cells ts t u known =
    let grows = fold_grows ts (subterms u) in
    let front : terms_after ts u ≡ ts ++ grows.0 = grows.1 in
    (ap (λ vs. is_known vs t) front ∙ known_front ts grows.0 t known, ap (λ vs. id_among cells vs t) front ∙ id_front_by cells ts grows.0 t (out-Term t) known)

with_itself : (ts : List Term) (t : Term) → list_any (same_term t) (with_subterm ts t) ≡ true
with_itself ts t = cases (list_any (same_term t) ts) refl
  where
    cases : (b : Bool) → list_any (same_term t) ts ≡ b → list_any (same_term t) (with_subterm ts t) ≡ true
    cases true e = ap (λ b. list_any (same_term t) (if b then ts else ts ++ t ∷ [])) e ∙ e
    cases false e = ap (λ b. list_any (same_term t) (if b then ts else ts ++ t ∷ [])) e ∙ any_last (same_term t) ts t (same_term_equiv.refl t)

known_by : (ts : List Term) (t : Term) (y : Term-F Term) → t ≡ roll-Term y → is_known_by (terms_after ts t) t y ≡ true
known_by ts t (Term-F.Const x) e = ap (list_any (same_term t)) (number_below ts t x (e ∙ rolls-Const x)) ∙ with_itself ts t
known_by ts t (Term-F.ConstSet s) e = ap (list_any (same_term t)) (set_below ts t s (e ∙ rolls-ConstSet s)) ∙ with_itself ts t
known_by ts t (Term-F.Var v) e = refl
known_by ts t (Term-F.Node op args place) e = ap (list_any (same_term t)) (node_below ts t op args place (e ∙ rolls-Node op args place)) ∙ with_itself (terms_after_all ts args.items) t

pub known_after : (ts : List Term) (t : Term) → is_known (terms_after ts t) t ≡ true
known_after ts t = known_by ts t (out-Term t) (sym (roll_out t))
