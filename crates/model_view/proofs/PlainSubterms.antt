-- The subterms of a plain twin are the twins of the subterms, and so are the distinct ones.
use Rattle.std.proofs.Common.{◌≡◌, refl, sym, subst, ap, ◌∙◌, Bool, true, false, ◌||◌, List, [], ◌∷◌, ◌++◌, map, fold}
use Rattle.std.specs.Prelude.{if◌then◌else◌}
use Rattle.std.specs.List.{list_any}
use Rattle.term_model.specs.SameTerms.{same_term}
use Rattle.term_model.specs.Subterms.{joined_terms, arguments_of, each_listed, subterms_step, subterms, with_subterm, once}
use Rattle.term_model.specs.declared.term.Term.{Term}
use Rattle.term_model.specs.declared.term.Term.TheOpen.{Term-F}
use Rattle.term_model.specs.declared.term.Term.TheViews.{roll-Term, out-Term, out-roll-Term}
use Rattle.term_model.specs.declared.term.Term.TheFolds.{fold-Term, fold-roll-Term, ind-Term, map-Term}
use Rattle.model_view.specs.Plain.{plain_term}
use Rattle.model_view.proofs.PlainParts.{same_both, plain_layer, plain_roll, args_of_vec}

abbrev Lister : Type 0
Lister = Term → List Term

each_joined : (ts : List Term) → each_listed (map (fold-Term Lister subterms_step) ts) ts ≡ joined_terms (map subterms ts)
each_joined [] = refl
each_joined (t ∷ ts) = ap (λ us. subterms t ++ us) (each_joined ts)

abbrev below : Term-F Term → List Term
below y = joined_terms (map subterms (arguments_of y))

abbrev own : Term-F Term → Term → List Term
own (Term-F.Const x) t = t ∷ []
own (Term-F.ConstSet s) t = t ∷ []
own (Term-F.Var v) t = []
own (Term-F.Node op args place) t = t ∷ []

by_layer : (y : Term-F Term) (t : Term) → out-Term t ≡ y → subterms_step (map-Term Term Lister (fold-Term Lister subterms_step) y) t ≡ below y ++ own y t
by_layer (Term-F.Const x) t e = refl
by_layer (Term-F.ConstSet s) t e = refl
by_layer (Term-F.Var v) t e = refl
by_layer (Term-F.Node op args place) t e =
    ap (λ z. each_listed (map (fold-Term Lister subterms_step) args.items) (arguments_of z) ++ t ∷ []) e ∙ ap (λ us. us ++ t ∷ []) (each_joined args.items)

subterms_roll : (y : Term-F Term) → subterms (roll-Term y) ≡ below y ++ own y (roll-Term y)
subterms_roll y = ap (λ (f : Lister). f (roll-Term y)) (fold-roll-Term Lister subterms_step y) ∙ by_layer y (roll-Term y) (out-roll-Term y)

pub map_append : {X Y : Type 0} (f : X → Y) (xs ys : List X) → map f (xs ++ ys) ≡ map f xs ++ map f ys
map_append f [] ys = refl
map_append f (x ∷ xs) ys = ap (λ zs. f x ∷ zs) (map_append f xs ys)

abbrev IsSameBelow : Term → Type 0
IsSameBelow t = subterms (plain_term t) ≡ map plain_term (subterms t)

abbrev Known : Type 0
Known = (t : Term) × IsSameBelow t

joined_plain : (es : List Known) → joined_terms (map subterms (map plain_term (map (λ e. e.0) es))) ≡ map plain_term (joined_terms (map subterms (map (λ e. e.0) es)))
joined_plain [] = refl
joined_plain (e ∷ es) =
    ap (λ ts. ts ++ joined_terms (map subterms (map plain_term (map (λ x. x.0) es)))) e.1
    ∙ ap (λ ts. map plain_term (subterms e.0) ++ ts) (joined_plain es)
    ∙ sym (map_append plain_term (subterms e.0) _)

below_plain : (y : Term-F Known) → below (plain_layer (map-Term Known Term (λ e. e.0) y)) ≡ map plain_term (below (map-Term Known Term (λ e. e.0) y))
below_plain (Term-F.Const x) = refl
below_plain (Term-F.ConstSet s) = refl
below_plain (Term-F.Var v) = refl
below_plain (Term-F.Node op args place) =
    let z : Term-F Term = map-Term Known Term (λ e. e.0) (Term-F.Node op args place) in
    ap (λ ts. joined_terms (map subterms ts)) (vec_args z) ∙ joined_plain args.items where
      vec_args : (z : Term-F Term) → arguments_of (plain_layer z) ≡ map plain_term (arguments_of z)
      vec_args (Term-F.Const x) = refl
      vec_args (Term-F.ConstSet s) = refl
      vec_args (Term-F.Var v) = refl
      vec_args (Term-F.Node o us p) = args_of_vec us

own_plain : (z : Term-F Term) → own (plain_layer z) (roll-Term (plain_layer z)) ≡ map plain_term (own z (roll-Term z))
own_plain (Term-F.Const x) = ap (λ t. t ∷ []) (sym (plain_roll (Term-F.Const x)))
own_plain (Term-F.ConstSet s) = ap (λ t. t ∷ []) (sym (plain_roll (Term-F.ConstSet s)))
own_plain (Term-F.Var v) = refl
own_plain (Term-F.Node op args place) = ap (λ t. t ∷ []) (sym (plain_roll (Term-F.Node op args place)))

pub same_subterms : (t : Term) → subterms (plain_term t) ≡ map plain_term (subterms t)
same_subterms = ind-Term IsSameBelow (λ x y is. subst (λ z. IsSameBelow (roll-Term z)) is (rolled y)) where
  rolled : (y : Term-F Known) → IsSameBelow (roll-Term (map-Term Known Term (λ e. e.0) y))
  rolled y =
      let z : Term-F Term = map-Term Known Term (λ e. e.0) y in
      ap subterms (plain_roll z)
      ∙ subterms_roll (plain_layer z)
      ∙ ap (λ ts. ts ++ own (plain_layer z) (roll-Term (plain_layer z))) (below_plain y)
      ∙ ap (λ ts. map plain_term (below z) ++ ts) (own_plain z)
      ∙ sym (map_append plain_term (below z) (own z (roll-Term z)))
      ∙ ap (map plain_term) (sym (subterms_roll z))

-- distinct ones

pub any_plain : (t : Term) (ts : List Term) → list_any (same_term (plain_term t)) (map plain_term ts) ≡ list_any (same_term t) ts
any_plain t [] = refl
any_plain t (u ∷ us) = ap (λ b. b || list_any (same_term (plain_term t)) (map plain_term us)) (same_both t u) ∙ ap (λ b. same_term t u || b) (any_plain t us)

with_plain : (ts : List Term) (t : Term) → with_subterm (map plain_term ts) (plain_term t) ≡ map plain_term (with_subterm ts t)
with_plain ts t = ap (λ b. if b then map plain_term ts else map plain_term ts ++ plain_term t ∷ []) (any_plain t ts) ∙ by_test (list_any (same_term t) ts) where
  by_test : (b : Bool) → (if b then map plain_term ts else map plain_term ts ++ plain_term t ∷ []) ≡ map plain_term (if b then ts else ts ++ t ∷ [])
  by_test true = refl
  by_test false = sym (map_append plain_term ts (t ∷ []))

pub fold_plain : (ts us : List Term) → fold with_subterm (map plain_term ts) (map plain_term us) ≡ map plain_term (fold with_subterm ts us)
fold_plain ts [] = refl
fold_plain ts (u ∷ us) = ap (λ vs. fold with_subterm vs (map plain_term us)) (with_plain ts u) ∙ fold_plain (with_subterm ts u) us

pub once_plain : (ts : List Term) → once (map plain_term ts) ≡ map plain_term (once ts)
once_plain ts = fold_plain [] ts
