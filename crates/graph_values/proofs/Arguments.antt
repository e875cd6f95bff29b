-- The arguments of each distinct subterm are variables of the model, or stand among the distinct subterms, and so
-- does the term of each definition.
use Rattle.std.proofs.Common.{◌≡◌, ℕ, zero, suc, Bool, true, false, ◌||◌, ◌⊎◌, inl, inr, List, [], ◌∷◌, ◌++◌, map, fold, Option, Some, None, refl, sym, ap, ◌∙◌, subst, slice_get, All}
use Rattle.std.specs.Prelude.{if◌then◌else◌, unwrap_or}
use Rattle.std.specs.List.{list_all, list_any}
use Rattle.std.proofs.lemmas.List.Elements.{All-nil, All-cons, All-head, All-tail, All-append, All-weaker}
use Rattle.term_count.specs.Codes.{IsNode, is_known, is_known_by}
use Rattle.term_count.proofs.PlaceLaws.{all_known_front, and_parts, any_last, both, known_front}
use Rattle.term_model.specs.Definitions.{definition_of, is_of, note, term_of}
use Rattle.term_model.specs.Posting.{term_posted}
use Rattle.term_model.specs.SameTerms.{same_term}
use Rattle.term_model.specs.Subterms.{arguments_of, distinct_subterms, joined_terms, once, subterms, subterms_posted, subterms_where, with_subterm}
use Rattle.term_model.specs.declared.model.Model.{Model}
use Rattle.term_model.specs.declared.model.Posted.{Posted}
use Rattle.term_model.specs.declared.model.Posted.TheVariants.{Define, Constrain, Part}
use Rattle.term_model.specs.declared.term.Term.{Term}
use Rattle.term_model.specs.declared.term.Term.TheOpen.{Term-F}
use Rattle.term_model.specs.declared.term.Term.TheViews.{out-Term, out-roll-Term, roll-Term}
use Rattle.term_model.specs.declared.term.Term.TheFolds.{ind-Term, map-Term}
use Rattle.term_model.proofs.EqualTerms.{same_term_equiv}
use Rattle.term_model.proofs.SubtermLaws.{any_append, once_all, subterms_roll}

-- ---- lists
-- what holds of all holds of the one at a place
pub all_at : {X : Type 0} (P : X → Type 0) (xs : List X) (k : ℕ) (x : X) → All P xs → slice_get xs k ≡ Some x → P x
all_at P [] k x all e = let c : None ≡ Some x = e in cc
all_at P (y ∷ xs) zero x all e = subst P (ap (λ o. unwrap_or o y) e) (All-head P y xs all)
all_at P (y ∷ xs) (suc k) x all e = all_at P xs k x (All-tail P y xs all) e

all_same : {X : Type 0} (p q : X → Bool) → ((x : X) → p x ≡ true → q x ≡ true) → (xs : List X) → list_all p xs ≡ true → list_all q xs ≡ true
all_same p q f [] h = refl
all_same p q f (x ∷ xs) h = let parts = and_parts (p x) (list_all p xs) h in both (q x) (list_all q xs) (f x parts.0) (all_same p q f xs parts.1)

-- ---- a term that is known behind others
pub any_back : (p : Term → Bool) (more ts : List Term) → list_any p ts ≡ true → list_any p (more ++ ts) ≡ true
any_back p more ts h = any_append p more ts ∙ other (list_any p more) (list_any p ts) h
  where
    other : (a b : Bool) → b ≡ true → (a || b) ≡ true
    other true b k = refl
    other false b k = k

known_back_by : (more ts : List Term) (t : Term) (y : Term-F Term) → is_known_by ts t y ≡ true → is_known_by (more ++ ts) t y ≡ true
known_back_by more ts t (Term-F.Const x) h = any_back (same_term t) more ts h
known_back_by more ts t (Term-F.ConstSet s) h = any_back (same_term t) more ts h
known_back_by more ts t (Term-F.Var v) h = refl
known_back_by more ts t (Term-F.Node op args place) h = any_back (same_term t) more ts h

pub known_back : (more ts : List Term) (t : Term) → is_known ts t ≡ true → is_known (more ++ ts) t ≡ true
known_back more ts t h = known_back_by more ts t (out-Term t) h

pub known_of_node : (ts : List Term) (t : Term) (y : Term-F Term) → IsNode y → is_known_by ts t y ≡ list_any (same_term t) ts
known_of_node ts t (Term-F.Const x) own = refl
known_of_node ts t (Term-F.ConstSet s) own = refl
known_of_node ts t (Term-F.Var v) own = absurd own
known_of_node ts t (Term-F.Node op args place) own = refl

-- ---- a subterm is no variable, and its arguments are variables or stand among these terms
abbrev pub IsPlaced : List Term → Term → Type 0
IsPlaced ts u = IsNode (out-Term u) × (list_all (is_known ts) (arguments_of (out-Term u)) ≡ true)

placed_front : (ts more us : List Term) → All (IsPlaced ts) us → All (IsPlaced (ts ++ more)) us
placed_front ts more us all = All-weaker (IsPlaced ts) (IsPlaced (ts ++ more)) (λ u h. (h.0, all_known_front ts more (arguments_of (out-Term u)) h.1)) us all

placed_back : (more ts us : List Term) → All (IsPlaced ts) us → All (IsPlaced (more ++ ts)) us
placed_back more ts us all =
    All-weaker (IsPlaced ts) (IsPlaced (more ++ ts)) (λ u h. (h.0, all_same (is_known ts) (is_known (more ++ ts)) (λ a. known_back more ts a) (arguments_of (out-Term u)) h.1)) us all

placed_both : (ts us : List Term) → All (IsPlaced ts) ts → All (IsPlaced us) us → All (IsPlaced (ts ++ us)) (ts ++ us)
placed_both ts us all others = All-append (IsPlaced (ts ++ us)) ts us (placed_front ts us ts all) (placed_back ts us us others)

-- ---- so it is in each term
abbrev pub IsClosed : Term → Type 0
IsClosed t = All (IsPlaced (subterms t)) (subterms t) × (is_known (subterms t) t ≡ true)

abbrev Closed : Type 0
Closed = (t : Term) × IsClosed t

abbrev terms_of : List Closed → List Term
terms_of es = map (λ e. e.0) es

abbrev all_below : List Term → List Term
all_below ts = joined_terms (map subterms ts)

arguments_placed : (es : List Closed) → All (IsPlaced (all_below (terms_of es))) (all_below (terms_of es))
arguments_placed [] = All-nil (IsPlaced [])
arguments_placed (e ∷ es) = placed_both (subterms e.0) (all_below (terms_of es)) e.1.0 (arguments_placed es)

arguments_known : (es : List Closed) → list_all (is_known (all_below (terms_of es))) (terms_of es) ≡ true
arguments_known [] = refl
arguments_known (e ∷ es) =
    let rest = all_below (terms_of es) in
    both (is_known (subterms e.0 ++ rest) e.0) (list_all (is_known (subterms e.0 ++ rest)) (terms_of es)) (known_front (subterms e.0) rest e.0 e.1.1)
    (all_same (is_known rest) (is_known (subterms e.0 ++ rest)) (λ a. known_back (subterms e.0) rest a) (terms_of es) (arguments_known es))

-- a subterm behind those below it
one_closed : (ts below : List Term) (t : Term) (y : Term-F Term) → ts ≡ below ++ t ∷ [] → out-Term t ≡ y → IsNode y → All (IsPlaced below) below → list_all (is_known below) (arguments_of y) ≡ true → All (IsPlaced ts) ts × (is_known ts t ≡ true)
one_closed ts below t y e out own all args =
    let last : IsPlaced (below ++ t ∷ []) t = (subst IsNode (sym out) own, ap (λ z. list_all (is_known (below ++ t ∷ [])) (arguments_of z)) out ∙ all_known_front below (t ∷ []) (arguments_of y) args) in
    let known : is_known (below ++ t ∷ []) t ≡ true = ap (is_known_by (below ++ t ∷ []) t) out ∙ known_of_node (below ++ t ∷ []) t y own ∙ any_last (same_term t) below t (same_term_equiv.refl t) in (
      subst (λ us. All (IsPlaced us) us) (sym e) (All-append (IsPlaced (below ++ t ∷ [])) below (t ∷ []) (placed_front below (t ∷ []) below all) (All-cons (IsPlaced (below ++ t ∷ [])) t [] last (All-nil (IsPlaced (below ++ t ∷ []))))),
      ap (λ us. is_known us t) e ∙ known,
    )

closed_layer : (y : Term-F Closed) → IsClosed (roll-Term (map-Term Closed Term (λ e. e.0) y))
closed_layer (Term-F.Const x) = let z = Term-F.Const x in one_closed (subterms (roll-Term z)) [] (roll-Term z) z (subterms_roll z) (out-roll-Term z) tt (All-nil (IsPlaced [])) refl
closed_layer (Term-F.ConstSet s) = let z = Term-F.ConstSet s in one_closed (subterms (roll-Term z)) [] (roll-Term z) z (subterms_roll z) (out-roll-Term z) tt (All-nil (IsPlaced [])) refl
closed_layer (Term-F.Var v) =
    let z = Term-F.Var v in
    (subst (λ us. All (IsPlaced us) us) (sym (subterms_roll z)) (All-nil (IsPlaced [])), ap (is_known_by (subterms (roll-Term z)) (roll-Term z)) (out-roll-Term z))
closed_layer (Term-F.Node op args place) =
    let z = map-Term Closed Term (λ e. e.0) (Term-F.Node op args place) in
    one_closed (subterms (roll-Term z)) (all_below (terms_of args.items)) (roll-Term z) z (subterms_roll z) (out-roll-Term z) tt (arguments_placed args.items) (arguments_known args.items)

pub closed : (t : Term) → IsClosed t
closed = ind-Term IsClosed (λ x y is. subst (λ z. IsClosed (roll-Term z)) is (closed_layer y))

-- ---- so it is in all that was posted
placed_where : (t : Option Term) → All (IsPlaced (subterms_where t)) (subterms_where t)
placed_where (Some t) = (closed t).0
placed_where None = All-nil (IsPlaced [])

pub placed_posted : (M : Model) (posted : List Posted) → All (IsPlaced (subterms_posted M posted)) (subterms_posted M posted)
placed_posted M [] = All-nil (IsPlaced [])
placed_posted M (p ∷ posted) = placed_both (subterms_where (term_posted M p)) (subterms_posted M posted) (placed_where (term_posted M p)) (placed_posted M posted)

-- the term of a definition that was posted is known
module _ (M : Model) (i d : ℕ) (t : Term) (there : term_of M.defs.items d ≡ Some t) where
  abbrev IsThere : List Posted → Type 0
  IsThere posted = is_known (subterms_posted M posted) t ≡ true

  noted : (posted : List Posted) (so_far : Option ℕ) → fold (note M.defs.items i) so_far posted ≡ Some d → (so_far ≡ Some d) ⊎ IsThere posted
  noted [] so_far e = inl e
  noted (p ∷ posted) so_far e = elim (noted posted (note M.defs.items i so_far p) e) [
    | inl now ↦ first p now
    | inr later ↦ inr (known_back (subterms_where (term_posted M p)) (subterms_posted M posted) t later)
  ]
    where
      by_test : (d' : ℕ) (b : Bool) → (if b then Some d' else so_far) ≡ Some d → (so_far ≡ Some d) ⊎ IsThere (Define d' ∷ posted)
      by_test d' true now =
          let same : d' ≡ d = ap (λ o. unwrap_or o d) now in
          let own : subterms_where (term_posted M (Define d')) ≡ subterms t = ap subterms_where (ap (term_of M.defs.items) same ∙ there) in
          inr (ap (λ us. is_known (us ++ subterms_posted M posted) t) own ∙ known_front (subterms t) (subterms_posted M posted) t (closed t).1)
      by_test d' false now = inl now

      first : (q : Posted) → note M.defs.items i so_far q ≡ Some d → (so_far ≡ Some d) ⊎ IsThere (q ∷ posted)
      first (Define d') now = by_test d' (is_of M.defs.items i d') now
      first (Constrain system member) now = inl now
      first (Part objective member) now = inl now

-- ---- and so among the distinct ones
known_once_by : (ts : List Term) (t : Term) (y : Term-F Term) → is_known_by (once ts) t y ≡ is_known_by ts t y
known_once_by ts t (Term-F.Const x) = once_all t ts
known_once_by ts t (Term-F.ConstSet s) = once_all t ts
known_once_by ts t (Term-F.Var v) = refl
known_once_by ts t (Term-F.Node op args place) = once_all t ts

known_once : (ts : List Term) (t : Term) → is_known (once ts) t ≡ is_known ts t
known_once ts t = known_once_by ts t (out-Term t)

module _ (P : Term → Type 0) where
  with_all : (ds : List Term) (t : Term) (b : Bool) → All P ds → P t → All P (if b then ds else ds ++ t ∷ [])
  with_all ds t true all one = all
  with_all ds t false all one = All-append P ds (t ∷ []) all (All-cons P t [] one (All-nil P))

  pub fold_all : (ds ts : List Term) → All P ds → All P ts → All P (fold with_subterm ds ts)
  fold_all ds [] all others = all
  fold_all ds (t ∷ ts) all others = fold_all (with_subterm ds t) ts (with_all ds t (list_any (same_term t) ds) all (All-head P t ts others)) (All-tail P t ts others)

placed_once : (ts : List Term) → All (IsPlaced ts) ts → All (IsPlaced (once ts)) (once ts)
placed_once ts all =
    fold_all (IsPlaced (once ts)) [] ts (All-nil (IsPlaced (once ts)))
    (All-weaker (IsPlaced ts) (IsPlaced (once ts)) (λ u h. (h.0, all_same (is_known ts) (is_known (once ts)) (λ a k. known_once ts a ∙ k) (arguments_of (out-Term u)) h.1)) ts all)

module _ (M : Model) where
  pub arguments_there : (k : ℕ) (t : Term) → slice_get (distinct_subterms M) k ≡ Some t → IsPlaced (distinct_subterms M) t
  arguments_there k t e = all_at (IsPlaced (distinct_subterms M)) (distinct_subterms M) k t (placed_once (subterms_posted M M.posted.items) (placed_posted M M.posted.items)) e

  pub definition_there : (i d : ℕ) (t : Term) → definition_of M i ≡ Some d → term_of M.defs.items d ≡ Some t → is_known (distinct_subterms M) t ≡ true
  definition_there i d t is there = known_once (subterms_posted M M.posted.items) t ∙ by (noted M i d t there M.posted.items None is)
    where
      by : (None ≡ Some d) ⊎ (is_known (subterms_posted M M.posted.items) t ≡ true) → is_known (subterms_posted M M.posted.items) t ≡ true
      by (inl none) = let c : None ≡ Some d = none in cc
      by (inr yes') = yes'

-- ---- what was posted is known
abbrev IsPosted : Model → List Term → Posted → Type 0
IsPosted M ts p = (t : Term) → term_posted M p ≡ Some t → is_known ts t ≡ true

posted_known : (M : Model) (posted : List Posted) → All (IsPosted M (subterms_posted M posted)) posted
posted_known M [] = All-nil (IsPosted M [])
posted_known M (p ∷ posted) =
    All-cons (IsPosted M (subterms_posted M (p ∷ posted))) p posted
    (λ t e. ap (λ o. is_known (subterms_where o ++ subterms_posted M posted) t) e ∙ known_front (subterms t) (subterms_posted M posted) t (closed t).1)
    (All-weaker (IsPosted M (subterms_posted M posted)) (IsPosted M (subterms_posted M (p ∷ posted))) (λ q h t e. known_back (subterms_where (term_posted M p)) (subterms_posted M posted) t (h t e)) posted (posted_known M posted))

pub all_posted : (M : Model) → All (λ p. (t : Term) → term_posted M p ≡ Some t → is_known (distinct_subterms M) t ≡ true) M.posted.items
all_posted M =
    All-weaker (IsPosted M (subterms_posted M M.posted.items)) (IsPosted M (distinct_subterms M)) (λ p h t e. known_once (subterms_posted M M.posted.items) t ∙ h t e) M.posted.items (posted_known M M.posted.items)
