-- Equal terms have equal subterms, so a term that was posted before adds none; and what is first among the
-- distinct subterms is first among all.
use Rattle.std.proofs.Common.{◌≡◌, ℕ, zero, suc, Bool, true, false, cond, ◌||◌, inl, inr, Vec, Global, List, [], ◌∷◌, ◌++◌, Some, None, fold, map, refl, sym, ap, ◌∙◌, subst, slice_get, All, length, ◌⊎◌}
use Rattle.std.specs.Prelude.{unwrap_or, if◌then◌else◌}
use Rattle.std.specs.List.{find, list_any}
use Rattle.std.proofs.lemmas.Bool.{and_parts}
use Rattle.std.proofs.lemmas.List.{append_assoc, append-nil}
use Rattle.std.proofs.lemmas.List.Elements.{All-nil, All-cons, All-head, All-tail, All-append}
use Rattle.std.proofs.lemmas.List.Sums.{fold-append}
use Rattle.cbl_operations.specs.declared.op.Op.{Op}
use Rattle.cbl_base.specs.declared.place.Place.{Place}
use Rattle.term_model.specs.Posting.{term_posted}
use Rattle.term_model.specs.SameOperations.{same_operation}
use Rattle.term_model.specs.SameTerms.{all_pass, same_layer, same_term}
use Rattle.term_model.specs.Subterms.{arguments_of, each_listed, joined_terms, once, subterms, subterms_posted, subterms_step, subterms_where, with_subterm}
use Rattle.term_model.specs.declared.model.Model.{Model}
use Rattle.term_model.specs.declared.model.Posted.{Posted}
use Rattle.term_model.specs.declared.term.Term.{Term}
use Rattle.term_model.specs.declared.term.Term.TheOpen.{Term-F}
use Rattle.term_model.specs.declared.term.Term.TheViews.{Node, out-Term, out-roll-Term, roll-Term}
use Rattle.term_model.specs.declared.term.Term.TheVariants.{rolls-Node}
use Rattle.term_model.specs.declared.term.Term.TheFolds.{fold-Term, fold-roll-Term, ind-Term, map-Term}
use Rattle.term_model.proofs.EqualTerms.{roll_out, same_congruent, same_term_equiv}
use Rattle.term_model.proofs.NamingLaws.{last_or}
use Rattle.term_model.proofs.SameLaws.{same_roll}

abbrev Test : Type 0
Test = Term → Bool

-- ---- the subterms of one layer
abbrev Lister : Type 0
Lister = Term → List Term

each_joined : (ts : List Term) → each_listed (map (fold-Term Lister subterms_step) ts) ts ≡ joined_terms (map subterms ts)
each_joined [] = refl
each_joined (t ∷ ts) = ap (λ us. subterms t ++ us) (each_joined ts)

abbrev below : Term-F Term → List Term
below y = joined_terms (map subterms (arguments_of y))

abbrev own : Term-F Term → Term → List Term
own (Term-F.Const x) t = t ∷ []
own (Term-F.ConstSet s) t = t ∷ []
own (Term-F.Var v) t = []
own (Term-F.Node op args place) t = t ∷ []

by_layer : (y : Term-F Term) (t : Term) → out-Term t ≡ y → subterms_step (map-Term Term Lister (fold-Term Lister subterms_step) y) t ≡ below y ++ own y t
by_layer (Term-F.Const x) t e = refl
by_layer (Term-F.ConstSet s) t e = refl
by_layer (Term-F.Var v) t e = refl
by_layer (Term-F.Node op args place) t e =
    ap (λ z. each_listed (map (fold-Term Lister subterms_step) args.items) (arguments_of z) ++ t ∷ []) e ∙ ap (λ us. us ++ t ∷ []) (each_joined args.items)

pub subterms_roll : (y : Term-F Term) → subterms (roll-Term y) ≡ below y ++ own y (roll-Term y)
subterms_roll y = ap (λ (f : Lister). f (roll-Term y)) (fold-roll-Term Lister subterms_step y) ∙ by_layer y (roll-Term y) (out-roll-Term y)

pub subterms_node : (t : Term) (op : Op) (args : Vec Term Global) (place : Place) → t ≡ Node op args place → subterms t ≡ joined_terms (map subterms args.items) ++ t ∷ []
subterms_node t op args place e =
    let whole : t ≡ roll-Term (Term-F.Node op args place) = e ∙ sym (rolls-Node op args place) in
    ap subterms whole ∙ subterms_roll (Term-F.Node op args place) ∙ ap (λ u. joined_terms (map subterms args.items) ++ u ∷ []) (sym whole)

-- ---- what stands among others
one_or : (a b : Bool) → a ≡ true → (a || b) ≡ true
one_or true b h = refl
one_or false b h = let c : false ≡ true = h in cc

other_or : (a b : Bool) → b ≡ true → (a || b) ≡ true
other_or true b h = refl
other_or false b h = h

pub any_append : (p : Test) (xs ys : List Term) → list_any p (xs ++ ys) ≡ (list_any p xs || list_any p ys)
any_append p [] ys = refl
any_append p (x ∷ xs) ys = ap (λ b. p x || b) (any_append p xs ys) ∙ or_assoc (p x) (list_any p xs) (list_any p ys)
  where
    or_assoc : (a b c : Bool) → (a || (b || c)) ≡ ((a || b) || c)
    or_assoc true b c = refl
    or_assoc false b c = refl

any_left : (p : Test) (xs ys : List Term) → list_any p xs ≡ true → list_any p (xs ++ ys) ≡ true
any_left p xs ys h = any_append p xs ys ∙ one_or (list_any p xs) (list_any p ys) h

any_right : (p : Test) (xs ys : List Term) → list_any p ys ≡ true → list_any p (xs ++ ys) ≡ true
any_right p xs ys h = any_append p xs ys ∙ other_or (list_any p xs) (list_any p ys) h

pub any_same : (p q : Test) → ((t : Term) → p t ≡ q t) → (xs : List Term) → list_any p xs ≡ list_any q xs
any_same p q same [] = refl
any_same p q same (x ∷ xs) = ap (λ b. b || list_any p xs) (same x) ∙ ap (λ b. q x || b) (any_same p q same xs)

abbrev StandsIn : List Term → Term → Type 0
StandsIn ts u = list_any (same_term u) ts ≡ true

all_left : (us xs ys : List Term) → All (StandsIn xs) us → All (StandsIn (xs ++ ys)) us
all_left us xs ys all i d lt = any_left _ xs ys (all i d lt)

all_right : (us xs ys : List Term) → All (StandsIn ys) us → All (StandsIn (xs ++ ys)) us
all_right us xs ys all i d lt = any_right _ xs ys (all i d lt)

-- ---- equal terms have equal subterms
abbrev IsAgain : Term → Type 0
IsAgain t = (u : Term) → same_term t u ≡ true → All (StandsIn (subterms t)) (subterms u)

abbrev Known : Type 0
Known = (t : Term) × IsAgain t

abbrev terms_of : List Known → List Term
terms_of es = map (λ e. e.0) es

args_again : (es : List Known) (us : List Term) → all_pass (map same_term (terms_of es)) us ≡ true → All (StandsIn (joined_terms (map subterms (terms_of es)))) (joined_terms (map subterms us))
args_again [] [] h = All-nil (StandsIn [])
args_again [] (u ∷ us) h = let c : false ≡ true = h in cc
args_again (e ∷ es) [] h = let c : false ≡ true = h in cc
args_again (e ∷ es) (u ∷ us) h =
    let parts = and_parts (same_term e.0 u) (all_pass (map same_term (terms_of es)) us) h in
    let all = joined_terms (map subterms (terms_of es)) in
    All-append (StandsIn (subterms e.0 ++ all)) (subterms u) (joined_terms (map subterms us))
    (all_left (subterms u) (subterms e.0) all (e.1 u parts.0))
    (all_right (joined_terms (map subterms us)) (subterms e.0) all (args_again es us parts.1))

itself_in : (t u : Term) → same_term t u ≡ true → StandsIn (t ∷ []) u
itself_in t u h = one_or (same_term u t) false (same_term_equiv.symm u t ∙ h)

one_in : (t u : Term) → same_term t u ≡ true → All (StandsIn (t ∷ [])) (u ∷ [])
one_in t u h = All-cons (StandsIn (t ∷ [])) u [] (itself_in t u h) (All-nil (StandsIn (t ∷ [])))

layer_again : (y : Term-F Known) (z : Term-F Term) (t u : Term) → same_term t u ≡ true → same_layer (map-Term Term Test same_term (map-Term Known Term (λ e. e.0) y)) z ≡ true →
    All (StandsIn (below (map-Term Known Term (λ e. e.0) y) ++ own (map-Term Known Term (λ e. e.0) y) t)) (below z ++ own z u)
layer_again (Term-F.Const x) (Term-F.Const x') t u same h = one_in t u same
layer_again (Term-F.Const x) (Term-F.ConstSet s) t u same h = let c : false ≡ true = h in cc
layer_again (Term-F.Const x) (Term-F.Var v) t u same h = let c : false ≡ true = h in cc
layer_again (Term-F.Const x) (Term-F.Node op args place) t u same h = let c : false ≡ true = h in cc
layer_again (Term-F.ConstSet s) (Term-F.Const x) t u same h = let c : false ≡ true = h in cc
layer_again (Term-F.ConstSet s) (Term-F.ConstSet s') t u same h = one_in t u same
layer_again (Term-F.ConstSet s) (Term-F.Var v) t u same h = let c : false ≡ true = h in cc
layer_again (Term-F.ConstSet s) (Term-F.Node op args place) t u same h = let c : false ≡ true = h in cc
layer_again (Term-F.Var v) (Term-F.Const x) t u same h = let c : false ≡ true = h in cc
layer_again (Term-F.Var v) (Term-F.ConstSet s) t u same h = let c : false ≡ true = h in cc
layer_again (Term-F.Var v) (Term-F.Var v') t u same h = All-nil (StandsIn [])
layer_again (Term-F.Var v) (Term-F.Node op args place) t u same h = let c : false ≡ true = h in cc
layer_again (Term-F.Node op args place) (Term-F.Const x) t u same h = let c : false ≡ true = h in cc
layer_again (Term-F.Node op args place) (Term-F.ConstSet s) t u same h = let c : false ≡ true = h in cc
layer_again (Term-F.Node op args place) (Term-F.Var v) t u same h = let c : false ≡ true = h in cc
layer_again (Term-F.Node op args place) (Term-F.Node op' args' place') t u same h =
    let parts = and_parts (same_operation op' op) (all_pass (map same_term (terms_of args.items)) args'.items) h in
    let all = joined_terms (map subterms (terms_of args.items)) in
    All-append (StandsIn (all ++ t ∷ [])) (joined_terms (map subterms args'.items)) (u ∷ [])
    (all_left (joined_terms (map subterms args'.items)) all (t ∷ []) (args_again args.items args'.items parts.1))
    (all_right (u ∷ []) all (t ∷ []) (one_in t u same))

pub subterms_again : (t : Term) → IsAgain t
subterms_again = ind-Term IsAgain (λ x y is. subst (λ z. IsAgain (roll-Term z)) is (rolled (map-Term Known Term (λ e. e.0) y) (layer_again y)))
  where
    rolled : (z : Term-F Term) → ((w : Term-F Term) (t u : Term) → same_term t u ≡ true → same_layer (map-Term Term Test same_term z) w ≡ true → All (StandsIn (below z ++ own z t)) (below w ++ own w u)) → IsAgain (roll-Term z)
    rolled z h u same =
        let whole : subterms u ≡ below (out-Term u) ++ own (out-Term u) u = ap subterms (sym (roll_out u)) ∙ subterms_roll (out-Term u) ∙ ap (λ v. below (out-Term u) ++ own (out-Term u) v) (roll_out u) in
        subst (λ ts. All (StandsIn ts) (subterms u)) (sym (subterms_roll z))
        (subst (All (StandsIn (below z ++ own z (roll-Term z)))) (sym whole) (h (out-Term u) (roll-Term z) u same (sym (same_roll z u) ∙ same)))

-- ---- each once
with_any : (y x : Term) (ds : List Term) (is : Bool) → list_any (same_term x) ds ≡ is → list_any (same_term y) (if is then ds else ds ++ x ∷ []) ≡ (list_any (same_term y) ds || same_term y x)
with_any y x ds false e = any_append (same_term y) ds (x ∷ []) ∙ ap (λ b. list_any (same_term y) ds || b) (last (same_term y x))
  where
    last : (b : Bool) → (b || false) ≡ b
    last true = refl
    last false = refl
with_any y x ds true e = cases (same_term y x) refl
  where
    cases : (b : Bool) → same_term y x ≡ b → list_any (same_term y) ds ≡ (list_any (same_term y) ds || same_term y x)
    cases true h = any_same (same_term y) (same_term x) (λ z. same_congruent y x z h) ds ∙ e ∙ sym (other_or (list_any (same_term y) ds) (same_term y x) h)
    cases false h = last (list_any (same_term y) ds) (same_term y x) h
      where
        last : (a b : Bool) → b ≡ false → a ≡ (a || b)
        last true b k = refl
        last false b k = sym k

fold_any : (y : Term) (ds xs : List Term) → list_any (same_term y) (fold with_subterm ds xs) ≡ (list_any (same_term y) ds || list_any (same_term y) xs)
fold_any y ds [] = last (list_any (same_term y) ds)
  where
    last : (b : Bool) → b ≡ (b || false)
    last true = refl
    last false = refl
fold_any y ds (x ∷ xs) =
    fold_any y (with_subterm ds x) xs ∙ ap (λ b. b || list_any (same_term y) xs) (with_any y x ds (list_any (same_term x) ds) refl)
    ∙ or_assoc (list_any (same_term y) ds) (same_term y x) (list_any (same_term y) xs)
  where
    or_assoc : (a b c : Bool) → ((a || b) || c) ≡ (a || (b || c))
    or_assoc true b c = refl
    or_assoc false b c = refl

-- each of them stands there once at least
pub once_all : (y : Term) (xs : List Term) → list_any (same_term y) (once xs) ≡ list_any (same_term y) xs
once_all y xs = fold_any y [] xs

-- those that stand there add nothing
fold_none : (ds ys : List Term) → All (StandsIn ds) ys → fold with_subterm ds ys ≡ ds
fold_none ds [] all = refl
fold_none ds (y ∷ ys) all =
    let here : with_subterm ds y ≡ ds = ap (λ b. if b then ds else ds ++ y ∷ []) (All-head (StandsIn ds) y ys all) in
    ap (λ es. fold with_subterm es ys) here ∙ fold_none ds ys (All-tail (StandsIn ds) y ys all)

once_again : (xs ys : List Term) → All (StandsIn xs) ys → once (xs ++ ys) ≡ once xs
once_again xs ys all =
    fold-append with_subterm [] xs ys ∙ fold_none (once xs) ys (λ i d lt. once_all _ xs ∙ all i d lt)

joined_push : (tss : List (List Term)) (ts : List Term) → joined_terms (tss ++ ts ∷ []) ≡ joined_terms tss ++ ts
joined_push [] ts = append-nil ts
joined_push (us ∷ tss) ts = ap (λ vs. us ++ vs) (joined_push tss ts) ∙ sym (append_assoc us (joined_terms tss) ts)

map_push : {X Y : Type 0} (f : X → Y) (xs : List X) (x : X) → map f (xs ++ x ∷ []) ≡ map f xs ++ f x ∷ []
map_push f [] x = refl
map_push f (y ∷ xs) x = ap (λ ys. f y ∷ ys) (map_push f xs x)

posted_push : (M : Model) (posted : List Posted) (p : Posted) → subterms_posted M (posted ++ p ∷ []) ≡ subterms_posted M posted ++ subterms_where (term_posted M p)
posted_push M posted p =
    ap joined_terms (map_push (λ q. subterms_where (term_posted M q)) posted p) ∙ joined_push (map (λ q. subterms_where (term_posted M q)) posted) (subterms_where (term_posted M p))

posted_within : (M : Model) (posted : List Posted) (k : ℕ) (q : Posted) (us : List Term) → slice_get posted k ≡ Some q → All (StandsIn (subterms_where (term_posted M q))) us → All (StandsIn (subterms_posted M posted)) us
posted_within M [] k q us e all = let c : None ≡ Some q = e in cc
posted_within M (p ∷ posted) zero q us e all =
    all_left us (subterms_where (term_posted M p)) (subterms_posted M posted) (subst (λ r. All (StandsIn (subterms_where (term_posted M r))) us) (sym (ap (λ o. unwrap_or o p) e)) all)
posted_within M (p ∷ posted) (suc k) q us e all = all_right us (subterms_where (term_posted M p)) (subterms_posted M posted) (posted_within M posted k q us e all)

pub posted_again : (M : Model) (posted : List Posted) (k : ℕ) (p q : Posted) (t u : Term) → slice_get posted k ≡ Some q → term_posted M q ≡ Some t → term_posted M p ≡ Some u → same_term t u ≡ true →
    once (subterms_posted M (posted ++ p ∷ [])) ≡ once (subterms_posted M posted)
posted_again M posted k p q t u there is of same =
    let all : All (StandsIn (subterms_where (term_posted M q))) (subterms_where (term_posted M p)) =
    subst (λ o. All (StandsIn (subterms_where o)) (subterms_where (term_posted M p))) (sym is)
    (subst (λ o. All (StandsIn (subterms t)) (subterms_where o)) (sym of) (subterms_again t u same)) in
    ap once (posted_push M posted p) ∙ once_again (subterms_posted M posted) (subterms_where (term_posted M p)) (posted_within M posted k q (subterms_where (term_posted M p)) there all)

-- ---- the first with a property
abbrev pub Respects : Test → Type 0
Respects p = (t u : Term) → same_term t u ≡ true → p t ≡ p u

find_skip : (p : Test) (ds : List Term) (x : Term) (xs : List Term) → p x ≡ false → find p (ds ++ x ∷ xs) ≡ find p (ds ++ xs)
find_skip p [] x xs e = ap (λ b. cond b (Some x) (find p xs)) e
find_skip p (d ∷ ds) x xs e = ap (λ o. cond (p d) (Some d) o) (find_skip p ds x xs e)

find_early : (p : Test) (ds ys : List Term) → list_any p ds ≡ true → find p (ds ++ ys) ≡ find p ds
find_early p [] ys h = let c : false ≡ true = h in cc
find_early p (d ∷ ds) ys h = cases (p d) refl (find_early p ds ys)
  where
    cases : (b : Bool) → p d ≡ b → (list_any p ds ≡ true → find p (ds ++ ys) ≡ find p ds) → find p ((d ∷ ds) ++ ys) ≡ find p (d ∷ ds)
    cases true e later = ap (λ b. cond b (Some d) (find p (ds ++ ys))) e ∙ sym (ap (λ b. cond b (Some d) (find p ds)) e)
    cases false e later = ap (λ b. cond b (Some d) (find p (ds ++ ys))) e ∙ later (sym (ap (λ b. b || list_any p ds) e) ∙ h) ∙ sym (ap (λ b. cond b (Some d) (find p ds)) e)

any_by : (p : Test) (x : Term) (ds : List Term) → Respects p → p x ≡ true → list_any (same_term x) ds ≡ true → list_any p ds ≡ true
any_by p x [] fits e h = h
any_by p x (d ∷ ds) fits e h = cases (same_term x d) refl (any_by p x ds fits e)
  where
    cases : (b : Bool) → same_term x d ≡ b → (list_any (same_term x) ds ≡ true → list_any p ds ≡ true) → list_any p (d ∷ ds) ≡ true
    cases true same later = one_or (p d) (list_any p ds) (sym (fits x d same) ∙ e)
    cases false other later = other_or (p d) (list_any p ds) (later (sym (ap (λ b. b || list_any (same_term x) ds) other) ∙ h))

with_find : (p : Test) (x : Term) (ds xs : List Term) (is : Bool) → Respects p → list_any (same_term x) ds ≡ is → find p ((if is then ds else ds ++ x ∷ []) ++ xs) ≡ find p (ds ++ x ∷ xs)
with_find p x ds xs false fits e = ap (find p) (append_assoc ds (x ∷ []) xs)
with_find p x ds xs true fits e = cases (p x) refl
  where
    cases : (b : Bool) → p x ≡ b → find p (ds ++ xs) ≡ find p (ds ++ x ∷ xs)
    cases true h = find_early p ds xs (any_by p x ds fits h e) ∙ sym (find_early p ds (x ∷ xs) (any_by p x ds fits h e))
    cases false h = sym (find_skip p ds x xs h)

fold_find : (p : Test) (ds xs : List Term) → Respects p → find p (fold with_subterm ds xs) ≡ find p (ds ++ xs)
fold_find p ds [] fits = ap (find p) (sym (append-nil ds))
fold_find p ds (x ∷ xs) fits = fold_find p (with_subterm ds x) xs fits ∙ with_find p x ds xs (list_any (same_term x) ds) fits refl

pub once_find : (p : Test) (xs : List Term) → Respects p → find p (once xs) ≡ find p xs
once_find p xs fits = fold_find p [] xs fits

-- ---- no two are equal
abbrev pub AreApart : List Term → Type 0
AreApart ts = (i j : ℕ) (t u : Term) → slice_get ts i ≡ Some t → slice_get ts j ≡ Some u → same_term t u ≡ true → i ≡ j

any_at : (p : Test) (ds : List Term) (i : ℕ) (t : Term) → slice_get ds i ≡ Some t → p t ≡ true → list_any p ds ≡ true
any_at p [] i t e h = let c : None ≡ Some t = e in cc
any_at p (d ∷ ds) zero t e h = one_or (p d) (list_any p ds) (ap p (ap (λ o. unwrap_or o d) e) ∙ h)
any_at p (d ∷ ds) (suc i) t e h = other_or (p d) (list_any p ds) (any_at p ds i t e h)

apart_push : (ds : List Term) (x : Term) → list_any (same_term x) ds ≡ false → AreApart ds → (i j : ℕ) (t u : Term) → same_term t u ≡ true →
    (slice_get ds i ≡ Some t) ⊎ ((i ≡ length ds) × (t ≡ x)) → (slice_get ds j ≡ Some u) ⊎ ((j ≡ length ds) × (u ≡ x)) → i ≡ j
apart_push ds x e apart i j t u same (inl h) (inl k) = apart i j t u h k same
apart_push ds x e apart i j t u same (inl h) (inr k) =
    let c : true ≡ false = sym (any_at (same_term x) ds i t h (same_term_equiv.symm x t ∙ ap (same_term t) (sym k.1) ∙ same)) ∙ e in cc
apart_push ds x e apart i j t u same (inr h) (inl k) = let c : true ≡ false = sym (any_at (same_term x) ds j u k (ap (λ z. same_term z u) (sym h.1) ∙ same)) ∙ e in cc
apart_push ds x e apart i j t u same (inr h) (inr k) = h.0 ∙ sym k.0

with_apart : (ds : List Term) (x : Term) (is : Bool) → list_any (same_term x) ds ≡ is → AreApart ds → AreApart (if is then ds else ds ++ x ∷ [])
with_apart ds x true e apart = apart
with_apart ds x false e apart = λ i j t u at of same. apart_push ds x e apart i j t u same (last_or ds x i t at) (last_or ds x j u of)

fold_apart : (ds xs : List Term) → AreApart ds → AreApart (fold with_subterm ds xs)
fold_apart ds [] apart = apart
fold_apart ds (x ∷ xs) apart = fold_apart (with_subterm ds x) xs (with_apart ds x (list_any (same_term x) ds) refl apart)

pub once_apart : (xs : List Term) → AreApart (once xs)
once_apart xs = fold_apart [] xs (λ i j t u at of same. let c : None ≡ Some t = at in cc)
