-- In a well formed model each user's constraint stands among the distinct subterms.
use Rattle.std.proofs.Common.{◌≡◌, ℕ, zero, suc, ◌+◌, ◌<◌, Bool, true, false, cond, ◌||◌, List, [], ◌∷◌, ◌++◌, map, Option, Some, None, length, refl, sym, ap, ◌∙◌, subst, slice_get, arith}
use Rattle.std.specs.Prelude.{nat_eq, if◌then◌else◌}
use Rattle.std.specs.List.{Contains, find, list_any}
use Rattle.std.proofs.lemmas.Bool.{and_parts}
use Rattle.std.proofs.lemmas.List.{append-nil, append_assoc}
use Rattle.std.proofs.lemmas.List.Folds.{list_any-append}
use Rattle.term_model.specs.Definitions.{joined}
use Rattle.term_model.specs.Naming.{user_number, users_of, users_posted, users_step, users_where}
use Rattle.term_model.specs.Posting.{term_posted}
use Rattle.term_model.specs.SameOperations.{same_operation}
use Rattle.term_model.specs.SameTerms.{all_pass, same_layer, same_term}
use Rattle.term_model.specs.Subterms.{distinct_subterms, joined_terms, subterms, subterms_posted, subterms_where}
use Rattle.term_model.specs.Wellformed.{IsWellFormed}
use Rattle.term_model.specs.declared.model.Model.{Model}
use Rattle.term_model.specs.declared.model.Posted.{Posted}
use Rattle.term_model.specs.declared.term.Term.{Term}
use Rattle.term_model.specs.declared.term.Term.TheOpen.{Term-F}
use Rattle.term_model.specs.declared.term.Term.TheViews.{out-Term, out-roll-Term, roll-Term}
use Rattle.term_model.specs.declared.term.Term.TheFolds.{fold-roll-Term, ind-Term, map-Term}
use Rattle.term_model.proofs.EqualTerms.{same_out}
use Rattle.term_model.proofs.OperationLaws.{same_is_equal}
use Rattle.term_model.proofs.SubtermLaws.{Respects, once_find, subterms_roll}
use Rattle.solver_store.specs.UserTerms.{is_user, own_by, place_where}

-- ---- the users' constraints that stand at subterms themselves
own_users : Term → List ℕ
own_users t = own_by (out-Term t)

users_in : List Term → List ℕ
users_in [] = []
users_in (t ∷ ts) = own_by (out-Term t) ++ users_in ts

users_append : (xs ys : List Term) → users_in (xs ++ ys) ≡ users_in xs ++ users_in ys
unfolding users_in
users_append [] ys = refl
users_append (x ∷ xs) ys = ap (λ ns. own_by (out-Term x) ++ ns) (users_append xs ys) ∙ sym (append_assoc (own_by (out-Term x)) (users_in xs) (users_in ys))

users_one : (t : Term) → users_in (t ∷ []) ≡ own_by (out-Term t)
unfolding users_in
users_one t = append-nil (own_by (out-Term t))

-- ---- those of a term are those of its subterms
abbrev AreOwn : Term → Type 0
AreOwn t = users_of t ≡ users_in (subterms t)

abbrev Known : Type 0
Known = (t : Term) × AreOwn t

args_own : (es : List Known) → joined (map users_of (map (λ e. e.0) es)) ≡ users_in (joined_terms (map subterms (map (λ e. e.0) es)))
unfolding users_in
args_own [] = refl
args_own (e ∷ es) =
    ap (λ ns. ns ++ joined (map users_of (map (λ e. e.0) es))) e.1 ∙ ap (λ ns. users_in (subterms e.0) ++ ns) (args_own es)
    ∙ sym (users_append (subterms e.0) (joined_terms (map subterms (map (λ e. e.0) es))))

own_rolled : (y : Term-F Term) → own_by (out-Term (roll-Term y)) ≡ own_by y
own_rolled y = ap own_by (out-roll-Term y)

layer_own : (y : Term-F Known) → AreOwn (roll-Term (map-Term Known Term (λ e. e.0) y))
unfolding users_in
layer_own (Term-F.Const x) =
    let z = Term-F.Const x in
    fold-roll-Term (List ℕ) users_step z ∙ sym (ap users_in (subterms_roll z) ∙ users_one (roll-Term z) ∙ own_rolled z)
layer_own (Term-F.ConstSet s) =
    let z = Term-F.ConstSet s in
    fold-roll-Term (List ℕ) users_step z ∙ sym (ap users_in (subterms_roll z) ∙ users_one (roll-Term z) ∙ own_rolled z)
layer_own (Term-F.Var v) = let z = Term-F.Var v in fold-roll-Term (List ℕ) users_step z ∙ sym (ap users_in (subterms_roll z))
layer_own (Term-F.Node op args place) =
    let z = map-Term Known Term (λ e. e.0) (Term-F.Node op args place) in
    let below = joined_terms (map subterms (map (λ e. e.0) args.items)) in
    fold-roll-Term (List ℕ) users_step z ∙ ap (λ ns. ns ++ user_number op) (args_own args.items)
    ∙ sym (ap users_in (subterms_roll z) ∙ users_append below (roll-Term z ∷ []) ∙ ap (λ ns. users_in below ++ ns) (users_one (roll-Term z) ∙ own_rolled z))

users_all : (t : Term) → AreOwn t
users_all = ind-Term AreOwn (λ x y is. subst (λ z. AreOwn (roll-Term z)) is (layer_own y))

where_own : (o : Option Term) → users_where o ≡ users_in (subterms_where o)
unfolding users_in
where_own (Some t) = users_all t
where_own None = refl

posted_own : (M : Model) (ps : List Posted) → users_posted M ps ≡ users_in (subterms_posted M ps)
unfolding users_in
posted_own M [] = refl
posted_own M (p ∷ ps) =
    ap (λ ns. ns ++ users_posted M ps) (where_own (term_posted M p)) ∙ ap (λ ns. users_in (subterms_where (term_posted M p)) ++ ns) (posted_own M ps)
    ∙ sym (users_append (subterms_where (term_posted M p)) (subterms_posted M ps))

-- ---- a number that stands there
any_user : (n : ℕ) (ts : List Term) → list_any (nat_eq n) (users_in ts) ≡ list_any (is_user n) ts
unfolding users_in
any_user n [] = refl
any_user n (t ∷ ts) = list_any-append (nat_eq n) (own_by (out-Term t)) (users_in ts) ∙ ap (λ b. is_user n t || b) (any_user n ts)

any_number : (n : ℕ) (xs : List ℕ) → Contains xs n → list_any (nat_eq n) xs ≡ true
any_number n [] h = let lt = h.1 in absurd (omega (arith, lt))
any_number n (x ∷ xs) (zero, lt, e) = ap (λ b. b || list_any (nat_eq n) xs) (same n x e)
  where
    same : (n x : ℕ) → x ≡ n → nat_eq n x ≡ true
    same n x e = grind (arith, e)
any_number n (x ∷ xs) (suc k, lt, e) = other (nat_eq n x) (list_any (nat_eq n) xs) (any_number n xs (k, omega (arith, lt), e))
  where
    other : (a b : Bool) → b ≡ true → (a || b) ≡ true
    other true b h = refl
    other false b h = h

-- ---- equal terms are the same user's constraint
layer_alike : (n : ℕ) (x y : Term-F Term) → same_layer (map-Term Term (Term → Bool) same_term x) y ≡ true → list_any (nat_eq n) (own_by x) ≡ list_any (nat_eq n) (own_by y)
layer_alike n (Term-F.Const x) (Term-F.Const y) h = refl
layer_alike n (Term-F.Const x) (Term-F.ConstSet y) h = refl
layer_alike n (Term-F.Const x) (Term-F.Var y) h = refl
layer_alike n (Term-F.Const x) (Term-F.Node op args place) h = let c : false ≡ true = h in cc
layer_alike n (Term-F.ConstSet x) (Term-F.Const y) h = refl
layer_alike n (Term-F.ConstSet x) (Term-F.ConstSet y) h = refl
layer_alike n (Term-F.ConstSet x) (Term-F.Var y) h = refl
layer_alike n (Term-F.ConstSet x) (Term-F.Node op args place) h = let c : false ≡ true = h in cc
layer_alike n (Term-F.Var x) (Term-F.Const y) h = refl
layer_alike n (Term-F.Var x) (Term-F.ConstSet y) h = refl
layer_alike n (Term-F.Var x) (Term-F.Var y) h = refl
layer_alike n (Term-F.Var x) (Term-F.Node op args place) h = let c : false ≡ true = h in cc
layer_alike n (Term-F.Node op args place) (Term-F.Const y) h = let c : false ≡ true = h in cc
layer_alike n (Term-F.Node op args place) (Term-F.ConstSet y) h = let c : false ≡ true = h in cc
layer_alike n (Term-F.Node op args place) (Term-F.Var y) h = let c : false ≡ true = h in cc
layer_alike n (Term-F.Node op args place) (Term-F.Node op' args' place') h =
    let parts = and_parts (same_operation op' op) (all_pass (map same_term args.items) args'.items) h in
    ap (λ o. list_any (nat_eq n) (user_number o)) (sym (same_is_equal op' op parts.0))

pub respects_user : (n : ℕ) → Respects (is_user n)
respects_user n t u same = layer_alike n (out-Term t) (out-Term u) (sym (same_out t u) ∙ same)

-- ---- the first place of what passes
module _ (test : Term → Bool) where
  abbrev IsPlaced : List Term → Type 0
  IsPlaced ts = (t : Term) × (slice_get ts (place_where test ts) ≡ Some t) × (test t ≡ true)

  pub placed : (ts : List Term) → list_any test ts ≡ true → IsPlaced ts
  placed [] h = let c : false ≡ true = h in cc
  placed (t ∷ ts) h = by (test t) refl (placed ts)
    where
      later : (b : Bool) → b ≡ false → (b || list_any test ts) ≡ true → list_any test ts ≡ true
      later true e g = let c : true ≡ false = e in cc
      later false e g = g

      by : (b : Bool) → test t ≡ b → (list_any test ts ≡ true → IsPlaced ts) → IsPlaced (t ∷ ts)
      by true e rest = (t, ap (λ c. slice_get (t ∷ ts) (if c then 0 else 1 + place_where test ts)) e, e)
      by false e rest =
          let p = rest (later (test t) e h) in
          (p.0, ap (λ c. slice_get (t ∷ ts) (if c then 0 else 1 + place_where test ts)) e ∙ ap (slice_get (t ∷ ts)) (let z : 1 + place_where test ts ≡ suc (place_where test ts) = omega arith in z) ∙ p.1, p.2)

  any_find : (ts : List Term) → list_any test ts ≡ true → (t : Term) × (find test ts ≡ Some t)
  any_find [] h = let c : false ≡ true = h in cc
  any_find (t ∷ ts) h = by (test t) refl (any_find ts)
    where
      later : (b : Bool) → b ≡ false → (b || list_any test ts) ≡ true → list_any test ts ≡ true
      later true e g = let c : true ≡ false = e in cc
      later false e g = g

      by : (b : Bool) → test t ≡ b → (list_any test ts ≡ true → (u : Term) × (find test ts ≡ Some u)) → (u : Term) × (find test (t ∷ ts) ≡ Some u)
      by true e rest = (t, ap (λ c. cond c (Some t) (find test ts)) e)
      by false e rest = let f = rest (later (test t) e h) in (f.0, ap (λ c. cond c (Some t) (find test ts)) e ∙ f.1)

  find_any : (ts : List Term) (t : Term) → find test ts ≡ Some t → list_any test ts ≡ true
  find_any [] t h = let c : None ≡ Some t = h in cc
  find_any (x ∷ ts) t h = by (test x) refl (find_any ts t)
    where
      by : (b : Bool) → test x ≡ b → (find test ts ≡ Some t → list_any test ts ≡ true) → (test x || list_any test ts) ≡ true
      by true e rest = ap (λ c. c || list_any test ts) e
      by false e rest = ap (λ c. c || list_any test ts) e ∙ rest (sym (ap (λ c. cond c (Some x) (find test ts)) e) ∙ h)

module _ (M : Model) (formed : IsWellFormed M) (n : ℕ) (lt : n < length (users_posted M M.posted.items)) where
  posted_any : list_any (is_user n) (subterms_posted M M.posted.items) ≡ true
  posted_any =
      sym (any_user n (subterms_posted M M.posted.items)) ∙ ap (list_any (nat_eq n)) (sym (posted_own M M.posted.items))
      ∙ any_number n (users_posted M M.posted.items) (formed.users.all n lt)

  pub user_placed : (t : Term) × (slice_get (distinct_subterms M) (place_where (is_user n) (distinct_subterms M)) ≡ Some t) × (is_user n t ≡ true)
  user_placed =
      let f = any_find (is_user n) (subterms_posted M M.posted.items) posted_any in
      placed (is_user n) (distinct_subterms M)
      (find_any (is_user n) (distinct_subterms M) f.0 (once_find (is_user n) (subterms_posted M M.posted.items) (respects_user n) ∙ f.1))
