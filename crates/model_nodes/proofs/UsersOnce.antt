-- In a well formed model each user's constraint stands at one distinct subterm, with a number below their count.
use Rattle.std.proofs.Common.{◌≡◌, ℕ, zero, suc, ◌<◌, Bool, true, false, List, [], ◌∷◌, ◌++◌, fold, map, Option, Some, None, length, refl, sym, ap, ◌∙◌, subst, slice_get, arith}
use Rattle.std.specs.Prelude.{if◌then◌else◌, unwrap_or}
use Rattle.std.specs.List.{list_any}
use Rattle.std.proofs.lemmas.List.{append-nil, append_assoc}
use Rattle.std.proofs.lemmas.Option.{slice_get_within}
use Rattle.term_model.specs.Definitions.{joined}
use Rattle.term_model.specs.Naming.{user_number, users_of, users_posted, users_step, users_where}
use Rattle.term_model.specs.Posting.{term_posted}
use Rattle.term_model.specs.SameTerms.{same_term}
use Rattle.term_model.specs.Subterms.{distinct_subterms, joined_terms, subterms, subterms_posted, subterms_where, with_subterm}
use Rattle.term_model.specs.Wellformed.{IsWellFormed}
use Rattle.term_model.specs.declared.model.Model.{Model}
use Rattle.term_model.specs.declared.model.Posted.{Posted}
use Rattle.term_model.specs.declared.term.Term.{Term}
use Rattle.term_model.specs.declared.term.Term.TheOpen.{Term-F}
use Rattle.term_model.specs.declared.term.Term.TheViews.{out-Term, out-roll-Term, roll-Term}
use Rattle.term_model.specs.declared.term.Term.TheFolds.{fold-roll-Term, ind-Term, map-Term}
use Rattle.term_model.proofs.SubtermLaws.{subterms_roll}

-- ---- the users' constraints that stand at subterms themselves
abbrev pub own_by : Term-F Term → List ℕ
own_by (Term-F.Const x) = []
own_by (Term-F.ConstSet s) = []
own_by (Term-F.Var v) = []
own_by (Term-F.Node op args place) = user_number op

abbrev pub own_users : Term → List ℕ
own_users t = own_by (out-Term t)

abbrev pub users_in : List Term → List ℕ
users_in [] = []
users_in (t ∷ ts) = own_users t ++ users_in ts

users_append : (xs ys : List Term) → users_in (xs ++ ys) ≡ users_in xs ++ users_in ys
users_append [] ys = refl
users_append (x ∷ xs) ys = ap (λ ns. own_users x ++ ns) (users_append xs ys) ∙ sym (append_assoc (own_users x) (users_in xs) (users_in ys))

-- ---- those of a term are those of its subterms
abbrev AreOwn : Term → Type 0
AreOwn t = users_of t ≡ users_in (subterms t)

abbrev Known : Type 0
Known = (t : Term) × AreOwn t

args_own : (es : List Known) → joined (map users_of (map (λ e. e.0) es)) ≡ users_in (joined_terms (map subterms (map (λ e. e.0) es)))
args_own [] = refl
args_own (e ∷ es) =
    ap (λ ns. ns ++ joined (map users_of (map (λ e. e.0) es))) e.1 ∙ ap (λ ns. users_in (subterms e.0) ++ ns) (args_own es)
    ∙ sym (users_append (subterms e.0) (joined_terms (map subterms (map (λ e. e.0) es))))

own_rolled : (y : Term-F Term) → own_users (roll-Term y) ≡ own_by y
own_rolled y = ap own_by (out-roll-Term y)

layer_own : (y : Term-F Known) → AreOwn (roll-Term (map-Term Known Term (λ e. e.0) y))
layer_own (Term-F.Const x) =
    let z = Term-F.Const x in
    fold-roll-Term (List ℕ) users_step z ∙ sym (ap users_in (subterms_roll z) ∙ append-nil (own_users (roll-Term z)) ∙ own_rolled z)
layer_own (Term-F.ConstSet s) =
    let z = Term-F.ConstSet s in
    fold-roll-Term (List ℕ) users_step z ∙ sym (ap users_in (subterms_roll z) ∙ append-nil (own_users (roll-Term z)) ∙ own_rolled z)
layer_own (Term-F.Var v) = let z = Term-F.Var v in fold-roll-Term (List ℕ) users_step z ∙ sym (ap users_in (subterms_roll z))
layer_own (Term-F.Node op args place) =
    let z = map-Term Known Term (λ e. e.0) (Term-F.Node op args place) in
    let below = joined_terms (map subterms (map (λ e. e.0) args.items)) in
    fold-roll-Term (List ℕ) users_step z ∙ ap (λ ns. ns ++ user_number op) (args_own args.items)
    ∙ sym (ap users_in (subterms_roll z) ∙ users_append below (roll-Term z ∷ []) ∙ ap (λ ns. users_in below ++ ns) (append-nil (own_users (roll-Term z)) ∙ own_rolled z))

users_all : (t : Term) → AreOwn t
users_all = ind-Term AreOwn (λ x y is. subst (λ z. AreOwn (roll-Term z)) is (layer_own y))

where_own : (o : Option Term) → users_where o ≡ users_in (subterms_where o)
where_own (Some t) = users_all t
where_own None = refl

posted_own : (M : Model) (ps : List Posted) → users_posted M ps ≡ users_in (subterms_posted M ps)
posted_own M [] = refl
posted_own M (p ∷ ps) =
    ap (λ ns. ns ++ users_posted M ps) (where_own (term_posted M p)) ∙ ap (λ ns. users_in (subterms_where (term_posted M p)) ++ ns) (posted_own M ps)
    ∙ sym (users_append (subterms_where (term_posted M p)) (subterms_posted M ps))

-- ---- numbers that are apart, and below a number
abbrev LacksNumber : List ℕ → ℕ → Type 0
LacksNumber [] x = Unit {0}
LacksNumber (y ∷ ys) x = (y ≡ x → ⊥) × LacksNumber ys x

abbrev AreApart : List ℕ → Type 0
AreApart [] = Unit {0}
AreApart (x ∷ xs) = LacksNumber xs x × AreApart xs

abbrev AreLower : ℕ → List ℕ → Type 0
AreLower n [] = Unit {0}
AreLower n (x ∷ xs) = (x < n) × AreLower n xs

lacks_of : (xs : List ℕ) (x : ℕ) → ((k : ℕ) → slice_get xs k ≡ Some x → ⊥) → LacksNumber xs x
lacks_of [] x none = tt
lacks_of (y ∷ xs) x none = (λ e. none zero (ap (λ n. Some n) e), lacks_of xs x (λ k at. none (suc k) at))

apart_of : (xs : List ℕ) → ((j k d : ℕ) → slice_get xs j ≡ Some d → slice_get xs k ≡ Some d → j ≡ k) → AreApart xs
apart_of [] once = tt
apart_of (x ∷ xs) once = (
  lacks_of xs x (λ k at. (let e : zero ≡ suc k = once zero (suc k) x refl at in absurd (omega (arith, e)))),
  apart_of xs (λ j k d a b. (let e : suc j ≡ suc k = once (suc j) (suc k) d a b in omega (arith, e))),
)

lower_of : (n : ℕ) (xs : List ℕ) → ((k d : ℕ) → slice_get xs k ≡ Some d → d < n) → AreLower n xs
lower_of n [] within = tt
lower_of n (x ∷ xs) within = (within zero x refl, lower_of n xs (λ k d at. within (suc k) d at))

lacks_right : (a b : List ℕ) (x : ℕ) → LacksNumber (a ++ b) x → LacksNumber b x
lacks_right [] b x l = l
lacks_right (y ∷ a) b x l = lacks_right a b x l.1

lacks_but : (a b c : List ℕ) (x : ℕ) → LacksNumber (a ++ (b ++ c)) x → LacksNumber (a ++ c) x
lacks_but [] b c x l = lacks_right b c x l
lacks_but (y ∷ a) b c x l = (l.0, lacks_but a b c x l.1)

apart_right : (a b : List ℕ) → AreApart (a ++ b) → AreApart b
apart_right [] b h = h
apart_right (x ∷ a) b h = apart_right a b h.1

apart_but : (a b c : List ℕ) → AreApart (a ++ (b ++ c)) → AreApart (a ++ c)
apart_but [] b c h = apart_right b c h
apart_but (x ∷ a) b c h = (lacks_but a b c x h.0, apart_but a b c h.1)

lower_right : (n : ℕ) (a b : List ℕ) → AreLower n (a ++ b) → AreLower n b
lower_right n [] b h = h
lower_right n (x ∷ a) b h = lower_right n a b h.1

lower_but : (n : ℕ) (a b c : List ℕ) → AreLower n (a ++ (b ++ c)) → AreLower n (a ++ c)
lower_but n [] b c h = lower_right n b c h
lower_but n (x ∷ a) b c h = (h.0, lower_but n a b c h.1)

-- ---- each subterm once
module _ (Q : List ℕ → Type 0) (but : (a b c : List ℕ) → Q (a ++ (b ++ c)) → Q (a ++ c)) where
  once_keeps : (ds ts : List Term) → Q (users_in ds ++ users_in ts) → Q (users_in (fold with_subterm ds ts))
  once_keeps ds [] h = subst Q (append-nil (users_in ds)) h
  once_keeps ds (t ∷ ts) h = by (list_any (same_term t) ds) (λ es kept. once_keeps es ts kept)
    where
      with_it : users_in (ds ++ t ∷ []) ++ users_in ts ≡ users_in ds ++ (own_users t ++ users_in ts)
      with_it =
          ap (λ ns. ns ++ users_in ts) (users_append ds (t ∷ []) ∙ ap (λ ns. users_in ds ++ ns) (append-nil (own_users t)))
          ∙ append_assoc (users_in ds) (own_users t) (users_in ts)

      by : (b : Bool) → ((es : List Term) → Q (users_in es ++ users_in ts) → Q (users_in (fold with_subterm es ts))) → Q (users_in (fold with_subterm (if b then ds else ds ++ t ∷ []) ts))
      by true next = next ds (but (users_in ds) (own_users t) (users_in ts) h)
      by false next = next (ds ++ t ∷ []) (subst Q (sym with_it) h)

-- ---- at one place
lacks_user : (ts : List Term) (n k : ℕ) (u : Term) → LacksNumber (users_in ts) n → slice_get ts k ≡ Some u → own_users u ≡ n ∷ [] → ⊥
lacks_user [] n k u none at own = let c = slice_get_within [] k u at in omega (arith, c)
lacks_user (t ∷ ts) n zero u none at own =
    let same : t ≡ u = ap (λ o. unwrap_or o t) at in
    (subst (λ ns. LacksNumber (ns ++ users_in ts) n) (ap own_users same ∙ own) none).0 refl
lacks_user (t ∷ ts) n (suc k) u none at own = lacks_user ts n k u (lacks_right (own_users t) (users_in ts) n none) at own

one_place : (ts : List Term) → AreApart (users_in ts) → (j k n : ℕ) (t u : Term) → slice_get ts j ≡ Some t → slice_get ts k ≡ Some u → own_users t ≡ n ∷ [] → own_users u ≡ n ∷ [] → j ≡ k
one_place [] apart j k n t u at there own other = let c = slice_get_within [] j t at in absurd (omega (arith, c))
one_place (x ∷ ts) apart zero zero n t u at there own other = refl
one_place (x ∷ ts) apart zero (suc k) n t u at there own other =
    let same : x ≡ t = ap (λ o. unwrap_or o x) at in
    absurd (lacks_user ts n k u (subst (λ ns. AreApart (ns ++ users_in ts)) (ap own_users same ∙ own) apart).0 there other)
one_place (x ∷ ts) apart (suc j) zero n t u at there own other =
    let same : x ≡ u = ap (λ o. unwrap_or o x) there in
    absurd (lacks_user ts n j t (subst (λ ns. AreApart (ns ++ users_in ts)) (ap own_users same ∙ other) apart).0 at own)
one_place (x ∷ ts) apart (suc j) (suc k) n t u at there own other = ap suc (one_place ts (apart_right (own_users x) (users_in ts) apart) j k n t u at there own other)

lower_at : (count : ℕ) (ts : List Term) → AreLower count (users_in ts) → (k n : ℕ) (u : Term) → slice_get ts k ≡ Some u → own_users u ≡ n ∷ [] → n < count
lower_at count [] lower k n u at own = let c = slice_get_within [] k u at in absurd (omega (arith, c))
lower_at count (t ∷ ts) lower zero n u at own =
    let same : t ≡ u = ap (λ o. unwrap_or o t) at in
    (subst (λ ns. AreLower count (ns ++ users_in ts)) (ap own_users same ∙ own) lower).0
lower_at count (t ∷ ts) lower (suc k) n u at own = lower_at count ts (lower_right count (own_users t) (users_in ts) lower) k n u at own

module _ (M : Model) (formed : IsWellFormed M) where
  apart : AreApart (users_in (distinct_subterms M))
  apart = once_keeps AreApart apart_but [] (subterms_posted M M.posted.items) (subst AreApart (posted_own M M.posted.items) (apart_of (users_posted M M.posted.items) formed.users.once))

  lower : AreLower (length (users_posted M M.posted.items)) (users_in (distinct_subterms M))
  lower =
      once_keeps (AreLower (length (users_posted M M.posted.items))) (lower_but (length (users_posted M M.posted.items))) [] (subterms_posted M M.posted.items)
      (subst (AreLower (length (users_posted M M.posted.items))) (posted_own M M.posted.items) (lower_of (length (users_posted M M.posted.items)) (users_posted M M.posted.items) formed.users.within))

  pub users_once : (j k n : ℕ) (t u : Term) → slice_get (distinct_subterms M) j ≡ Some t → slice_get (distinct_subterms M) k ≡ Some u → own_users t ≡ n ∷ [] → own_users u ≡ n ∷ [] → j ≡ k
  users_once = one_place (distinct_subterms M) apart

  pub users_within : (k n : ℕ) (u : Term) → slice_get (distinct_subterms M) k ≡ Some u → own_users u ≡ n ∷ [] → n < length (users_posted M M.posted.items)
  users_within = lower_at (length (users_posted M M.posted.items)) (distinct_subterms M) lower
