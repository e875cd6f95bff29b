-- Where a term stands among others, and what is known of it as these grow.
use Rattle.std.proofs.Common.{◌≡◌, pos, ◌+◌, Bool, true, false, cond, ◌||◌, ◌&&◌, List, [], ◌∷◌, ◌++◌, map, refl, sym, ap, ◌∙◌, arith, true≢false}
use Rattle.std.specs.Prelude.{not}
use Rattle.std.specs.List.{list_all, list_any, position_or_len}
use Rattle.term_model.specs.SameTerms.{same_term}
use Rattle.term_model.specs.declared.term.Term.{Term}
use Rattle.term_model.specs.declared.term.Term.TheOpen.{Term-F}
use Rattle.term_model.specs.declared.term.Term.TheViews.{out-Term}
use Rattle.term_model.proofs.EqualTerms.{same_term_equiv}
use Rattle.term_count.specs.Codes.{is_known, is_known_by, name_among, name_by}

-- ---- lists
-- tests that answer alike find the same
pub same_any : {X : Type 0} (p q : X → Bool) → ((x : X) → p x ≡ q x) → (xs : List X) → list_any p xs ≡ list_any q xs
same_any p q e [] = refl
same_any p q e (x ∷ xs) = ap (λ b. b || list_any p xs) (e x) ∙ ap (λ b. q x || b) (same_any p q e xs)

pub same_position : {X : Type 0} (p q : X → Bool) → ((x : X) → p x ≡ q x) → (xs : List X) → position_or_len p xs ≡ position_or_len q xs
same_position p q e [] = refl
same_position p q e (x ∷ xs) =
    ap (λ b. cond (not b) (1 + position_or_len p xs) 0) (e x) ∙ ap (λ n. cond (not (q x)) (1 + n) 0) (same_position p q e xs)

-- what is found in a list is found there in front of others
pub any_front : {X : Type 0} (p : X → Bool) (xs ys : List X) → list_any p xs ≡ true → list_any p (xs ++ ys) ≡ true
any_front p [] ys h = let c : false ≡ true = h in cc
any_front p (x ∷ xs) ys h = cases (p x) refl (any_front p xs ys)
  where
    cases : (b : Bool) → p x ≡ b → (list_any p xs ≡ true → list_any p (xs ++ ys) ≡ true) → (p x || list_any p (xs ++ ys)) ≡ true
    cases true e more = ap (λ b. b || list_any p (xs ++ ys)) e
    cases false e more = ap (λ b. b || list_any p (xs ++ ys)) e ∙ more (sym (ap (λ b. b || list_any p xs) e) ∙ h)

pub position_front : {X : Type 0} (p : X → Bool) (xs ys : List X) → list_any p xs ≡ true → position_or_len p (xs ++ ys) ≡ position_or_len p xs
position_front p [] ys h = let c : false ≡ true = h in cc
position_front p (x ∷ xs) ys h = cases (p x) refl (position_front p xs ys)
  where
    cases : (b : Bool) → p x ≡ b → (list_any p xs ≡ true → position_or_len p (xs ++ ys) ≡ position_or_len p xs) → position_or_len p ((x ∷ xs) ++ ys) ≡ position_or_len p (x ∷ xs)
    cases true e more =
        ap (λ b. cond (not b) (1 + position_or_len p (xs ++ ys)) 0) e ∙ sym (ap (λ b. cond (not b) (1 + position_or_len p xs) 0) e)
    cases false e more =
        ap (λ b. cond (not b) (1 + position_or_len p (xs ++ ys)) 0) e
        ∙ ap (λ n. 1 + n) (more (sym (ap (λ b. b || list_any p xs) e) ∙ h))
        ∙ sym (ap (λ b. cond (not b) (1 + position_or_len p xs) 0) e)

-- where none is found, one more behind them stands at their length
pub position_last : {X : Type 0} (p : X → Bool) (xs : List X) (x : X) → list_any p xs ≡ false → p x ≡ true → position_or_len p (xs ++ x ∷ []) ≡ position_or_len p xs
position_last p [] x h k = ap (λ b. cond (not b) (1 + 0) 0) k
position_last p (y ∷ xs) x h k = cases (p y) refl (λ none. position_last p xs x none k)
  where
    cases : (b : Bool) → p y ≡ b → (list_any p xs ≡ false → position_or_len p (xs ++ x ∷ []) ≡ position_or_len p xs) → position_or_len p ((y ∷ xs) ++ x ∷ []) ≡ position_or_len p (y ∷ xs)
    cases true e more = absurd (true≢false (sym (ap (λ b. b || list_any p xs) e) ∙ h))
    cases false e more =
        ap (λ b. cond (not b) (1 + position_or_len p (xs ++ x ∷ [])) 0) e
        ∙ ap (λ n. 1 + n) (more (sym (ap (λ b. b || list_any p xs) e) ∙ h))
        ∙ sym (ap (λ b. cond (not b) (1 + position_or_len p xs) 0) e)

pub any_last : {X : Type 0} (p : X → Bool) (xs : List X) (x : X) → p x ≡ true → list_any p (xs ++ x ∷ []) ≡ true
any_last p [] x k = ap (λ b. b || false) k
any_last p (y ∷ xs) x k = ap (λ b. p y || b) (any_last p xs x k) ∙ or_true (p y)
  where
    or_true : (b : Bool) → (b || true) ≡ true
    or_true true = refl
    or_true false = refl

-- tests that are found at the same place pass there both
pub same_place : (t u : Term) (ts : List Term) → list_any (same_term t) ts ≡ true → position_or_len (same_term t) ts ≡ position_or_len (same_term u) ts → same_term t u ≡ true
same_place t u [] h e = let c : false ≡ true = h in cc
same_place t u (x ∷ ts) h e = cases (same_term t x) (same_term u x) refl refl (same_place t u ts)
  where
    cases : (a b : Bool) → same_term t x ≡ a → same_term u x ≡ b → (list_any (same_term t) ts ≡ true → position_or_len (same_term t) ts ≡ position_or_len (same_term u) ts → same_term t u ≡ true) → same_term t u ≡ true
    cases true true p q more = same_term_equiv.symm t u ∙ same_term_equiv.congr u x t q ∙ same_term_equiv.symm x t ∙ p
    cases true false p q more =
        let l : position_or_len (same_term t) (x ∷ ts) ≡ 0 = ap (λ b. cond (not b) (1 + position_or_len (same_term t) ts) 0) p in
        let r : position_or_len (same_term u) (x ∷ ts) ≡ 1 + position_or_len (same_term u) ts = ap (λ b. cond (not b) (1 + position_or_len (same_term u) ts) 0) q in
        let c : 0 ≡ 1 + position_or_len (same_term u) ts = sym l ∙ e ∙ r in absurd (omega arith)
    cases false true p q more =
        let l : position_or_len (same_term t) (x ∷ ts) ≡ 1 + position_or_len (same_term t) ts = ap (λ b. cond (not b) (1 + position_or_len (same_term t) ts) 0) p in
        let r : position_or_len (same_term u) (x ∷ ts) ≡ 0 = ap (λ b. cond (not b) (1 + position_or_len (same_term u) ts) 0) q in
        let c : 1 + position_or_len (same_term t) ts ≡ 0 = sym l ∙ e ∙ r in absurd (omega arith)
    cases false false p q more =
        let l : position_or_len (same_term t) (x ∷ ts) ≡ 1 + position_or_len (same_term t) ts = ap (λ b. cond (not b) (1 + position_or_len (same_term t) ts) 0) p in
        let r : position_or_len (same_term u) (x ∷ ts) ≡ 1 + position_or_len (same_term u) ts = ap (λ b. cond (not b) (1 + position_or_len (same_term u) ts) 0) q in
        let c : 1 + position_or_len (same_term t) ts ≡ 1 + position_or_len (same_term u) ts = sym l ∙ e ∙ r in
        more (sym (ap (λ b. b || list_any (same_term t) ts) p) ∙ h) (omega arith)

-- ---- names as the terms grow
known_front_by : (ts more : List Term) (t : Term) (y : Term-F Term) → is_known_by ts t y ≡ true → is_known_by (ts ++ more) t y ≡ true
known_front_by ts more t (Term-F.Const x) h = any_front (same_term t) ts more h
known_front_by ts more t (Term-F.ConstSet s) h = any_front (same_term t) ts more h
known_front_by ts more t (Term-F.Var v) h = refl
known_front_by ts more t (Term-F.Node op args place) h = any_front (same_term t) ts more h

pub known_front : (ts more : List Term) (t : Term) → is_known ts t ≡ true → is_known (ts ++ more) t ≡ true
known_front ts more t h = known_front_by ts more t (out-Term t) h

name_front_by : (ts more : List Term) (t : Term) (y : Term-F Term) → is_known_by ts t y ≡ true → name_by (ts ++ more) t y ≡ name_by ts t y
name_front_by ts more t (Term-F.Const x) h = ap pos (position_front (same_term t) ts more h)
name_front_by ts more t (Term-F.ConstSet s) h = ap pos (position_front (same_term t) ts more h)
name_front_by ts more t (Term-F.Var v) h = refl
name_front_by ts more t (Term-F.Node op args place) h = ap pos (position_front (same_term t) ts more h)

pub name_front : (ts more : List Term) (t : Term) → is_known ts t ≡ true → name_among (ts ++ more) t ≡ name_among ts t
name_front ts more t h = name_front_by ts more t (out-Term t) h

pub and_parts : (a b : Bool) → (a && b) ≡ true → (a ≡ true) × (b ≡ true)
and_parts true b h = (refl, h)
and_parts false b h = let c : false ≡ true = h in cc

pub both : (a b : Bool) → a ≡ true → b ≡ true → (a && b) ≡ true
both true b p q = q
both false b p q = p

pub all_known_front : (ts more us : List Term) → list_all (is_known ts) us ≡ true → list_all (is_known (ts ++ more)) us ≡ true
all_known_front ts more [] h = refl
all_known_front ts more (u ∷ us) h =
    let parts = and_parts (is_known ts u) (list_all (is_known ts) us) h in
    both (is_known (ts ++ more) u) (list_all (is_known (ts ++ more)) us) (known_front ts more u parts.0) (all_known_front ts more us parts.1)

pub names_front : (ts more us : List Term) → list_all (is_known ts) us ≡ true → map (name_among (ts ++ more)) us ≡ map (name_among ts) us
names_front ts more [] h = refl
names_front ts more (u ∷ us) h =
    let parts = and_parts (is_known ts u) (list_all (is_known ts) us) h in
    ap (λ n. n ∷ map (name_among (ts ++ more)) us) (name_front ts more u parts.0) ∙ ap (λ ns. name_among ts u ∷ ns) (names_front ts more us parts.1)
