-- A history that is longer by one entry.
use Rattle.std.proofs.Common.{◌≡◌, ◌↔◌, ◌≢◌, ℕ, suc, ◌+◌, ◌<◌, ◌≤◌, Bool, true, false, cond, eqb, eq-eqb, ne_eqb, List, [], ◌∷◌, ◌++◌, length, refl, ap, subst, sym, ◌∙◌, arith, append_assoc}
use mathlib.Core.List.{IsPrefix}
use mathlib.Core.Option.{some}
use lib.ListN.{get_elem?}
use Rattle.best_turn.specs.declared.replays.Entry.{Entry}
use Rattle.best_turn.specs.History.{total, entries, made_by, IsMade, with_made, fold_of, IsLegal}
use Rattle.best_turn.specs.Rule.{one_if}

-- a number that is in no pair
pub one_if-same : (n : ℕ) → one_if n n ≡ 1
one_if-same n = ap (λ b. cond b 1 0) (eq-eqb n n refl)

pub one_if-else : (n m : ℕ) → one_if n m ≡ 0 → m ≢ n
one_if-else n m none e = let h : one_if n m ≡ 1 = ap (λ b. cond b 1 0) (eq-eqb m n e) in absurd (let z : 0 ≡ 1 = sym none ∙ h in omega arith)

pub prefix_push : {A : Type 0} (xs ys zs : List A) → IsPrefix xs ys → IsPrefix xs (ys ++ zs)
prefix_push xs ys zs p = (p.0 ++ zs, sym (append_assoc xs p.0 zs) ∙ ap (λ l. l ++ zs) p.1)

module _ {Q R : Type 0} where
  pub made_by-here : (log : List (ℕ × Entry Q R)) (n : ℕ) (e : (Entry Q R)) → made_by n (log ++ (n, e) ∷ []) ≡ made_by n log ++ e ∷ []
  made_by-here [] n e = subst (λ b. cond b (e ∷ []) [] ≡ e ∷ []) (sym (eq-eqb n n refl)) refl
  made_by-here (x ∷ xs) n e = cases (eqb x.0 n) (made_by-here xs n e)
    where
      cases : (b : Bool) → made_by n (xs ++ (n, e) ∷ []) ≡ made_by n xs ++ e ∷ [] → cond b (x.1 ∷ made_by n (xs ++ (n, e) ∷ [])) (made_by n (xs ++ (n, e) ∷ [])) ≡ cond b (x.1 ∷ made_by n xs) (made_by n xs) ++ e ∷ []
      cases true h = ap (λ l. x.1 ∷ l) h
      cases false h = h

  pub made_by-else : (log : List (ℕ × Entry Q R)) (k n : ℕ) (e : (Entry Q R)) → n ≢ k → made_by k (log ++ (n, e) ∷ []) ≡ made_by k log
  made_by-else [] k n e ne = subst (λ b. cond b (e ∷ []) [] ≡ []) (sym (ne_eqb n k ne)) refl
  made_by-else (x ∷ xs) k n e ne = cases (eqb x.0 k) (made_by-else xs k n e ne)
    where
      cases : (b : Bool) → made_by k (xs ++ (n, e) ∷ []) ≡ made_by k xs → cond b (x.1 ∷ made_by k (xs ++ (n, e) ∷ [])) (made_by k (xs ++ (n, e) ∷ [])) ≡ cond b (x.1 ∷ made_by k xs) (made_by k xs)
      cases true h = ap (λ l. x.1 ∷ l) h
      cases false h = h

  pub IsMade-else : (log : List (ℕ × Entry Q R)) (n : ℕ) (e : (Entry Q R)) (ms : List (ℕ × List (Entry Q R))) → total (λ (m : ℕ × List (Entry Q R)). one_if n m.0) ms ≡ 0 → IsMade log ms → IsMade (log ++ (n, e) ∷ []) ms
  IsMade-else log n e [] none made = tt
  IsMade-else log n e (m ∷ ms) none made =
      let a : ℕ = one_if n m.0 in let b : ℕ = total (λ (m : ℕ × List (Entry Q R)). one_if n m.0) ms in let s : a + b ≡ 0 = none in let a0 : a ≡ 0 = omega arith in let b0 : b ≡ 0 = omega arith in
      (made_by-else log m.0 n e (λ same. one_if-else n m.0 a0 (sym same)) ∙ made.0, IsMade-else log n e ms b0 made.1)

  -- the first number made the entry, and no other has that number
  pub IsMade-here : (log : List (ℕ × Entry Q R)) (n : ℕ) (e : (Entry Q R)) (es : List (Entry Q R)) (ms : List (ℕ × List (Entry Q R))) → total (λ (m : ℕ × List (Entry Q R)). one_if n m.0) ((n, es) ∷ ms) ≤ 1 → IsMade log ((n, es) ∷ ms) → IsMade (log ++ (n, e) ∷ []) (with_made e ((n, es) ∷ ms))
  IsMade-here log n e es ms once made =
      let a : ℕ = one_if n n in let b : ℕ = total (λ (m : ℕ × List (Entry Q R)). one_if n m.0) ms in let s : a + b ≤ 1 = once in let a1 : a ≡ 1 = one_if-same n in let b0 : b ≡ 0 = omega arith in
      (made_by-here log n e ∙ ap (λ l. l ++ e ∷ []) made.0, IsMade-else log n e ms b0 made.1)

  pub entries-push : (log : List (ℕ × Entry Q R)) (x : ℕ × (Entry Q R)) → entries (log ++ x ∷ []) ≡ entries log ++ x.1 ∷ []
  entries-push [] x = refl
  entries-push (y ∷ ys) x = ap (λ l. y.1 ∷ l) (entries-push ys x)

  module _ {S : Type 0} (takes : S → Q → Type 0) (after : S → Q → S) (answer : S → Q → R) where
    pub fold_push : (s : S) (es : List (Entry Q R)) (e : (Entry Q R)) → fold_of after s (es ++ e ∷ []) ≡ after (fold_of after s es) e.request
    fold_push s [] e = refl
    fold_push s (x ∷ xs) e = fold_push (after s x.request) xs e

    pub legal_push : (s : S) (es : List (Entry Q R)) (e : (Entry Q R)) → IsLegal takes after answer s es → takes (fold_of after s es) e.request → e.reply ≡ answer (fold_of after s es) e.request → IsLegal takes after answer s (es ++ e ∷ [])
    legal_push s [] e h t r = (t, r, tt)
    legal_push s (x ∷ xs) e h t r = (h.0, h.1, legal_push (after s x.request) xs e h.2 t r)

    -- what the first state takes is taken after any legal history
    pub still : ((s : S) (q p : Q) → takes s q → (takes (after s q) p ↔ takes s p)) → (s : S) (es : List (Entry Q R)) (q : Q) → IsLegal takes after answer s es → takes s q → takes (fold_of after s es) q
    still law s [] q h t = t
    still law s (x ∷ xs) q h t = still law (after s x.request) xs q h.2 ((law s x.request q h.0).1 t)

  -- a number that is above all in a history made nothing
  pub none_made : (log : List (ℕ × Entry Q R)) (m : ℕ) → ((n : ℕ) (e : Entry Q R) (k : ℕ) → get_elem? log k ≡ some (n, e) → n < m) → made_by m log ≡ []
  none_made [] m below = refl
  none_made (x ∷ xs) m below = subst (λ b. cond b (x.1 ∷ made_by m xs) (made_by m xs) ≡ []) (sym (ne_eqb x.0 m (λ e. let l = below x.0 x.1 0 refl in absurd (omega arith)))) (none_made xs m (λ n e k there. below n e (suc k) there))

  pub IsMade-append : (log : List (ℕ × Entry Q R)) (xs ys : List (ℕ × List (Entry Q R))) → IsMade log xs → IsMade log ys → IsMade log (xs ++ ys)
  IsMade-append log [] ys a b = b
  IsMade-append log (x ∷ xs) ys a b = (a.0, IsMade-append log xs ys a.1 b)

  pub with_made-numbers : (n : ℕ) (e : Entry Q R) (ms : List (ℕ × List (Entry Q R))) → total (λ (m : ℕ × List (Entry Q R)). one_if n m.0) (with_made e ms) ≡ total (λ (m : ℕ × List (Entry Q R)). one_if n m.0) ms
  with_made-numbers n e [] = refl
  with_made-numbers n e (m ∷ ms) = refl

  pub with_made-length : (e : Entry Q R) (ms : List (ℕ × List (Entry Q R))) → length (with_made e ms) ≡ length ms
  with_made-length e [] = refl
  with_made-length e (m ∷ ms) = refl
