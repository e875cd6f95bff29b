-- Cutting a text at a byte, and joining the parts.
use Rattle.std.proofs.Common.{◌≡◌, ◌≢◌, ℕ, ◌+◌, ◌-◌, ◌<◌, ◌≤◌, Bool, true, false, not, ◌&&◌, true≢false, cond, eqb, eq-eqb, ne_eqb, List, [], ◌∷◌, ◌++◌, length, take, drop, get_or, Some, None, refl, ap, sym, subst, ◌∙◌, arith, append_assoc}
use Rattle.std.proofs.lemmas.Bool.{eqb-true}
use Rattle.std.proofs.lemmas.List.{append-nil, take_more, take_rest, drop_all, drop_more}
use Rattle.journal_text.specs.Texts.{joined}
use Rattle.journal_text.proofs.Joins.{joined_cons}
use Rattle.journal_text.specs.Grammar.{ended}
use Rattle.journal_text.specs.Refusal.{behind_byte, split}
use Rattle.journal_text.specs.Reading.{next, only}

-- no such byte stands there
abbrev pub is_free : ℕ → List ℕ → Bool
is_free at [] = true
is_free at (b ∷ bs) = not (eqb b at) && is_free at bs

abbrev pub AllFree : ℕ → List (List ℕ) → Type 0
AllFree at [] = Unit {0}
AllFree at (w ∷ ws) = (is_free at w ≡ true) × AllFree at ws

pub both : (a b : Bool) → (a && b) ≡ true → (a ≡ true) × (b ≡ true)
both true b e = (refl, e)
both false b e = absurd (true≢false (sym e))

pub and_true : (a b : Bool) → a ≡ true → b ≡ true → (a && b) ≡ true
and_true a b x y = subst (λ (t : Bool). (t && b) ≡ true) (sym x) y

pub free_append : (at : ℕ) (xs ys : List ℕ) → is_free at xs ≡ true → is_free at ys ≡ true → is_free at (xs ++ ys) ≡ true
free_append at [] ys e f = f
free_append at (b ∷ bs) ys e f = let p = both (not (eqb b at)) (is_free at bs) e in and_true (not (eqb b at)) (is_free at (bs ++ ys)) p.0 (free_append at bs ys p.1 f)

pub free_byte : (at b : ℕ) (bs : List ℕ) → b ≢ at → is_free at bs ≡ true → is_free at (b ∷ bs) ≡ true
free_byte at b bs ne e = and_true (not (eqb b at)) (is_free at bs) (ap not (ne_eqb b at ne)) e

pub free_joined : (at c : ℕ) (ws : List (List ℕ)) → c ≢ at → AllFree at ws → is_free at (joined c ws) ≡ true
free_joined at c [] ne f = refl
free_joined at c (w ∷ []) ne f = f.0
free_joined at c (w ∷ x ∷ xs) ne f = free_append at w (c ∷ joined c (x ∷ xs)) f.0 (free_byte at c (joined c (x ∷ xs)) ne (free_joined at c (x ∷ xs) ne f.1))

pub AllFree-append : (at : ℕ) (xs ys : List (List ℕ)) → AllFree at xs → AllFree at ys → AllFree at (xs ++ ys)
AllFree-append at [] ys f g = g
AllFree-append at (x ∷ xs) ys f g = (f.0, AllFree-append at xs ys f.1 g)

split_free : (at : ℕ) (w rest : List ℕ) → is_free at w ≡ true → split at (w ++ at ∷ rest) ≡ w ∷ split at rest
split_free at [] rest e = ap (λ t. cond t ([] ∷ split at rest) (behind_byte at (split at rest))) (eq-eqb at at refl)
split_free at (b ∷ bs) rest e = cases (eqb b at) e (split_free at bs rest)
  where
    cases : (t : Bool) → (not t && is_free at bs) ≡ true → (is_free at bs ≡ true → split at (bs ++ at ∷ rest) ≡ bs ∷ split at rest) → cond t ([] ∷ split at (bs ++ at ∷ rest)) (behind_byte b (split at (bs ++ at ∷ rest))) ≡ (b ∷ bs) ∷ split at rest
    cases true e others = absurd (true≢false (sym e))
    cases false e others = ap (behind_byte b) (others e)

split_all : (at : ℕ) (w : List ℕ) → is_free at w ≡ true → split at w ≡ w ∷ []
split_all at [] e = refl
split_all at (b ∷ bs) e = cases (eqb b at) e (split_all at bs)
  where
    cases : (t : Bool) → (not t && is_free at bs) ≡ true → (is_free at bs ≡ true → split at bs ≡ bs ∷ []) → cond t ([] ∷ split at bs) (behind_byte b (split at bs)) ≡ (b ∷ bs) ∷ []
    cases true e others = absurd (true≢false (sym e))
    cases false e others = ap (behind_byte b) (others e)

-- parts that are joined are found again
pub split_joined : (at : ℕ) (w : List ℕ) (ws : List (List ℕ)) → AllFree at (w ∷ ws) → split at (joined at (w ∷ ws)) ≡ w ∷ ws
split_joined at w [] f = split_all at w f.0
split_joined at w (x ∷ xs) f = split_free at w (joined at (x ∷ xs)) f.0 ∙ ap (λ l. w ∷ l) (split_joined at x xs f.1)

behind_length : (b : ℕ) (ps : List (List ℕ)) → length (behind_byte b ps) ≡ length ps
behind_length b [] = refl
behind_length b (p ∷ ps) = refl

pub split_some : (at : ℕ) (bs : List ℕ) → 0 < length (split at bs)
split_some at [] = omega arith
split_some at (b ∷ bs) = cases (eqb b at) (split_some at bs)
  where
    cases : (t : Bool) → 0 < length (split at bs) → 0 < length (cond t ([] ∷ split at bs) (behind_byte b (split at bs)))
    cases true h = omega arith
    cases false h = let l = behind_length b (split at bs) in omega arith

joined_behind : (at b : ℕ) (ps : List (List ℕ)) → 0 < length ps → joined at (behind_byte b ps) ≡ b ∷ joined at ps
joined_behind at b [] h = absurd (omega arith)
joined_behind at b (p ∷ []) h = refl
joined_behind at b (p ∷ q ∷ qs) h = refl

-- parts that were cut are the text again
pub joined_split : (at : ℕ) (bs : List ℕ) → joined at (split at bs) ≡ bs
joined_split at [] = refl
joined_split at (b ∷ bs) = cases (eqb b at) refl (joined_split at bs)
  where
    cases : (t : Bool) → eqb b at ≡ t → joined at (split at bs) ≡ bs → joined at (cond t ([] ∷ split at bs) (behind_byte b (split at bs))) ≡ b ∷ bs
    cases true is h = let same : b ≡ at = eqb-true b at is in joined_cons at [] (split at bs) (split_some at bs) ∙ (ap (λ l. at ∷ l) h ∙ ap (λ k. k ∷ bs) (sym same))
    cases false is h = joined_behind at b (split at bs) (split_some at bs) ∙ ap (λ l. b ∷ l) h

-- a text whose parts are known
pub text_of_parts : (at : ℕ) (bs : List ℕ) (ps : List (List ℕ)) → split at bs ≡ ps → bs ≡ joined at ps
text_of_parts at bs ps e = sym (joined_split at bs) ∙ ap (joined at) e

-- ended lines are joined lines with nothing behind the last
pub ended_joined : (ls : List (List ℕ)) → ended ls ≡ joined 10 (ls ++ [] ∷ [])
ended_joined [] = refl
ended_joined (l ∷ []) = refl
ended_joined (l ∷ m ∷ ms) = ap (λ t. l ++ 10 ∷ t) (ended_joined (m ∷ ms))

pub split_ended : (ls : List (List ℕ)) → AllFree 10 ls → split 10 (ended ls) ≡ ls ++ [] ∷ []
split_ended [] f = refl
split_ended (l ∷ ls) f = split_free 10 l (ended ls) f.0 ∙ ap (λ k. l ∷ k) (split_ended ls f.1)

-- ---- what next and only say

pub next_is : (ws : List (List ℕ)) (x : List ℕ × List (List ℕ)) → next ws ≡ Some x → (ws ≡ x.0 ∷ x.1) × (0 < length x.1)
next_is [] x e = absurd cc
next_is (w ∷ []) x e = absurd cc
next_is (w ∷ y ∷ ys) x e = subst (λ (z : List ℕ × List (List ℕ)). (w ∷ y ∷ ys ≡ z.0 ∷ z.1) × (0 < length z.1)) (some_is (w, y ∷ ys) x e) (refl, omega arith)
  where
    some_is : {A : Type 0} (a b : A) → Some a ≡ Some b → a ≡ b
    some_is a b e = cc

pub only_is : (ws : List (List ℕ)) (x : List ℕ) → only ws ≡ Some x → ws ≡ x ∷ []
only_is [] x e = absurd cc
only_is (w ∷ []) x e = let h : w ≡ x = cc in ap (λ l. l ∷ []) h
only_is (w ∷ y ∷ ys) x e = absurd cc

-- a text in which next finds nothing is one word
pub one_word : (at : ℕ) (bs : List ℕ) → next (split at bs) ≡ None → split at bs ≡ bs ∷ []
one_word at bs e = cases (split at bs) refl e
  where
    cases : (ps : List (List ℕ)) → split at bs ≡ ps → next ps ≡ None → ps ≡ bs ∷ []
    cases [] is e = let h = split_some at bs in absurd (let l : length (split at bs) ≡ 0 = ap length is in omega arith)
    cases (p ∷ []) is e = ap (λ l. l ∷ []) (sym (text_of_parts at bs (p ∷ []) is))
    cases (p ∷ q ∷ qs) is e = absurd cc

pub next_cons : (x : List ℕ) (ws : List (List ℕ)) → 0 < length ws → next (x ∷ ws) ≡ Some (x, ws)
next_cons x [] h = absurd (omega arith)
next_cons x (w ∷ ws) h = refl

-- ---- the loop that cuts

-- parts of which the first has these bytes at its front too
abbrev pub with_front : List ℕ → List (List ℕ) → List (List ℕ)
with_front xs [] = []
with_front xs (p ∷ ps) = (xs ++ p) ∷ ps

with_front-behind : (xs : List ℕ) (b : ℕ) (ps : List (List ℕ)) → with_front xs (behind_byte b ps) ≡ with_front (xs ++ b ∷ []) ps
with_front-behind xs b [] = refl
with_front-behind xs b (p ∷ ps) = ap (λ l. l ∷ ps) (sym (append_assoc xs (b ∷ []) p))

with_front-none : (ps : List (List ℕ)) → with_front [] ps ≡ ps
with_front-none [] = refl
with_front-none (p ∷ ps) = refl

-- one byte more that isn't the one
pub passes : (at : ℕ) (xs : List ℕ) (b : ℕ) (bs : List ℕ) → b ≢ at → with_front xs (split at (b ∷ bs)) ≡ with_front (xs ++ b ∷ []) (split at bs)
passes at xs b bs ne = ap (λ t. with_front xs (cond t ([] ∷ split at bs) (behind_byte b (split at bs)))) (ne_eqb b at ne) ∙ with_front-behind xs b (split at bs)

-- the byte
pub finds : (at : ℕ) (xs : List ℕ) (b : ℕ) (bs : List ℕ) → b ≡ at → next (with_front xs (split at (b ∷ bs))) ≡ Some (xs, split at bs)
finds at xs b bs same =
    ap (λ t. next (with_front xs (cond t ([] ∷ split at bs) (behind_byte b (split at bs))))) (eq-eqb b at same)
    ∙ (next_cons (xs ++ []) (split at bs) (split_some at bs) ∙ ap (λ l. Some (l, split at bs)) (append-nil xs))

pub cut_start : (at : ℕ) (bs : List ℕ) → split at bs ≡ with_front [] (split at bs)
cut_start at bs = sym (with_front-none (split at bs))

pub cut_more : (at : ℕ) (bs : List ℕ) (i : ℕ) → i < length bs → get_or bs i 0 ≢ at → split at bs ≡ with_front (take i bs) (split at (drop i bs)) → split at bs ≡ with_front (take (i + 1) bs) (split at (drop (i + 1) bs))
cut_more at bs i lt ne e =
    e ∙ (ap (λ l. with_front (take i bs) (split at l)) (drop_more bs i 0 lt)
    ∙ (passes at (take i bs) (get_or bs i 0) (drop (i + 1) bs) ne ∙ ap (λ l. with_front l (split at (drop (i + 1) bs))) (sym (take_more bs i 0 lt))))

pub cut_found : (at : ℕ) (bs : List ℕ) (i : ℕ) → i < length bs → get_or bs i 0 ≡ at → split at bs ≡ with_front (take i bs) (split at (drop i bs)) → Some (take i bs, split at (take (length bs - (i + 1)) (drop (i + 1) bs))) ≡ next (split at bs)
cut_found at bs i lt same e =
    ap (λ l. Some (take i bs, split at l)) (take_rest bs (i + 1))
    ∙ sym (ap next (e ∙ ap (λ l. with_front (take i bs) (split at l)) (drop_more bs i 0 lt)) ∙ finds at (take i bs) (get_or bs i 0) (drop (i + 1) bs) same)

pub cut_none : (at : ℕ) (bs : List ℕ) (i : ℕ) → length bs ≤ i → split at bs ≡ with_front (take i bs) (split at (drop i bs)) → None ≡ next (split at bs)
cut_none at bs i past e = sym (ap next (e ∙ ap (λ l. with_front (take i bs) (split at l)) (drop_all i bs past)))

pub only_some : (at : ℕ) (bs : List ℕ) → next (split at bs) ≡ None → only (split at bs) ≡ Some bs
only_some at bs e = ap only (one_word at bs e)

pub only_none : (ws : List (List ℕ)) (x : List ℕ × List (List ℕ)) → next ws ≡ Some x → only ws ≡ None
only_none [] x e = absurd cc
only_none (w ∷ []) x e = absurd cc
only_none (w ∷ y ∷ ys) x e = refl

-- a text that was cut is its parts, with the byte between them
pub next_text : (at : ℕ) (bs x ys : List ℕ) → next (split at bs) ≡ Some (x, split at ys) → bs ≡ x ++ at ∷ ys
next_text at bs x ys e =
    let n = next_is (split at bs) (x, split at ys) e in
    text_of_parts at bs (x ∷ split at ys) n.0 ∙ (joined_cons at x (split at ys) (split_some at ys) ∙ ap (λ l. x ++ at ∷ l) (joined_split at ys))
