-- What an expression's head and rest put on the stack, at each binding level: an operand, and what stands behind it at each level up to that.
use Rattle.std.specs.Prelude.{ℕ, false, List, ◌∷◌, ◌≡◌, ◌<◌, ◌≤◌, refl}
use Rattle.std.proofs.Common.{◌∙◌, ap, subst, arith, zero, suc}
use Rattle.comet_syntax.specs.declared.token.TokenKind.TheVariants as kinds
use Rattle.comet_syntax.specs.declared.token.Word.TheVariants as words
use Rattle.comet_syntax.specs.declared.tree.expressions.Name.{Name}
use Rattle.comet_syntax.specs.declared.tree.expressions.Extreme.TheVariants as extremes
use Rattle.comet_syntax.specs.Grammar.Symbols.{operand, unnamed, postfix, extreme}
use Rattle.comet_syntax.specs.Grammar.Expressions.{operand_name, unnamed_literal, unnamed_left_brace, postfix_name, postfix_literal, postfix_left_brace, postfix_extreme}
use Rattle.comet_syntax.specs.Written.Shown.{Shown}
use Rattle.comet_syntax.specs.Written.Expressions.{Opening, by_literal, by_brace, by_extreme, by_other, Head, by_name, by_opening, misplaced, opening, operand_head, postfix_head, unnamed_extreme, extreme_form}
use Rattle.parse_unique.specs.Bare.{Bare}
use Rattle.parse_unique.proofs.Values.{Value, sign, marked, nothing, tree, by_its_extreme, Stack, top_of, below, under, is_sign, bare_in, named, suffixed, behind, after, operand_of, part_step, valued, ends}
use Rattle.parse_unique.proofs.Listings.{Fine, more_ends, as_many, fine_le, fine_map}

pub cong2 : {A B C : Type 0} (f : A → B → C) {a a' : A} {b b' : B} → a ≡ a' → b ≡ b' → f a b ≡ f a' b'
cong2 f {a} {a'} {b} {b'} p q = ap (λ x. f x b) p ∙ ap (λ y. f a' y) q

-- an operand, and what stands behind it at so many levels
abbrev pub On : ℕ → Stack → Bare → Stack → Type 0
On zero s b z = s ≡ tree b ∷ z
On (suc j) s b z = (c : Bare) × (t : Value) × On j s c (t ∷ z) × (behind t c ≡ b)

-- the same, where the operand begins with a name that isn't there any more
abbrev pub OnName : ℕ → Name → Stack → Bare → Stack → Type 0
OnName zero n s b z = (c : Value) × (t : Value) × (s ≡ c ∷ t ∷ z) × (suffixed (named n c) t ≡ b) × (is_sign c ≡ false)
OnName (suc j) n s b z = (c : Bare) × (t : Value) × OnName j n s c (t ∷ z) × (behind t c ≡ b)

-- the operand that begins with a head and goes on so is the one, with these values behind it
abbrev pub Starts : ℕ → Head → List Shown → Bare → Stack → Type 0
Starts k (by_name n) Y o z = Fine k (ends Y) (OnName 0 n (valued Y) o z)
Starts k (by_opening (by_literal text)) Y o z = Fine k (ends (text Y)) ((l : Bare) × (t : Value) × (valued (text Y) ≡ tree l ∷ t ∷ z) × (suffixed l t ≡ o))
Starts k (by_opening (by_brace p text)) Y o z = Fine k (ends (text Y)) ((l : Bare) × (c : Value) × (t : Value) × (valued (text Y) ≡ tree l ∷ c ∷ t ∷ z) × (suffixed (Bare.set p l) t ≡ o))
Starts k (by_opening (by_extreme e p in_pair apart)) Y o z =
    Fine k (ends (in_pair Y)) ((f : Value) × (valued (in_pair Y) ≡ f ∷ z) × (by_its_extreme f e p ≡ o))
    × Fine k (ends (apart Y)) ((l : Bare) × (c : Value) × (r : Bare) × (d : Value) × (t : Value) × (valued (apart Y) ≡ tree l ∷ c ∷ tree r ∷ d ∷ t ∷ z) × (suffixed (Bare.extreme e p l r) t ≡ o))
Starts k (by_opening (by_other text)) Y o z = Fine k (ends (text Y)) (valued (text Y) ≡ tree o ∷ z)

abbrev pub At : ℕ → Head → ℕ → List Shown → Bare → Stack → Type 0
At zero h k Y b z = Starts k h Y b z
At (suc j) h k Y b z = (c : Bare) × (t : Value) × At j h k Y c (t ∷ z) × (behind t c ≡ b)

-- no end of a program is lost in front
abbrev pub Steady : Head → Type 0
Steady (by_name n) = Unit {0}
Steady (by_opening (by_literal text)) = (X : List Shown) → ends X ≤ ends (text X)
Steady (by_opening (by_brace p text)) = (X : List Shown) → ends X ≤ ends (text X)
Steady (by_opening (by_extreme e p in_pair apart)) = ((X : List Shown) → ends X ≤ ends (in_pair X)) × ((X : List Shown) → ends X ≤ ends (apart X))
Steady (by_opening (by_other text)) = (X : List Shown) → ends X ≤ ends (text X)

fine_more : {k m n : ℕ} {P Q : Type 0} → k < m → Fine m n P → Fine k n Q
fine_more l f = let h = fine_le f in more_ends (omega arith)

starts_more : {k m : ℕ} (h : Head) (Y : List Shown) (b c : Bare) (z w : Stack) → k < m → Starts m h Y b z → Starts k h Y c w
starts_more (by_name n) Y b c z w l f = fine_more l f
starts_more (by_opening (by_literal text)) Y b c z w l f = fine_more l f
starts_more (by_opening (by_brace p text)) Y b c z w l f = fine_more l f
starts_more (by_opening (by_extreme e p in_pair apart)) Y b c z w l f = (fine_more l f.0, fine_more l f.1)
starts_more (by_opening (by_other text)) Y b c z w l f = fine_more l f

at_more : {k m : ℕ} (j : ℕ) (h : Head) (Y : List Shown) (b c : Bare) (z w : Stack) → k < m → At j h m Y b z → At j h k Y c w
at_more zero h Y b c z w l f = starts_more h Y b c z w l f
at_more (suc j) h Y b c z w l f = (c, nothing, at_more j h Y f.0 c (f.1 ∷ z) (nothing ∷ w) l f.2, refl)

-- what stands behind may be put in front of something
pub at_behind : {k m : ℕ} (j : ℕ) (h : Head) (Y : List Shown) (b : Bare) (z w : Stack) → Fine k m (w ≡ z) → At j h m Y b w → At j h k Y b z
at_behind j h Y b z w (more_ends l) a = at_more j h Y b b w z l a
at_behind {m = m} j h Y b z w (as_many e d) a = subst (λ n. At j h n Y b z) e (subst (λ v. At j h m Y b v) d a)

-- where no derivation goes on
starts_astray : (h : Head) (b : Bare) → Steady h → (X : List Shown) (z : Stack) → Starts (ends X) h (misplaced X) b z
starts_astray (by_name n) b st X z = more_ends (omega arith)
starts_astray (by_opening (by_literal text)) b st X z = let h = st (misplaced X) in more_ends (omega arith)
starts_astray (by_opening (by_brace p text)) b st X z = let h = st (misplaced X) in more_ends (omega arith)
starts_astray (by_opening (by_extreme e p in_pair apart)) b st X z = let h = st.0 (misplaced X) in let g = st.1 (misplaced X) in (more_ends (omega arith), more_ends (omega arith))
starts_astray (by_opening (by_other text)) b st X z = let h = st (misplaced X) in more_ends (omega arith)

pub astray : (j : ℕ) (h : Head) (b : Bare) → Steady h → (X : List Shown) (z : Stack) → At j h (ends X) (misplaced X) b z
astray zero h b st X z = starts_astray h b st X z
astray (suc j) h b st X z = (b, nothing, astray j h b st X (nothing ∷ z), refl)

-- an operand by its head
pub opening_starts : (k : ℕ) (o : Opening) (Y : List Shown) (b : Bare) (z : Stack) → Starts k (by_opening o) Y b z → Fine k (ends (opening o Y)) (valued (opening o Y) ≡ tree b ∷ z)
opening_starts k (by_literal text) Y b z f =
    fine_map (λ q. ap (λ v. part_step unnamed unnamed_literal v) q.2 ∙ ap (λ x. tree x ∷ z) q.3) f
opening_starts k (by_brace p text) Y b z f =
    fine_map (λ q. ap (λ v. part_step unnamed unnamed_left_brace (marked (kinds.Word words.LeftBrace) p ∷ v)) q.3 ∙ ap (λ x. tree x ∷ z) q.4) f
opening_starts k (by_extreme extremes.Min p in_pair apart) Y b z f =
    fine_map (λ q. ap (λ v. part_step unnamed (unnamed_extreme extremes.Min) (marked (kinds.Word words.Min) p ∷ sign (kinds.Word words.LeftParenthesis) ∷ v)) q.1 ∙ ap (λ x. tree x ∷ z) q.2) f.0
opening_starts k (by_extreme extremes.Max p in_pair apart) Y b z f =
    fine_map (λ q. ap (λ v. part_step unnamed (unnamed_extreme extremes.Max) (marked (kinds.Word words.Max) p ∷ sign (kinds.Word words.LeftParenthesis) ∷ v)) q.1 ∙ ap (λ x. tree x ∷ z) q.2) f.0
opening_starts k (by_other text) Y b z f = f

name_starts : (n : Name) (Y : List Shown) (b : Bare) (z : Stack) → OnName 0 n (valued Y) b z → valued (operand_head (by_name n) Y) ≡ tree b ∷ z
name_starts n Y b z q = ap (λ v. part_step operand operand_name (marked (kinds.Name n.text) n.place ∷ v)) q.2 ∙ ap (λ x. tree x ∷ z) q.3

head_starts : (k : ℕ) (h : Head) (Y : List Shown) (b : Bare) (z : Stack) → Starts k h Y b z → Fine k (ends (operand_head h Y)) (valued (operand_head h Y) ≡ tree b ∷ z)
head_starts k (by_name n) Y b z f = fine_map (name_starts n Y b z) f
head_starts k (by_opening o) Y b z f = opening_starts k o Y b z f

pub head_at : (j : ℕ) (k : ℕ) (h : Head) (Y : List Shown) (b : Bare) (z : Stack) → At j h k Y b z → Fine k (ends (operand_head h Y)) (On j (valued (operand_head h Y)) b z)
head_at zero k h Y b z a = head_starts k h Y b z a
head_at (suc j) k h Y b z a = fine_map (λ o. (a.0, a.1, o, a.3)) (head_at j k h Y a.0 (a.1 ∷ z) a.2)

pub postfix_starts : (k : ℕ) (h : Head) (Y : List Shown) (b : Bare) (z : Stack) → Steady h → k ≤ ends Y → Starts k h Y b z → Fine k (ends (postfix_head h Y)) (valued (postfix_head h Y) ≡ tree b ∷ z)
postfix_starts k (by_name n) Y b z st le f = fine_map (λ q. ap (λ v. part_step postfix postfix_name (marked (kinds.Name n.text) n.place ∷ v)) q.2 ∙ ap (λ x. tree x ∷ z) q.3) f
postfix_starts k (by_opening (by_literal text)) Y b z st le f =
    fine_map (λ q. ap (λ v. part_step postfix postfix_literal v) q.2 ∙ ap (λ x. tree x ∷ z) q.3) f
postfix_starts k (by_opening (by_brace p text)) Y b z st le f =
    fine_map (λ q. ap (λ v. part_step postfix postfix_left_brace (marked (kinds.Word words.LeftBrace) p ∷ v)) q.3 ∙ ap (λ x. tree x ∷ z) q.4) f
postfix_starts k (by_opening (by_extreme extremes.Min p in_pair apart)) Y b z st le f =
    fine_map (λ q. ap (λ v. part_step postfix postfix_extreme (part_step extreme (extreme_form extremes.Min) (marked (kinds.Word words.Min) p ∷ sign (kinds.Word words.LeftParenthesis) ∷ v))) q.5 ∙ ap (λ x. tree x ∷ z) q.6) f.1
postfix_starts k (by_opening (by_extreme extremes.Max p in_pair apart)) Y b z st le f =
    fine_map (λ q. ap (λ v. part_step postfix postfix_extreme (part_step extreme (extreme_form extremes.Max) (marked (kinds.Word words.Max) p ∷ sign (kinds.Word words.LeftParenthesis) ∷ v))) q.5 ∙ ap (λ x. tree x ∷ z) q.6) f.1
postfix_starts k (by_opening (by_other text)) Y b z st le f = more_ends (omega arith)

-- what was found is what is computed from the stack
pub on_is : (j : ℕ) (s : Stack) (b : Bare) (z : Stack) → On j s b z → (operand_of j s ≡ b) × (under (suc j) s ≡ z)
on_is zero s b z o = (ap (λ v. bare_in (top_of v)) o, ap below o)
on_is (suc j) s b z o =
    let i = on_is j s o.0 (o.1 ∷ z) o.2 in
    (cong2 (λ v c. behind (top_of v) c) i.1 i.0 ∙ o.3, ap below i.1)

pub on_top : (j : ℕ) (s : Stack) (b : Bare) (z : Stack) → On j s b z → (c : Bare) × (top_of s ≡ tree c)
on_top zero s b z o = (b, ap top_of o)
on_top (suc j) s b z o = on_top j s o.0 (o.1 ∷ z) o.2

pub on_name_is : (j : ℕ) (n : Name) (s : Stack) (b : Bare) (z : Stack) → OnName j n s b z
    → (after j (suffixed (named n (top_of s)) (top_of (below s))) (below s) ≡ b) × (under (suc j) (below s) ≡ z) × (is_sign (top_of s) ≡ false)
on_name_is zero n s b z o = (ap (λ v. suffixed (named n (top_of v)) (top_of (below v))) o.2 ∙ o.3, ap (λ v. below (below v)) o.2, ap (λ v. is_sign (top_of v)) o.2 ∙ o.4)
on_name_is (suc j) n s b z o =
    let i = on_name_is j n s o.0 (o.1 ∷ z) o.2 in
    (cong2 (λ v c. behind (top_of v) c) i.1 i.0 ∙ o.3, ap below i.1, i.2)
