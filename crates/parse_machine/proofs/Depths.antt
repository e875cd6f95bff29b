-- How deep the parts are that are still to come: none is too deep, up to one that is one too deep and never empty. So an empty part is never too deep where it comes next.
use Rattle.std.specs.Prelude.{ℕ, Bool, true, false, List, [], ◌∷◌, ◌&&◌, ◌+◌, ◌≡◌, ◌≤◌, ◌⊎◌, not, refl, cond, nat_eq, nat_le}
use Rattle.std.proofs.Common.{arith, inl, inr}
use Rattle.std.proofs.lemmas.Bool.Decides.{nat_tests}
use Rattle.cbl_base.specs.declared.limits.TheConstants.{MAX_NESTING}
use Rattle.comet_syntax.specs.Grammar.Kinds.{Kind}
use Rattle.comet_syntax.specs.Grammar.Symbols.{Part, Symbol, token, same, deeper, default, program}
use Rattle.comet_syntax.specs.Grammar.Alternatives.{alternatives}
use Rattle.comet_syntax.specs.Derivation.{Item, want, part, push, OneOf, here, there}
use Rattle.parse_base.specs.Reading.{IsSolid}
use Rattle.parse_base.proofs.Table.{some_empty}
use Rattle.parse_base.proofs.Machine.{solid_of, and_left, and_right}
use Rattle.parse_machine.specs.Choosing.{headroom, CanCome}

pub data Safe : List Item → Type 0 where
  at_end : Safe []
  at_token : {m : Bool} {k : Kind} {K : List Item} → Safe K → Safe (want m k ∷ K)
  fits : {n : Part} {d : ℕ} {K : List Item} → d + headroom n ≤ MAX_NESTING → Safe K → Safe (part n d ∷ K)
  never : {n : Part} {d : ℕ} {K : List Item} → d ≡ MAX_NESTING + 1 → IsSolid n → Safe (part n d ∷ K)

-- Whether a form keeps that, where so much depth is known to be left. A part that is never empty shows that one more is.
abbrev walk : ℕ → List Symbol → Bool
walk k [] = true
walk k (token m j ∷ f) = walk k f
walk k (same n ∷ f) = nat_le (headroom n) k && walk k f
walk k (deeper n ∷ f) = cond (nat_le (headroom n + 1) k) (walk k f) (nat_eq (headroom n) 0 && (not (some_empty (alternatives n)) && walk 1 f))
walk k (default false n ∷ f) = nat_le (headroom n) k && walk k f
walk k (default true n ∷ f) = nat_le (headroom n + 1) k && walk k f

abbrev walks : ℕ → List (List Symbol) → Bool
walks k [] = true
walks k (b ∷ bs) = walk k b && walks k bs

all_walk : (n : Part) → walks (headroom n) (alternatives n) ≡ true
all_walk program = refl
all_walk _ = refl

le_of : (a b : ℕ) → nat_le a b ≡ true → a ≤ b
le_of a b h = grind (arith, nat_tests)

eq_of : (a b : ℕ) → nat_eq a b ≡ true → a ≡ b
eq_of a b h = grind (arith, nat_tests)

by_cond : (b x y : Bool) → cond b x y ≡ true → ((b ≡ true) × (x ≡ true)) ⊎ (y ≡ true)
by_cond true x y h = inl (refl, h)
by_cond false x y h = inr h

safe_push : (k : ℕ) (f : List Symbol) (d : ℕ) (K : List Item) → d + k ≤ MAX_NESTING → walk k f ≡ true → Safe K → Safe (push f d K)
safe_push k [] d K le w s = s
safe_push k (token m j ∷ f) d K le w s = at_token (safe_push k f d K le w s)
safe_push k (same n ∷ f) d K le w s =
    let h = le_of (headroom n) k (and_left (nat_le (headroom n) k) (walk k f) w) in
    fits (omega arith) (safe_push k f d K le (and_right (nat_le (headroom n) k) (walk k f) w) s)
safe_push k (deeper n ∷ f) d K le w s = elim (by_cond (nat_le (headroom n + 1) k) (walk k f) (nat_eq (headroom n) 0 && (not (some_empty (alternatives n)) && walk 1 f)) w) [
  | inl e ↦ let h = le_of (headroom n + 1) k e.0 in fits (omega arith) (safe_push k f d K le e.1 s)
  | inr e ↦
      let z = eq_of (headroom n) 0 (and_left (nat_eq (headroom n) 0) (not (some_empty (alternatives n)) && walk 1 f) e) in
      let e' = and_right (nat_eq (headroom n) 0) (not (some_empty (alternatives n)) && walk 1 f) e in
      elim (low_or (d + 1) (omega arith)) [
        | inl low ↦ fits (omega arith) (safe_push 1 f d K low (and_right (not (some_empty (alternatives n))) (walk 1 f) e') s)
        | inr far ↦ never far (solid_of n (and_left (not (some_empty (alternatives n))) (walk 1 f) e'))
      ]
]
  where
    low_or : (e : ℕ) → e ≤ MAX_NESTING + 1 → (e ≤ MAX_NESTING) ⊎ (e ≡ MAX_NESTING + 1)
    low_or e h = grind arith
safe_push k (default false n ∷ f) d K le w s =
    let h = le_of (headroom n) k (and_left (nat_le (headroom n) k) (walk k f) w) in
    fits (omega arith) (safe_push k f d K le (and_right (nat_le (headroom n) k) (walk k f) w) s)
safe_push k (default true n ∷ f) d K le w s =
    let h = le_of (headroom n + 1) k (and_left (nat_le (headroom n + 1) k) (walk k f) w) in
    fits (omega arith) (safe_push k f d K le (and_right (nat_le (headroom n + 1) k) (walk k f) w) s)

walk_in : (k : ℕ) (bs : List (List Symbol)) (f : List Symbol) → walks k bs ≡ true → OneOf bs f → walk k f ≡ true
walk_in k [] f w o = elim o [ ]
walk_in k (b ∷ bs) f w here = and_left (walk k b) (walks k bs) w
walk_in k (b ∷ bs) f w (there o) = walk_in k bs f (and_right (walk k b) (walks k bs) w) o

-- the form of a part that is not too deep comes next
pub safe_form : (n : Part) (f : List Symbol) (d : ℕ) (K : List Item) → d + headroom n ≤ MAX_NESTING → OneOf (alternatives n) f → Safe K → Safe (push f d K)
safe_form n f d K low o s = safe_push (headroom n) f d K low (walk_in (headroom n) (alternatives n) f (all_walk n) o) s

pub can_come : {n : Part} {d : ℕ} {K : List Item} → Safe (part n d ∷ K) → CanCome n d
can_come (fits h s) = inl h
can_come (never h s) = inr (h, s)

pub behind_token : {m : Bool} {k : Kind} {K : List Item} → Safe (want m k ∷ K) → Safe K
behind_token (at_token s) = s

pub behind_part : {n : Part} {d : ℕ} {K : List Item} → d ≤ MAX_NESTING → Safe (part n d ∷ K) → Safe K
behind_part le (fits h s) = s
behind_part le (never h s) = absurd (omega arith)
