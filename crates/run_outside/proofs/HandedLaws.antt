-- Users' constraints that were handed in: which is the first one that is free, whether a name is known, and what a change of
-- one of them leaves.
use Rattle.std.proofs.Common.{◌≡◌, ◌∙◌, refl, sym, ap, subst, ℕ, zero, suc, ◌+◌, ◌<◌, ◌≤◌, Bool, true, false, ◌&&◌, ◌||◌, Some, None, Option, List, [], ◌∷◌, ◌++◌, length, map, take, get_or, set, arith}
use Rattle.std.specs.Prelude.{IfSome, slice_get, if◌then◌else◌}
use Rattle.std.specs.List.{list_any}
use Rattle.std.specs.Option.{option_map}
use Rattle.cbl_base.specs.NodeLaw.{Rule}
use Rattle.run_solvers.specs.OfPostedUsers.KeptOf.{IsUserRule, kept_of}
use Rattle.run_solvers.specs.OfPostedUsers.KeptRule.{KeptRule, no_rule}
use Rattle.run_outside.specs.HandedIn.{IsOfUser}
use Rattle.run_solvers.specs.OfCometMeaning.Users.{User, first_free, is_known, is_named, rule_in, with_given, with_taken}

abbrev is_open : List ℕ → User → Bool
is_open name user = is_named name user && user.free

-- ---- the first one that is free
abbrev pub AreClosed : List ℕ → List User → ℕ → Type 0
AreClosed name users n = (k : ℕ) (d : User) → k < n → is_open name (get_or users k d) ≡ false

pub closed_more : (name : List ℕ) (users : List User) (n : ℕ) (user : User) → AreClosed name users n → user ≡ get_or users n user → n < length users → is_open name user ≡ false → AreClosed name users (n + 1)
closed_more name [] n user h is lt e k d less = absurd (omega (arith, lt))
closed_more name (u ∷ users) zero user h is lt e zero d less = ap (is_open name) (sym is) ∙ e
closed_more name (u ∷ users) zero user h is lt e (suc k) d less = absurd (omega (arith, less))
closed_more name (u ∷ users) (suc n) user h is lt e zero d less = h zero d (omega arith)
closed_more name (u ∷ users) (suc n) user h is lt e (suc k) d less =
    closed_more name users n user (λ i b l. h (suc i) b (omega (arith, l))) is (omega (arith, lt)) e k d (omega (arith, less))

pub first_at : (name : List ℕ) (users : List User) (n : ℕ) (user : User) → AreClosed name users n → user ≡ get_or users n user → n < length users → is_open name user ≡ true → first_free name users ≡ Some n
first_at name [] n user h is lt e = absurd (omega (arith, lt))
first_at name (u ∷ users) zero user h is lt e = ap (λ b. if b then Some 0 else option_map suc (first_free name users)) (ap (is_open name) (sym is) ∙ e)
first_at name (u ∷ users) (suc n) user h is lt e =
    ap (λ b. if b then Some 0 else option_map suc (first_free name users)) (h zero u (omega arith))
    ∙ ap (option_map suc) (first_at name users n user (λ i b l. h (suc i) b (omega (arith, l))) is (omega (arith, lt)) e)

pub none_free : (name : List ℕ) (users : List User) → AreClosed name users (length users) → first_free name users ≡ None
none_free name [] h = refl
none_free name (u ∷ users) h =
    ap (λ b. if b then Some 0 else option_map suc (first_free name users)) (h zero u (omega arith))
    ∙ ap (option_map suc) (none_free name users (λ i b l. h (suc i) b (omega (arith, l))))

-- ---- whether a name is known
pub known_at : (name : List ℕ) (users : List User) (n : ℕ) (user : User) → user ≡ get_or users n user → n < length users → is_named name user ≡ true → is_known name users ≡ true
known_at name [] n user is lt e = absurd (omega (arith, lt))
known_at name (u ∷ users) zero user is lt e = ap (λ b. b || is_known name users) (ap (is_named name) (sym is) ∙ e)
known_at name (u ∷ users) (suc n) user is lt e = or_true (is_named name u) (known_at name users n user is (omega (arith, lt)) e)
  where
    or_true : (b : Bool) → is_known name users ≡ true → (b || is_known name users) ≡ true
    or_true true k = refl
    or_true false k = k

abbrev pub AreOthers : List ℕ → List User → ℕ → Type 0
AreOthers name users n = (k : ℕ) (d : User) → k < n → is_named name (get_or users k d) ≡ false

pub none_known : (name : List ℕ) (users : List User) → AreOthers name users (length users) → is_known name users ≡ false
none_known name [] h = refl
none_known name (u ∷ users) h =
    ap (λ b. b || is_known name users) (h zero u (omega arith)) ∙ none_known name users (λ i b l. h (suc i) b (omega (arith, l)))

-- ---- a change of one of them
pub taken_set : (users : List User) (n : ℕ) (d user : User) → n < length users → user ≡ record (get_or users n d) { free = false } → set users n user ≡ with_taken users n
taken_set [] n d user lt e = absurd (omega (arith, lt))
taken_set (u ∷ users) zero d user lt e = ap (λ v. v ∷ users) e
taken_set (u ∷ users) (suc n) d user lt e = ap (λ us. u ∷ us) (taken_set users n d user (omega (arith, lt)) e)

pub taken_past : (users : List User) (n : ℕ) → length users ≤ n → with_taken users n ≡ users
taken_past [] n le = refl
taken_past (u ∷ users) zero le = absurd (omega (arith, le))
taken_past (u ∷ users) (suc n) le = ap (λ us. u ∷ us) (taken_past users n (omega (arith, le)))

pub given_set : (users : List User) (n : ℕ) (d user : User) → n < length users → user ≡ record (get_or users n d) { rule = no_rule } → set users n user ≡ with_given users n
given_set [] n d user lt e = absurd (omega (arith, lt))
given_set (u ∷ users) zero d user lt e = ap (λ v. v ∷ users) e
given_set (u ∷ users) (suc n) d user lt e = ap (λ us. u ∷ us) (given_set users n d user (omega (arith, lt)) e)

pub given_past : (users : List User) (n : ℕ) → length users ≤ n → with_given users n ≡ users
given_past [] n le = refl
given_past (u ∷ users) zero le = absurd (omega (arith, le))
given_past (u ∷ users) (suc n) le = ap (λ us. u ∷ us) (given_past users n (omega (arith, le)))

pub rule_at : (users : List User) (n : ℕ) (d : User) → n < length users → rule_in users n ≡ (get_or users n d).rule
rule_at [] n d lt = absurd (omega (arith, lt))
rule_at (u ∷ users) zero d lt = refl
rule_at (u ∷ users) (suc n) d lt = rule_at users n d (omega (arith, lt))

-- ---- the node that is given away
pub user_given : {A : Type 0} (rule_of : A → Rule) (node : Option A) → IsOfUser rule_of node → IfSome node (λ n. IsUserRule (rule_of n))
user_given rule_of None is = is
user_given rule_of (Some n) is = is
