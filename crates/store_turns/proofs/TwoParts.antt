-- What waits in the short list or in the map.
use Rattle.std.proofs.Common.{◌≡◌, ◌≢◌, ℕ, Bool, true, false, List, [], ◌∷◌, length, take, Option, Some, None, IsSome, IfSome, MatchOption, MatchBool, refl, sym, ap, ◌∙◌, subst, inl, inr, ◌⊎◌, arith}
use Rattle.std.specs.Option.{option_map}
use Rattle.std.specs.BTreeMap.{get, is_at}
use Rattle.std.specs.Ordering.{is_gt}
use Rattle.cbl_base.specs.declared.input.Change.{Change}
use Rattle.store_turns.specs.declared.waiting.Turn.{Turn}
use Rattle.store_turns.specs.declared.waiting.Pending.{Pending}
use Rattle.store_turns.specs.declared.waiting.Waiting.{Waiting}
use Rattle.store_turns.specs.declared.short_list.ShortList.{ShortList}
use Rattle.store_turns.specs.Waits.{turn_cmp, look, or_later, changes_of, and_change, NotAfter, IsBefore, IsLeast, IsFarFirst, IsTaken, NothingWaits, taken_of}
use Rattle.store_turns.specs.Entries.{Puts}
use Rattle.store_turns.proofs.TurnOrder.{other_turn, no_later, not_after, later, before_not_after, not_both_ways, before_or_later, before_and_after}

-- what waits for a turn
abbrev at : List (Turn × Pending) → (Turn → Option Pending) → Turn → Option (Option (List Change))
at near far u = option_map changes_of (or_later (look u near) (far u))

abbrev turn : ℕ → ℕ → Turn
turn l i = record { layer = l; id = i }

-- ---- written in the short list
pub added_here : (t u : Turn) (near near' : List (Turn × Pending)) (far : Option Pending) (p : Pending) (c : Change) → t ≡ u → look t near ≡ Some p → option_map changes_of (look t near') ≡ Some (and_change c (Some (changes_of p))) → option_map changes_of (or_later (look u near') far) ≡ Some (and_change c (option_map changes_of (or_later (look u near) far)))
added_here t u near near' far p c same before here =
    of_both (look u near) (look u near') (ap (λ (x : Turn). look x near) (sym same) ∙ before) (ap (λ (x : Turn). option_map changes_of (look x near')) (sym same) ∙ here)
  where
    of_both : (o o' : Option Pending) → o ≡ Some p → option_map changes_of o' ≡ Some (and_change c (Some (changes_of p))) → option_map changes_of (or_later o' far) ≡ Some (and_change c (option_map changes_of (or_later o far)))
    of_both o None e h = absurd (cc)
    of_both None (Some q) e h = absurd (cc)
    of_both (Some r) (Some q) e h = h ∙ ap (λ (o : Option Pending). Some (and_change c (option_map changes_of (or_later o far)))) (sym e)

-- ---- written in the map, where the list has nothing
pub added_far : (o far far' : Option Pending) (p p' : Pending) (c : Change) → o ≡ None → far ≡ Some p → far' ≡ Some p' → changes_of p' ≡ and_change c (Some (changes_of p)) → option_map changes_of (or_later o far') ≡ Some (and_change c (option_map changes_of (or_later o far)))
added_far o far far' p p' c none was is more =
    ap (λ (x : Option Pending). option_map changes_of (or_later x far')) none ∙ ap (λ (x : Option Pending). option_map changes_of x) is ∙ ap (λ x. Some x) more
    ∙ sym (ap (λ (x : Option Pending). Some (and_change c (option_map changes_of (or_later x far)))) none ∙ ap (λ (x : Option Pending). Some (and_change c (option_map changes_of x))) was)

-- what the list has comes first
pub near_first : (o later : Option Pending) (x : Option (List Change)) → option_map changes_of o ≡ Some x → option_map changes_of (or_later o later) ≡ Some x
near_first None later x h = absurd (cc)
near_first (Some p) later x h = h

pub none_in : (u : Turn) (es : List (Turn × Pending)) → length es ≡ 0 → look u es ≡ None
none_in u [] none = refl
none_in u (e ∷ es) none = absurd (omega (arith, none))

-- ---- what waits is in one of the two
pub one_there : (o later : Option Pending) → IsSome (option_map changes_of (or_later o later)) → IsSome o ⊎ IsSome later
one_there None None h = inr h
one_there None (Some p) h = inr (of_some p)
  where
    of_some : (p : Pending) → IsSome (Some p)
    of_some p = search
one_there (Some p) later h = inl (of_some p)
  where
    of_some : (p : Pending) → IsSome (Some p)
    of_some p = search

pub some_of : {A : Type 0} (o : Option A) (x : A) → o ≡ Some x → IsSome o
some_of None x e = absurd (cc)
some_of (Some y) x e = search

none_or_some : (o : Option Pending) → (o ≡ None) ⊎ IsSome o
none_or_some None = inl refl
none_or_some (Some p) = inr (some_of (Some p) p refl)

-- ---- the first of the map, where it is before all of the list
module _ (near : List (Turn × Pending)) (far far' : Turn → Option Pending) (t : Turn) (cs : Option (List Change)) (is : IsFarFirst far far' t cs) (ahead : (u : Turn) → IsSome (look u near) → IsBefore t u) where
  not_near : look t near ≡ None
  not_near =
      elim (none_or_some (look t near)) [
        | inl e ↦ e
        | inr s ↦ absurd (not_both_ways t t (ahead t s) (no_later t))
      ]

  pub far_first : (at near far t ≡ Some cs) × ((l i : ℕ) → IsSome (at near far (turn l i)) → NotAfter t (turn l i))
  far_first = (
    ap (λ (o : Option Pending). option_map changes_of (or_later o (far t))) not_near ∙ is.0,
    λ l i s. elim (one_there (look (turn l i) near) (far (turn l i)) s) [
      | inl k ↦ before_not_after t (turn l i) (ahead (turn l i) k)
      | inr k ↦ is.1 (turn l i) k
    ],
  )

  pub far_gone : (at near far' t ≡ None) × ((l i : ℕ) → (l ≡ t.layer → i ≢ t.id) → at near far' (turn l i) ≡ at near far (turn l i))
  far_gone = (
    ap (λ (o : Option Pending). option_map changes_of (or_later o (far' t))) not_near ∙ ap (λ (o : Option Pending). option_map changes_of o) is.2,
    λ l i ne. ap (λ (o : Option Pending). option_map changes_of (or_later (look (turn l i) near) o)) (is.3 (turn l i) (other_turn t (turn l i) ne)),
  )

-- the list is empty, or one of the map is before its first
pub none_ahead : (near : List (Turn × Pending)) (t : Turn) → near ≡ [] → (u : Turn) → IsSome (look u near) → IsBefore t u
none_ahead near t empty u s = absurd (nothing (subst (λ (xs : List (Turn × Pending)). IsSome (look u xs)) empty s))
  where
    nothing : IsSome {T = Pending} None → ⊥
    nothing h = cc

pub one_ahead : (near : List (Turn × Pending)) (far : Turn → Option Pending) (first t : Turn) → IsLeast first near → ((x : Turn) × IsSome (far x) × IsBefore x first) → ((u : Turn) → IsSome (far u) → NotAfter t u) → (u : Turn) → IsSome (look u near) → IsBefore t u
one_ahead near far first t least early low u s = before_and_after t first u (before_or_later t early.0 first (low early.0 early.1) early.2) (least u s)

-- what the map had first is the first of all, and is gone then
module _ (w w' : Waiting) (same : w'.near ≡ w.near) where
  as_seen : (u : Turn) → option_map changes_of (or_later (look u (take w'.near.live w'.near.entries.items)) (get turn_cmp w'.far u)) ≡ option_map changes_of (or_later (look u (take w.near.live w.near.entries.items)) (get turn_cmp w'.far u))
  as_seen u = ap (λ (s : ShortList). option_map changes_of (or_later (look u (take s.live s.entries.items)) (get turn_cmp w'.far u))) same

  pub popped : (t : Turn) → IsFarFirst (λ u. get turn_cmp w.far u) (λ u. get turn_cmp w'.far u) t (taken_of w') → ((u : Turn) → IsSome (look u (take w.near.live w.near.entries.items)) → IsBefore t u) → IsTaken t w w'
  popped t is ahead =
      let first = far_first (take w.near.live w.near.entries.items) (λ u. get turn_cmp w.far u) (λ u. get turn_cmp w'.far u) t (taken_of w') is ahead in
      let gone = far_gone (take w.near.live w.near.entries.items) (λ u. get turn_cmp w.far u) (λ u. get turn_cmp w'.far u) t (taken_of w') is ahead in
      record {
        taken = first.0;
        least = first.1;
        here = as_seen t ∙ gone.0;
        elsewhere = λ l i ne. as_seen (turn l i) ∙ gone.1 l i ne;
      }

  pub popped_alone : (r : Option Turn) → take w.near.live w.near.entries.items ≡ [] → MatchOption r ((u : Turn) → get turn_cmp w.far u ≡ None) (λ t. IsFarFirst (λ u. get turn_cmp w.far u) (λ u. get turn_cmp w'.far u) t (taken_of w')) → MatchOption r (NothingWaits w) (λ t. IsTaken t w w')
  popped_alone None empty h = λ l i.
      ap (λ (xs : List (Turn × Pending)). option_map changes_of (or_later (look (turn l i) xs) (get turn_cmp w.far (turn l i)))) empty ∙ ap (λ (o : Option Pending). option_map changes_of o) (h (turn l i))
  popped_alone (Some t) empty h = popped t h (none_ahead (take w.near.live w.near.entries.items) t empty)

-- the first of a map, as it is told
pub far_first_is : (far far' : Turn → Option Pending) (t : Turn) (p : Pending) (cs : Option (List Change)) → far t ≡ Some p → changes_of p ≡ cs → ((q : Turn) → IsSome (far q) → is_gt (turn_cmp t q) ≡ false) → far' t ≡ None → ((q : Turn) → is_at (turn_cmp t) q ≡ false → far' q ≡ far q) → IsFarFirst far far' t cs
far_first_is far far' t p cs value is low none others = (
  ap (λ (o : Option Pending). option_map changes_of o) value ∙ ap (λ (o : Option (List Change)). Some o) is,
  λ u s. not_after t u (low u s),
  none,
  others,
)

-- ---- one of the list, which the map lacks, too
pub near_gone : (near near' : List (Turn × Pending)) (far far' : Turn → Option Pending) (t u : Turn) → u ≡ t → Puts t None near near' → far' u ≡ None → ((q : Turn) → is_at (turn_cmp u) q ≡ false → far' q ≡ far q) → (at near' far' t ≡ None) × ((l i : ℕ) → (l ≡ t.layer → i ≢ t.id) → at near' far' (turn l i) ≡ at near far (turn l i))
near_gone near near' far far' t u same puts none others = (
  ap (λ (o : Option Pending). option_map changes_of (or_later o (far' t))) puts.0 ∙ ap (λ (o : Option Pending). option_map changes_of o) (ap (λ (x : Turn). far' x) (sym same) ∙ none),
  λ l i ne.
      ap (λ (o : Option Pending). option_map changes_of (or_later o (far' (turn l i)))) (puts.1 (turn l i) (other_turn (turn l i) t (λ e f. ne (sym e) (sym f))))
      ∙ ap (λ (o : Option Pending). option_map changes_of (or_later (look (turn l i) near) o)) (others (turn l i) (ap (λ (x : Turn). is_at (turn_cmp x) (turn l i)) same ∙ other_turn t (turn l i) ne)),
)

-- ---- the first of a map, and a turn
pub tells_first : (far : Turn → Option Pending) (b : Bool) (f t : Turn) (p : Pending) → far f ≡ Some p → ((q : Turn) → IsSome (far q) → is_gt (turn_cmp f q) ≡ false) → MatchBool b (IsBefore f t) (NotAfter t f) → MatchBool b ((x : Turn) × IsSome (far x) × IsBefore x t) ((x : Turn) → IsSome (far x) → NotAfter t x)
tells_first far true f t p value low h = (f, some_of (far f) p value, h)
tells_first far false f t p value low h = λ x s. later t f x h (not_after f x (low x s))

pub when_some : {A : Type 0} (r : Option A) (N : Type 0) (P Q : A → Type 0) → ((x : A) → P x → Q x) → MatchOption r N P → IfSome r Q
when_some None N P Q f h = tt
when_some (Some x) N P Q f h = f x h
