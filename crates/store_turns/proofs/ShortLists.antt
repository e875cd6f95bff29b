-- What waits in a list, each turn once.
use Rattle.std.proofs.Common.{◌≡◌, ℕ, zero, suc, ◌+◌, ◌-◌, ◌<◌, ◌≤◌, Bool, true, false, not, ◌||◌, ◌&&◌, cond, List, [], ◌∷◌, ◌++◌, length, take, get_or, slice_set, swap, swap_remove, Option, Some, None, IsSome, refl, sym, ap, ◌∙◌, subst, inl, inr, arith, add-one, ◌⊎◌, Result, Ok, Err, OnOk, MatchBool}
use Rattle.std.specs.BTreeMap.{is_at}
use Rattle.std.specs.Option.{option_map}
use Rattle.std.proofs.lemmas.Bool.{cases_Bool, cond-true, cond-false}
use Rattle.std.proofs.lemmas.List.{get_or_default, get_or-set_same, length-set, length-take, take-set, take_more, take_more_set, take_all}
use Rattle.std.proofs.lemmas.List.Edits.{swap_is}
use Rattle.cbl_base.specs.declared.input.Change.{Change}
use Rattle.store_turns.specs.declared.waiting.Turn.{Turn}
use Rattle.store_turns.specs.declared.waiting.Pending.{Pending}
use Rattle.store_turns.specs.declared.waiting.Pending.TheVariants.{Below}
use Rattle.store_turns.specs.Entries.{turn_cmp, changes_of, look, stands_in, are_distinct, turn_at, pending_at, NotAfter, IsBefore, IsLeast, Puts, SameBut}
use Rattle.store_turns.proofs.TurnOrder.{same_turn, turn_is, apart, no_later, later, before_not_after}

-- ---- the head of a list
look_head : (t : Turn) (e : Turn × Pending) (es : List (Turn × Pending)) → is_at (turn_cmp t) e.0 ≡ true → look t (e ∷ es) ≡ Some e.1
look_head t e es h = cond-true (is_at (turn_cmp t) e.0) (Some e.1) (look t es) h

look_tail : (t : Turn) (e : Turn × Pending) (es : List (Turn × Pending)) → is_at (turn_cmp t) e.0 ≡ false → look t (e ∷ es) ≡ look t es
look_tail t e es h = cond-false (is_at (turn_cmp t) e.0) (Some e.1) (look t es) h

not_head : (t : Turn) (e : Turn × Pending) (es : List (Turn × Pending)) → look t (e ∷ es) ≡ None → (is_at (turn_cmp t) e.0 ≡ false) × (look t es ≡ None)
not_head t e es h =
    elim (cases_Bool (is_at (turn_cmp t) e.0)) [
      | inl b ↦ let apart : ◌≡◌ {A = Option Pending} None (Some e.1) = sym h ∙ look_head t e es b in absurd (cc)
      | inr b ↦ (b, sym (look_tail t e es b) ∙ h)
    ]

or_false : (a b : Bool) → (a || b) ≡ false → (a ≡ false) × (b ≡ false)
or_false true b h = absurd (cc)
or_false false b h = (refl, h)

neither : (a b : Bool) → a ≡ false → b ≡ false → (a || b) ≡ false
neither true b h k = absurd (cc)
neither false b h k = k

and_true : (a b : Bool) → (not a && b) ≡ true → (a ≡ false) × (b ≡ true)
and_true true b h = absurd (cc)
and_true false b h = (refl, h)

both : (a b : Bool) → a ≡ false → b ≡ true → (not a && b) ≡ true
both true b h k = absurd (cc)
both false b h k = k

distinct_head : (e : Turn × Pending) (es : List (Turn × Pending)) → are_distinct (e ∷ es) ≡ true → (stands_in e.0 es ≡ false) × (are_distinct es ≡ true)
distinct_head e es h = and_true (stands_in e.0 es) (are_distinct es) h

-- ---- what stands in a list is found there
none_found : (t : Turn) (es : List (Turn × Pending)) → stands_in t es ≡ false → look t es ≡ None
none_found t [] h = refl
none_found t (e ∷ es) h =
    let far = or_false (is_at (turn_cmp t) e.0) (stands_in t es) h in
    look_tail t e es far.0 ∙ none_found t es far.1

none_stands : (t : Turn) (es : List (Turn × Pending)) → look t es ≡ None → stands_in t es ≡ false
none_stands t [] h = refl
none_stands t (e ∷ es) h =
    let far = not_head t e es h in
    neither (is_at (turn_cmp t) e.0) (stands_in t es) far.0 (none_stands t es far.1)

stands_at : (es : List (Turn × Pending)) (p : ℕ) (d : Turn × Pending) → p < length es → (t : Turn) → stands_in t es ≡ false → is_at (turn_cmp t) (get_or es p d).0 ≡ false
stands_at [] p d lt t h = absurd (omega arith)
stands_at (e ∷ es) zero d lt t h = (or_false (is_at (turn_cmp t) e.0) (stands_in t es) h).0
stands_at (e ∷ es) (suc p) d lt t h = stands_at es p d (omega arith) t (or_false (is_at (turn_cmp t) e.0) (stands_in t es) h).1

pub found_at : (es : List (Turn × Pending)) (p : ℕ) (d : Turn × Pending) → are_distinct es ≡ true → p < length es → look (get_or es p d).0 es ≡ Some (get_or es p d).1
found_at [] p d h lt = absurd (omega arith)
found_at (e ∷ es) zero d h lt = look_head e.0 e es (same_turn e.0)
found_at (e ∷ es) (suc p) d h lt =
    let own = distinct_head e es h in
    look_tail (get_or es p d).0 e es (apart e.0 (get_or es p d).0 (stands_at es p d (omega arith) e.0 own.0)) ∙ found_at es p d own.1 (omega arith)

-- ---- a walk over a list
passed_suc : (t : Turn) (es : List (Turn × Pending)) (p : ℕ) (d : Turn × Pending) → look t (take p es) ≡ None → p < length es → is_at (turn_cmp t) (get_or es p d).0 ≡ false → look t (take (suc p) es) ≡ None
passed_suc t [] p d none lt at = absurd (omega arith)
passed_suc t (e ∷ es) zero d none lt at = look_tail t e [] at
passed_suc t (e ∷ es) (suc p) d none lt at =
    let far = not_head t e (take p es) none in
    look_tail t e (take (suc p) es) far.0 ∙ passed_suc t es p d far.1 (omega arith) at

place_passed : (t : Turn) (es : List (Turn × Pending)) (p : ℕ) (r : Turn × Pending) → look t (take p es) ≡ None → p < length es → r ≡ get_or es p r → is_at (turn_cmp t) r.0 ≡ false → look t (take (p + 1) es) ≡ None
place_passed t es p r none lt read other = subst (λ (q : ℕ). look t (take q es) ≡ None) (sym (add-one p)) (passed_suc t es p r none lt (ap (λ (e : Turn × Pending). is_at (turn_cmp t) e.0) (sym read) ∙ other))

pub place_passed_in : (t : Turn) (es seen : List (Turn × Pending)) (p : ℕ) (r : Turn × Pending) → seen ≡ es → look t (take p es) ≡ None → p < length seen → r ≡ get_or seen p r → is_at (turn_cmp t) r.0 ≡ false → look t (take (p + 1) es) ≡ None
place_passed_in t es seen p r same none lt read other =
    place_passed t es p r none (subst (λ (xs : List (Turn × Pending)). p < length xs) same lt) (subst (λ (xs : List (Turn × Pending)). r ≡ get_or xs p r) same read) other

pub read_at : (es : List (Turn × Pending)) (p : ℕ) (r : Turn × Pending) → p < length es → r ≡ get_or es p r → r.0 ≡ turn_at es p
read_at es p r lt read = ap (λ (e : Turn × Pending). e.0) (read ∙ get_or_default es p r (record { layer = 0; id = 0 }, Below) lt)

pub place_is : (t : Turn) (es : List (Turn × Pending)) (p : ℕ) (r : Turn × Pending) → p < length es → r ≡ get_or es p r → is_at (turn_cmp t) r.0 ≡ true → turn_at es p ≡ t
place_is t es p r lt read same = sym (read_at es p r lt read) ∙ sym (turn_is t r.0 same)

-- ---- the least
nothing_there : IsSome {T = Pending} None → ⊥
nothing_there h = cc

some_more : (u : Turn) (e : Turn × Pending) (es : List (Turn × Pending)) → IsSome (look u (es ++ e ∷ [])) → IsSome (look u es) ⊎ (u ≡ e.0)
some_more u e [] h =
    elim (cases_Bool (is_at (turn_cmp u) e.0)) [
      | inl b ↦ inr (turn_is u e.0 b)
      | inr b ↦ absurd (nothing_there (subst (λ (o : Option Pending). IsSome o) (look_tail u e [] b) h))
    ]
some_more u e (x ∷ es) h =
    elim (cases_Bool (is_at (turn_cmp u) x.0)) [
      | inl b ↦ inl (subst (λ (o : Option Pending). IsSome o) (sym (look_head u x es b)) search)
      | inr b ↦ elim (some_more u e es (subst (λ (o : Option Pending). IsSome o) (look_tail u x (es ++ e ∷ []) b) h)) [
        | inl k ↦ inl (subst (λ (o : Option Pending). IsSome o) (sym (look_tail u x es b)) k)
        | inr k ↦ inr k
      ]
    ]

least_more : (t v : Turn) (es : List (Turn × Pending)) (p : ℕ) (r : Turn × Pending) → IsLeast t (take p es) → p < length es → r ≡ get_or es p r → NotAfter v t → NotAfter v r.0 → IsLeast v (take (p + 1) es)
least_more t v es p r least lt read low here = λ u h.
    elim (some_more u r (take p es) (subst (λ (xs : List (Turn × Pending)). IsSome (look u xs)) (take_more es p r lt ∙ ap (λ (e : Turn × Pending). take p es ++ e ∷ []) (sym read)) h)) [
      | inl k ↦ later v t u low (least u k)
      | inr k ↦ subst (λ (x : Turn). NotAfter v x) (sym k) here
    ]

-- the place of the least so far, and its turn
abbrev pub IsLeastAt : List (Turn × Pending) → ℕ → ℕ → Turn → Type 0
IsLeastAt es n p t = (p < length es) × (t ≡ turn_at es p) × IsLeast t (take n es)

pub least_stays : (t : Turn) (es : List (Turn × Pending)) (n p : ℕ) (r : Turn × Pending) → IsLeastAt es n p t → n < length es → r ≡ get_or es n r → NotAfter t r.0 → IsLeastAt es (n + 1) p t
least_stays t es n p r h lt read low = (h.0, h.1, least_more t t es n r h.2 lt read (no_later t) low)

pub least_moves : (t : Turn) (es : List (Turn × Pending)) (n p : ℕ) (r : Turn × Pending) → IsLeastAt es n p t → n < length es → r ≡ get_or es n r → IsBefore r.0 t → IsLeastAt es (n + 1) n r.0
least_moves t es n p r h lt read low = (lt, read_at es n r lt read, least_more t r.0 es n r h.2 lt read (before_not_after r.0 t low) (no_later r.0))

-- the entry is read of what was lent, and a test told which is before
pub least_kept : (es seen : List (Turn × Pending)) (t : Turn) (n p : ℕ) (r : Turn × Pending) (b : Bool) → seen ≡ es → IsLeastAt es n p t → n < length seen → r ≡ get_or seen n r → MatchBool b (IsBefore r.0 t) (NotAfter t r.0) → b ≡ false → IsLeastAt es (n + 1) p t
least_kept es seen t n p r b same h lt read tells is =
    least_stays t es n p r h (subst (λ (xs : List (Turn × Pending)). n < length xs) same lt) (subst (λ (xs : List (Turn × Pending)). r ≡ get_or xs n r) same read) (subst (λ (c : Bool). MatchBool c (IsBefore r.0 t) (NotAfter t r.0)) is tells)

pub least_found : (es seen : List (Turn × Pending)) (t : Turn) (n p : ℕ) (r : Turn × Pending) (b : Bool) → seen ≡ es → IsLeastAt es n p t → n < length seen → r ≡ get_or seen n r → MatchBool b (IsBefore r.0 t) (NotAfter t r.0) → b ≡ true → IsLeastAt es (n + 1) n r.0
least_found es seen t n p r b same h lt read tells is =
    least_moves t es n p r h (subst (λ (xs : List (Turn × Pending)). n < length xs) same lt) (subst (λ (xs : List (Turn × Pending)). r ≡ get_or xs n r) same read) (subst (λ (c : Bool). MatchBool c (IsBefore r.0 t) (NotAfter t r.0)) is tells)

pub least_of_all : (es seen : List (Turn × Pending)) (n p : ℕ) (t : Turn) → seen ≡ es → IsLeastAt es n p t → length seen ≤ n → (p < length es) × IsLeast (turn_at es p) es
least_of_all es seen n p t same h le =
    let all : take n es ≡ es = take_all n es (subst (λ (xs : List (Turn × Pending)). length xs ≤ n) same le) in
    (h.0, subst (λ (u : Turn). IsLeast u es) h.1 (subst (λ (xs : List (Turn × Pending)). IsLeast t xs) all h.2))

pub least_none : (es : List (Turn × Pending)) (r : Turn × Pending) → 0 < length es → r ≡ get_or es 0 r → IsLeastAt es 0 0 r.0
least_none es r lt read = (lt, read_at es 0 r lt read, λ u h. absurd (nothing_there h))

-- ---- one more
pushed_here : (t : Turn) (p : Pending) (es : List (Turn × Pending)) → look t es ≡ None → look t (es ++ (t, p) ∷ []) ≡ Some p
pushed_here t p [] none = look_head t (t, p) [] (same_turn t)
pushed_here t p (e ∷ es) none =
    let far = not_head t e es none in
    look_tail t e (es ++ (t, p) ∷ []) far.0 ∙ pushed_here t p es far.1

pushed_other : (u t : Turn) (p : Pending) → is_at (turn_cmp u) t ≡ false → (es : List (Turn × Pending)) → look u (es ++ (t, p) ∷ []) ≡ look u es
pushed_other u t p other [] = look_tail u (t, p) [] other
pushed_other u t p other (e ∷ es) = ap (λ (o : Option Pending). cond (is_at (turn_cmp u) e.0) (Some e.1) o) (pushed_other u t p other es)

pub pushed : (t : Turn) (p : Pending) (es es' : List (Turn × Pending)) → look t es ≡ None → es' ≡ es ++ (t, p) ∷ [] → Puts t (Some p) es es'
pushed t p es es' none e = (
  ap (λ (xs : List (Turn × Pending)). look t xs) e ∙ pushed_here t p es none,
  λ u other. ap (λ (xs : List (Turn × Pending)). look u xs) e ∙ pushed_other u t p other es,
)

stands_more : (u : Turn) (e : Turn × Pending) (es : List (Turn × Pending)) → is_at (turn_cmp u) e.0 ≡ false → stands_in u es ≡ false → stands_in u (es ++ e ∷ []) ≡ false
stands_more u e [] other none = neither (is_at (turn_cmp u) e.0) false other refl
stands_more u e (x ∷ es) other none =
    let far = or_false (is_at (turn_cmp u) x.0) (stands_in u es) none in
    neither (is_at (turn_cmp u) x.0) (stands_in u (es ++ e ∷ [])) far.0 (stands_more u e es other far.1)

distinct_more : (e : Turn × Pending) (es : List (Turn × Pending)) → stands_in e.0 es ≡ false → are_distinct es ≡ true → are_distinct (es ++ e ∷ []) ≡ true
distinct_more e [] none h = refl
distinct_more e (x ∷ es) none h =
    let far = or_false (is_at (turn_cmp e.0) x.0) (stands_in e.0 es) none in
    let own = distinct_head x es h in
    both (stands_in x.0 (es ++ e ∷ [])) (are_distinct (es ++ e ∷ [])) (stands_more x.0 e es (apart e.0 x.0 far.0) own.0) (distinct_more e es far.1 own.1)

pub distinct_pushed : (t : Turn) (p : Pending) (es es' : List (Turn × Pending)) (b : Bool) → look t es ≡ None → are_distinct es ≡ true → es' ≡ cond b (es ++ (t, p) ∷ []) es → are_distinct es' ≡ true
distinct_pushed t p es es' true none h e = ap (λ (xs : List (Turn × Pending)). are_distinct xs) e ∙ distinct_more (t, p) es (none_stands t es none) h
distinct_pushed t p es es' false none h e = ap (λ (xs : List (Turn × Pending)). are_distinct xs) e ∙ h

-- ---- a front of a list
stands_front : (u : Turn) (es fs : List (Turn × Pending)) → stands_in u (es ++ fs) ≡ false → stands_in u es ≡ false
stands_front u [] fs h = refl
stands_front u (e ∷ es) fs h =
    let far = or_false (is_at (turn_cmp u) e.0) (stands_in u (es ++ fs)) h in
    neither (is_at (turn_cmp u) e.0) (stands_in u es) far.0 (stands_front u es fs far.1)

distinct_front : (es fs : List (Turn × Pending)) → are_distinct (es ++ fs) ≡ true → are_distinct es ≡ true
distinct_front [] fs h = refl
distinct_front (e ∷ es) fs h =
    let own = distinct_head e (es ++ fs) h in
    both (stands_in e.0 es) (are_distinct es) (stands_front e.0 es fs own.0) (distinct_front es fs own.1)

-- ---- another thing at a place
stands_kept : (u : Turn) (es : List (Turn × Pending)) (p : ℕ) (d : Turn × Pending) (q : Pending) → stands_in u (slice_set es p ((get_or es p d).0, q)) ≡ stands_in u es
stands_kept u [] p d q = refl
stands_kept u (e ∷ es) zero d q = refl
stands_kept u (e ∷ es) (suc p) d q = ap (λ (b : Bool). is_at (turn_cmp u) e.0 || b) (stands_kept u es p d q)

distinct_kept : (es : List (Turn × Pending)) (p : ℕ) (d : Turn × Pending) (q : Pending) → are_distinct (slice_set es p ((get_or es p d).0, q)) ≡ are_distinct es
distinct_kept [] p d q = refl
distinct_kept (e ∷ es) zero d q = refl
distinct_kept (e ∷ es) (suc p) d q =
    ap (λ (b : Bool). not b && are_distinct (slice_set es p ((get_or es p d).0, q))) (stands_kept e.0 es p d q)
    ∙ ap (λ (b : Bool). not (stands_in e.0 es) && b) (distinct_kept es p d q)

set_here : (es : List (Turn × Pending)) (p : ℕ) (d : Turn × Pending) (q : Pending) → are_distinct es ≡ true → p < length es → look (get_or es p d).0 (slice_set es p ((get_or es p d).0, q)) ≡ Some q
set_here [] p d q h lt = absurd (omega arith)
set_here (e ∷ es) zero d q h lt = look_head e.0 (e.0, q) es (same_turn e.0)
set_here (e ∷ es) (suc p) d q h lt =
    let own = distinct_head e es h in
    look_tail (get_or es p d).0 e (slice_set es p ((get_or es p d).0, q)) (apart e.0 (get_or es p d).0 (stands_at es p d (omega arith) e.0 own.0)) ∙ set_here es p d q own.1 (omega arith)

set_other : (u : Turn) (es : List (Turn × Pending)) (p : ℕ) (d : Turn × Pending) (q : Pending) → is_at (turn_cmp u) (get_or es p d).0 ≡ false → look u (slice_set es p ((get_or es p d).0, q)) ≡ look u es
set_other u [] p d q other = refl
set_other u (e ∷ es) zero d q other = look_tail u (e.0, q) es other ∙ sym (look_tail u e es other)
set_other u (e ∷ es) (suc p) d q other = ap (λ (o : Option Pending). cond (is_at (turn_cmp u) e.0) (Some e.1) o) (set_other u es p d q other)

none_yet : Turn × Pending
none_yet = (record { layer = 0; id = 0 }, Below)

-- what was read at the place is there
pub distinct_written : (es : List (Turn × Pending)) (p : ℕ) (r : Turn × Pending) (q : Pending) → are_distinct es ≡ true → r ≡ get_or es p r → are_distinct (slice_set es p (r.0, q)) ≡ true
distinct_written es p r q h read =
    ap (λ (e : Turn × Pending). are_distinct (slice_set es p (e.0, q))) read ∙ distinct_kept es p r q ∙ h

pub written : (es : List (Turn × Pending)) (p : ℕ) (r : Turn × Pending) (q : Pending) → are_distinct es ≡ true → p < length es → r ≡ get_or es p r → Puts (turn_at es p) (Some q) es (slice_set es p (r.0, q))
unfolding none_yet
written es p r q h lt read =
    let same : r ≡ get_or es p none_yet = read ∙ get_or_default es p r none_yet lt in
    subst (λ (e : Turn × Pending). Puts (turn_at es p) (Some q) es (slice_set es p (e.0, q))) (sym same) (set_here es p none_yet q h lt, λ u other. set_other u es p none_yet q other)

pub pending_read : (es : List (Turn × Pending)) (p : ℕ) (r : Turn × Pending) → p < length es → r ≡ get_or es p r → r.1 ≡ pending_at es p
unfolding none_yet
pending_read es p r lt read = ap (λ (e : Turn × Pending). e.1) (read ∙ get_or_default es p r none_yet lt)

-- ---- the last in place of another
behind : (u : Turn) (e : Turn × Pending) (es : List (Turn × Pending)) → stands_in e.0 es ≡ false → look u (e ∷ es) ≡ look u (es ++ e ∷ [])
behind u e [] none = refl
behind u e (x ∷ es) none =
    let far = or_false (is_at (turn_cmp e.0) x.0) (stands_in e.0 es) none in
    elim (cases_Bool (is_at (turn_cmp u) x.0)) [
      | inl b ↦ (let off : is_at (turn_cmp u) e.0 ≡ false = ap (λ (y : Turn). is_at (turn_cmp y) e.0) (turn_is u x.0 b) ∙ apart e.0 x.0 far.0 in
          look_tail u e (x ∷ es) off ∙ look_head u x es b ∙ sym (look_head u x (es ++ e ∷ []) b))
      | inr b ↦ (ap (λ (o : Option Pending). cond (is_at (turn_cmp u) e.0) (Some e.1) o) (look_tail u x es b) ∙ behind u e es far.1 ∙ sym (look_tail u x (es ++ e ∷ []) b))
    ]

moved_other : (u : Turn) (e d : Turn × Pending) (es : List (Turn × Pending)) (p : ℕ) → p ≤ length es → stands_in e.0 es ≡ false → is_at (turn_cmp u) (get_or (es ++ e ∷ []) p d).0 ≡ false → look u (slice_set es p e) ≡ look u (es ++ e ∷ [])
moved_other u e d [] zero le none other = sym (look_tail u e [] other)
moved_other u e d [] (suc p) le none other = absurd (omega arith)
moved_other u e d (x ∷ es) zero le none other =
    behind u e es (or_false (is_at (turn_cmp e.0) x.0) (stands_in e.0 es) none).1 ∙ sym (look_tail u x (es ++ e ∷ []) other)
moved_other u e d (x ∷ es) (suc p) le none other =
    ap (λ (o : Option Pending). cond (is_at (turn_cmp u) x.0) (Some x.1) o)
    (moved_other u e d es p (omega arith) (or_false (is_at (turn_cmp e.0) x.0) (stands_in e.0 es) none).1 other)

stands_moved : (u : Turn) (e : Turn × Pending) (es : List (Turn × Pending)) (p : ℕ) → is_at (turn_cmp u) e.0 ≡ false → stands_in u es ≡ false → stands_in u (slice_set es p e) ≡ false
stands_moved u e [] p other none = refl
stands_moved u e (x ∷ es) zero other none = neither (is_at (turn_cmp u) e.0) (stands_in u es) other (or_false (is_at (turn_cmp u) x.0) (stands_in u es) none).1
stands_moved u e (x ∷ es) (suc p) other none =
    let far = or_false (is_at (turn_cmp u) x.0) (stands_in u es) none in
    neither (is_at (turn_cmp u) x.0) (stands_in u (slice_set es p e)) far.0 (stands_moved u e es p other far.1)

distinct_moved : (e : Turn × Pending) (es : List (Turn × Pending)) (p : ℕ) → stands_in e.0 es ≡ false → are_distinct es ≡ true → are_distinct (slice_set es p e) ≡ true
distinct_moved e [] p none h = refl
distinct_moved e (x ∷ es) zero none h =
    both (stands_in e.0 es) (are_distinct es) (or_false (is_at (turn_cmp e.0) x.0) (stands_in e.0 es) none).1 (distinct_head x es h).1
distinct_moved e (x ∷ es) (suc p) none h =
    let far = or_false (is_at (turn_cmp e.0) x.0) (stands_in e.0 es) none in
    let own = distinct_head x es h in
    both (stands_in x.0 (slice_set es p e)) (are_distinct (slice_set es p e)) (stands_moved x.0 e es p (apart e.0 x.0 far.0) own.0) (distinct_moved e es p far.1 own.1)

moved_here : (e d : Turn × Pending) (es : List (Turn × Pending)) (p : ℕ) → p ≤ length es → stands_in e.0 es ≡ false → are_distinct es ≡ true → stands_in (get_or (es ++ e ∷ []) p d).0 (slice_set es p e) ≡ false
moved_here e d [] zero le none h = refl
moved_here e d [] (suc p) le none h = absurd (omega arith)
moved_here e d (x ∷ es) zero le none h =
    let far = or_false (is_at (turn_cmp e.0) x.0) (stands_in e.0 es) none in
    neither (is_at (turn_cmp x.0) e.0) (stands_in x.0 es) (apart e.0 x.0 far.0) (distinct_head x es h).0
moved_here e d (x ∷ es) (suc p) le none h =
    let far = or_false (is_at (turn_cmp e.0) x.0) (stands_in e.0 es) none in
    let own = distinct_head x es h in
    let t = (get_or (es ++ e ∷ []) p d).0 in
    neither (is_at (turn_cmp t) x.0) (stands_in t (slice_set es p e))
    (apart x.0 t (stands_at (es ++ e ∷ []) p d (long es e p (omega arith)) x.0 (stands_more x.0 e es (apart e.0 x.0 far.0) own.0)))
    (moved_here e d es p (omega arith) far.1 own.1)
  where
    long : (xs : List (Turn × Pending)) (e : Turn × Pending) (p : ℕ) → p ≤ length xs → p < length (xs ++ e ∷ [])
    long [] e p le = omega arith
    long (x ∷ xs) e zero le = omega arith
    long (x ∷ xs) e (suc p) le = let k = long xs e p (omega arith) in omega (arith, k)

-- a list that isn't empty has a last entry
abbrev HasLast : List (Turn × Pending) → Type 0
HasLast es = (fs : List (Turn × Pending)) × (e : Turn × Pending) × (es ≡ fs ++ e ∷ [])

has_last : (es : List (Turn × Pending)) → 0 < length es → HasLast es
has_last [] lt = absurd (omega arith)
has_last (x ∷ []) lt = ([], x, refl)
has_last (x ∷ y ∷ es) lt =
    let rest = has_last (y ∷ es) (omega arith) in
    (x ∷ rest.0, rest.1, ap (λ (xs : List (Turn × Pending)). x ∷ xs) rest.2)

length_last : (fs : List (Turn × Pending)) (e : Turn × Pending) → length (fs ++ e ∷ []) ≡ suc (length fs)
length_last [] e = refl
length_last (x ∷ fs) e = ap suc (length_last fs e)

last_is : (fs : List (Turn × Pending)) (e d : Turn × Pending) → get_or (fs ++ e ∷ []) (length fs) d ≡ e
last_is [] e d = refl
last_is (x ∷ fs) e d = last_is fs e d

cut_last : (fs : List (Turn × Pending)) (e x : Turn × Pending) (p : ℕ) → take (length fs) (slice_set (fs ++ x ∷ []) p e) ≡ slice_set fs p e
cut_last [] e x zero = refl
cut_last [] e x (suc p) = refl
cut_last (y ∷ fs) e x zero = ap (λ (xs : List (Turn × Pending)). e ∷ xs) (front fs x)
  where
    front : (fs : List (Turn × Pending)) (x : Turn × Pending) → take (length fs) (fs ++ x ∷ []) ≡ fs
    front [] x = refl
    front (y ∷ fs) x = ap (λ (xs : List (Turn × Pending)). y ∷ xs) (front fs x)
cut_last (y ∷ fs) e x (suc p) = ap (λ (xs : List (Turn × Pending)). y ∷ xs) (cut_last fs e x p)

swapped_is : (fs : List (Turn × Pending)) (e d : Turn × Pending) (p : ℕ) → swap_remove (fs ++ e ∷ []) p d ≡ slice_set fs p e
swapped_is fs e d p =
    let n : length (fs ++ e ∷ []) - 1 ≡ length fs = let k = length_last fs e in omega (arith, k) in
    ap (λ (m : ℕ). take m (slice_set (fs ++ e ∷ []) p (get_or (fs ++ e ∷ []) m d))) n
    ∙ ap (λ (x : Turn × Pending). take (length fs) (slice_set (fs ++ e ∷ []) p x)) (last_is fs e d)
    ∙ cut_last fs e e p

last_there : (u : Turn) (fs : List (Turn × Pending)) (x : Turn × Pending) → stands_in u (fs ++ x ∷ []) ≡ false → is_at (turn_cmp u) x.0 ≡ false
last_there u [] x h = (or_false (is_at (turn_cmp u) x.0) false h).0
last_there u (y ∷ fs) x h = last_there u fs x (or_false (is_at (turn_cmp u) y.0) (stands_in u (fs ++ x ∷ [])) h).1

last_apart : (fs : List (Turn × Pending)) (x : Turn × Pending) → are_distinct (fs ++ x ∷ []) ≡ true → stands_in x.0 fs ≡ false
last_apart [] x h = refl
last_apart (y ∷ fs) x h =
    let own = distinct_head y (fs ++ x ∷ []) h in
    neither (is_at (turn_cmp x.0) y.0) (stands_in x.0 fs) (apart y.0 x.0 (last_there y.0 fs x own.0)) (last_apart fs x own.1)

-- the last goes to the place of what was read and taken out
pub distinct_swapped : (es es' : List (Turn × Pending)) (p : ℕ) (d : Turn × Pending) → are_distinct es ≡ true → p < length es → es' ≡ swap_remove es p d → are_distinct es' ≡ true
distinct_swapped es es' p d h lt e =
    let last = has_last es (omega (arith, lt)) in
    of_last last.0 last.1 last.2
  where
    of_last : (fs : List (Turn × Pending)) (x : Turn × Pending) → es ≡ fs ++ x ∷ [] → are_distinct es' ≡ true
    of_last fs x is =
        let own : are_distinct (fs ++ x ∷ []) ≡ true = ap (λ (xs : List (Turn × Pending)). are_distinct xs) (sym is) ∙ h in
        ap (λ (xs : List (Turn × Pending)). are_distinct xs) (e ∙ ap (λ (xs : List (Turn × Pending)). swap_remove xs p d) is ∙ swapped_is fs x d p)
        ∙ distinct_moved x fs p (last_apart fs x own) (distinct_front fs (x ∷ []) own)

pub swapped : (es es' : List (Turn × Pending)) (p : ℕ) (r : Turn × Pending) → are_distinct es ≡ true → p < length es → r ≡ get_or es p r → es' ≡ swap_remove es p r → Puts r.0 None es es'
swapped es es' p r h lt read e =
    let last = has_last es (omega (arith, lt)) in
    of_last last.0 last.1 last.2
  where
    of_last : (fs : List (Turn × Pending)) (x : Turn × Pending) → es ≡ fs ++ x ∷ [] → Puts r.0 None es es'
    of_last fs x is =
        let own : are_distinct (fs ++ x ∷ []) ≡ true = ap (λ (xs : List (Turn × Pending)). are_distinct xs) (sym is) ∙ h in
        let after : es' ≡ slice_set fs p x = e ∙ ap (λ (xs : List (Turn × Pending)). swap_remove xs p r) is ∙ swapped_is fs x r p in
        let at : r ≡ get_or (fs ++ x ∷ []) p r = read ∙ ap (λ (xs : List (Turn × Pending)). get_or xs p r) is in
        let le : p ≤ length fs = (let k = length_last fs x in let j = ap (λ (xs : List (Turn × Pending)). length xs) is in omega (arith, k, j, lt)) in
        let alone = last_apart fs x own in (
          ap (λ (xs : List (Turn × Pending)). look r.0 xs) after ∙ none_found r.0 (slice_set fs p x) (ap (λ (y : Turn × Pending). stands_in y.0 (slice_set fs p x)) at ∙ moved_here x r fs p le alone (distinct_front fs (x ∷ []) own)),
          λ u other. ap (λ (xs : List (Turn × Pending)). look u xs) after ∙ moved_other u x r fs p le alone (ap (λ (y : Turn × Pending). is_at (turn_cmp u) y.0) (sym at) ∙ other) ∙ ap (λ (xs : List (Turn × Pending)). look u xs) (sym is),
        )

pub taken_found : (es : List (Turn × Pending)) (p : ℕ) (r : Turn × Pending) → are_distinct es ≡ true → p < length es → r ≡ get_or es p r → look r.0 es ≡ Some r.1
taken_found es p r h lt read = ap (λ (e : Turn × Pending). look e.0 es) read ∙ found_at es p r h lt ∙ ap (λ (e : Turn × Pending). Some e.1) (sym read)

-- ---- the first so many of a list
pub in_all : (n : ℕ) (es : List (Turn × Pending)) (p : ℕ) → p < length (take n es) → p < length es
in_all n es p lt = let k = length-take n es in omega (arith, k, lt)

pub in_front : (n : ℕ) (es : List (Turn × Pending)) (p : ℕ) → p < length (take n es) → p < n
in_front n es p lt = let k = length-take n es in omega (arith, k, lt)

set_in : (n p : ℕ) (es : List (Turn × Pending)) (x : Turn × Pending) → take n (slice_set es p x) ≡ slice_set (take n es) p x
set_in zero p es x = refl
set_in (suc n) p [] x = refl
set_in (suc n) zero (e ∷ es) x = refl
set_in (suc n) (suc p) (e ∷ es) x = ap (λ (xs : List (Turn × Pending)). e ∷ xs) (set_in n p es x)

get_in : (n p : ℕ) (es : List (Turn × Pending)) (d : Turn × Pending) → p < length (take n es) → get_or es p d ≡ get_or (take n es) p d
get_in zero p es d lt = absurd (omega arith)
get_in (suc n) p [] d lt = absurd (omega arith)
get_in (suc n) zero (e ∷ es) d lt = refl
get_in (suc n) (suc p) (e ∷ es) d lt = get_in n p es d (omega arith)

pub read_in : (n : ℕ) (es : List (Turn × Pending)) (p : ℕ) (r : Turn × Pending) → p < length (take n es) → r ≡ get_or es p r → r ≡ get_or (take n es) p r
read_in n es p r lt read = read ∙ get_in n p es r lt

front_front : (n : ℕ) (es fs : List (Turn × Pending)) → n ≤ length es → take n (es ++ fs) ≡ take n es
front_front zero es fs le = refl
front_front (suc n) [] fs le = absurd (omega arith)
front_front (suc n) (e ∷ es) fs le = ap (λ (xs : List (Turn × Pending)). e ∷ xs) (front_front n es fs (omega arith))

-- ---- an entry behind the first so many
pub room_same : (n : ℕ) (es es' fs : List (Turn × Pending)) (b : Bool) → n ≤ length es → es' ≡ cond b (es ++ fs) es → take n es' ≡ take n es
room_same n es es' fs true le e = ap (λ (xs : List (Turn × Pending)). take n xs) e ∙ front_front n es fs le
room_same n es es' fs false le e = ap (λ (xs : List (Turn × Pending)). take n xs) e

pub distinct_behind : (n : ℕ) (es : List (Turn × Pending)) (x : Turn × Pending) → are_distinct (take n es) ≡ true → are_distinct (take n (slice_set es n x)) ≡ true
distinct_behind n es x h = ap (λ (xs : List (Turn × Pending)). are_distinct xs) (take-set es n x) ∙ h

one_more : (n : ℕ) (es : List (Turn × Pending)) (t : Turn) (p : Pending) → n < length es → look t (take n es) ≡ None → Puts t (Some p) (take n es) (take (n + 1) (slice_set es n (t, p)))
one_more n es t p lt none = pushed t p (take n es) (take (n + 1) (slice_set es n (t, p))) none (take_more_set es n (t, p) lt)

pub one_more_here : (n : ℕ) (old es : List (Turn × Pending)) (t : Turn) (p : Pending) (cs : Option (List Change)) → n < length es → take n es ≡ old → look t old ≡ None → changes_of p ≡ cs → option_map changes_of (look t (take (n + 1) (slice_set es n (t, p)))) ≡ Some cs
one_more_here n old es t p cs lt same none is =
    ap (λ (o : Option Pending). option_map changes_of o) (one_more n es t p lt (ap (λ (xs : List (Turn × Pending)). look t xs) same ∙ none)).0 ∙ ap (λ (o : Option (List Change)). Some o) is

pub one_more_other : (n : ℕ) (old es : List (Turn × Pending)) (t : Turn) (p : Pending) → n < length es → take n es ≡ old → look t old ≡ None → SameBut t old (take (n + 1) (slice_set es n (t, p)))
one_more_other n old es t p lt same none =
    subst (λ (xs : List (Turn × Pending)). SameBut t xs (take (n + 1) (slice_set es n (t, p)))) same (one_more n es t p lt (ap (λ (xs : List (Turn × Pending)). look t xs) same ∙ none)).1

pub distinct_one_more : (n : ℕ) (old es : List (Turn × Pending)) (t : Turn) (p : Pending) → n < length es → take n es ≡ old → look t old ≡ None → are_distinct old ≡ true → are_distinct (take (n + 1) (slice_set es n (t, p))) ≡ true
distinct_one_more n old es t p lt same none h =
    distinct_pushed t p (take n es) (take (n + 1) (slice_set es n (t, p))) true (ap (λ (xs : List (Turn × Pending)). look t xs) same ∙ none) (ap (λ (xs : List (Turn × Pending)). are_distinct xs) same ∙ h) (take_more_set es n (t, p) lt)

-- ---- another thing at a place of the first so many
module _ (n : ℕ) (es : List (Turn × Pending)) (p : ℕ) (r : Turn × Pending) (q : Pending) (lt : p < length (take n es)) (read : r ≡ get_or es p r) (h : are_distinct (take n es) ≡ true) where
  pub distinct_written_in : are_distinct (take n (slice_set es p (r.0, q))) ≡ true
  distinct_written_in = ap (λ (xs : List (Turn × Pending)). are_distinct xs) (set_in n p es (r.0, q)) ∙ distinct_written (take n es) p r q h (read_in n es p r lt read)

  pub written_in : Puts (turn_at (take n es) p) (Some q) (take n es) (take n (slice_set es p (r.0, q)))
  written_in = subst (λ (xs : List (Turn × Pending)). Puts (turn_at (take n es) p) (Some q) (take n es) xs) (sym (set_in n p es (r.0, q))) (written (take n es) p r q h lt (read_in n es p r lt read))

-- ---- the last of the first so many in place of another, which goes behind them
module _ (m n : ℕ) (es es' : List (Turn × Pending)) (p : ℕ) (r : Turn × Pending) (le : m ≤ length es) (one : m ≡ n + 1) (lt : p < length (take m es)) (read : r ≡ get_or es p r) (e : es' ≡ swap es p n) where
  behind_is : es' ≡ slice_set (slice_set es p (get_or es n r)) n (get_or es p r)
  behind_is = e ∙ sym (swap_is es p n r (in_all m es p lt) (omega (arith, le, one)))

  left_is : take n es' ≡ swap_remove (take m es) p r
  left_is =
      ap (λ (xs : List (Turn × Pending)). take n xs) behind_is
      ∙ take-set (slice_set es p (get_or es n r)) n (get_or es p r)
      ∙ set_in n p es (get_or es n r)
      ∙ sym (swapped_is (take n es) (get_or es n r) r p)
      ∙ ap (λ (xs : List (Turn × Pending)). swap_remove xs p r) (sym (take_more es n r (omega (arith, le, one))))
      ∙ ap (λ (k : ℕ). swap_remove (take k es) p r) (sym one)

  pub distinct_left : are_distinct (take m es) ≡ true → are_distinct (take n es') ≡ true
  distinct_left h = distinct_swapped (take m es) (take n es') p r h lt left_is

  pub left : are_distinct (take m es) ≡ true → Puts r.0 None (take m es) (take n es')
  left h = swapped (take m es) (take n es') p r h lt (read_in m es p r lt read) left_is

  goes_behind : get_or es' n none_yet ≡ r
  goes_behind =
      ap (λ (xs : List (Turn × Pending)). get_or xs n none_yet) behind_is
      ∙ get_or-set_same (slice_set es p (get_or es n r)) n (get_or es p r) none_yet (let k = length-set es p (get_or es n r) in omega (arith, k, le, one))
      ∙ sym read

  pub left_found : are_distinct (take m es) ≡ true → look r.0 (take m es) ≡ Some (pending_at es' n)
  unfolding none_yet
  left_found h = taken_found (take m es) p r h lt (read_in m es p r lt read) ∙ ap (λ (x : Turn × Pending). Some x.1) (sym goes_behind)

pub when_ok : {T E : Type 0} (r : Result T E) (P Q : Type 0) → (P → Q) → OnOk r P → OnOk r Q
when_ok (Ok x) P Q f h = f h
when_ok (Err e) P Q f h = tt
