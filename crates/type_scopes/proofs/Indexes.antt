-- An index of names, and a name more or less.
use Rattle.std.specs.Prelude.{◌≡◌, refl, ℕ, zero, suc, Bool, true, false, ◌<◌, ◌≤◌, ◌+◌, ◌-◌, List, [], ◌∷◌, ◌++◌, length, map, take, Option, Some, None, is_some, unwrap_or, if◌then◌else◌}
use Rattle.std.proofs.Common.{sym, ap, subst, ◌∙◌, arith, ⊎_elim}
use Rattle.std.specs.Str.{bytes_eq}
use Rattle.std.proofs.lemmas.Bool.{cases_Bool}
use Rattle.std.proofs.lemmas.List.{append_assoc, append-nil}
use Rattle.std.proofs.lemmas.Slice.Eq.{bytes_eq-Decides}
use Rattle.type_scopes.specs.declared.latest.Latest.{Latest}
use Rattle.type_scopes.specs.declared.names.Binding.{Binding}
use Rattle.type_scopes.specs.declared.names.Entry.{Entry}
use Rattle.type_scopes.specs.Index.{IsIndexed, AreHidden, bindings_of}
use Rattle.type_scopes.specs.Latest.{latest_at, is_held, kept_at}
use Rattle.type_scopes.specs.Names.{is_named, newest, later_or}

plus_one : (n : ℕ) → n + 1 ≡ suc n
plus_one n = omega arith

last_here : (h : Bool) (n k : ℕ) (x : Bool) → later_or (if h then n + 1 else k) x ≡ (if h then suc n + 1 else later_or k x)
last_here true n k x = rw (plus_one n) (sym (plus_one (suc n)))
last_here false n k x = refl

-- one name more: it is the last of its spelling
pub newest_push : (name : List ℕ) (bs : List Binding) (b : Binding) → newest name (bs ++ b ∷ []) ≡ (if is_named name b then length bs + 1 else newest name bs)
newest_push name [] b = refl
newest_push name (x ∷ bs) b = rw (newest_push name bs b) (last_here (is_named name b) (length bs) (newest name bs) (is_named name x))

bindings_push : (es : List Entry) (e : Entry) → bindings_of (es ++ e ∷ []) ≡ bindings_of es ++ e.binding ∷ []
bindings_push [] e = refl
bindings_push (x ∷ es) e = ap (λ bs. x.binding ∷ bs) (bindings_push es e)

bindings_length : (es : List Entry) → length (bindings_of es) ≡ length es
bindings_length [] = refl
bindings_length (x ∷ es) = ap suc (bindings_length es)

hidden_push : (before : List Binding) (es : List Entry) (e : Entry) → AreHidden before es → e.hidden ≡ newest e.binding.name (before ++ bindings_of es) → AreHidden before (es ++ e ∷ [])
hidden_push before [] e h is = (is ∙ ap (newest e.binding.name) (append-nil before), tt)
hidden_push before (x ∷ es) e h is =
    (h.0, hidden_push (before ++ x.binding ∷ []) es e h.1 (is ∙ ap (newest e.binding.name) (sym (append_assoc before (x.binding ∷ []) (bindings_of es)))))

hidden_front : (before : List Binding) (es : List Entry) (e : Entry) → AreHidden before (es ++ e ∷ []) → AreHidden before es
hidden_front before [] e h = tt
hidden_front before (x ∷ es) e h = (h.0, hidden_front (before ++ x.binding ∷ []) es e h.1)

hidden_last : (before : List Binding) (es : List Entry) (e : Entry) → AreHidden before (es ++ e ∷ []) → e.hidden ≡ newest e.binding.name (before ++ bindings_of es)
hidden_last before [] e h = h.0 ∙ ap (newest e.binding.name) (sym (append-nil before))
hidden_last before (x ∷ es) e h = hidden_last (before ++ x.binding ∷ []) es e h.1 ∙ ap (newest e.binding.name) (append_assoc before (x.binding ∷ []) (bindings_of es))

-- a number that is changed at one spelling, seen at another
at_same : (name other : List ℕ) (new now old : ℕ) → new ≡ (if bytes_eq name other then now else old) → bytes_eq name other ≡ true → new ≡ now
at_same name other new now old e y = e ∙ ap (λ t. if t then now else old) y

at_other : (name other : List ℕ) (new now old : ℕ) → new ≡ (if bytes_eq name other then now else old) → bytes_eq name other ≡ false → new ≡ old
at_other name other new now old e n = e ∙ ap (λ t. if t then now else old) n

pushed_last : (bs : List Binding) (b : Binding) (other : List ℕ) (old kept hidden new : ℕ) → old ≡ newest other bs
    → kept ≡ (if bytes_eq b.name other then hidden else old) → new ≡ (if bytes_eq b.name other then length bs + 1 else kept) → new ≡ newest other (bs ++ b ∷ [])
pushed_last bs b other old kept hidden new is one two =
    ⊎_elim
    (λ y. at_same b.name other new (length bs + 1) kept two y ∙ sym (newest_push other bs b ∙ ap (λ t. if t then length bs + 1 else newest other bs) y))
    (λ n. at_other b.name other new (length bs + 1) kept two n ∙ at_other b.name other kept hidden old one n ∙ is
    ∙ sym (newest_push other bs b ∙ ap (λ t. if t then length bs + 1 else newest other bs) n))
    (cases_Bool (bytes_eq b.name other))

popped_last : (bs : List Binding) (b : Binding) (other : List ℕ) (old hidden new : ℕ) → old ≡ newest other (bs ++ b ∷ [])
    → hidden ≡ newest b.name bs → new ≡ (if bytes_eq b.name other then hidden else old) → new ≡ newest other bs
popped_last bs b other old hidden new is hides one =
    ⊎_elim
    (λ y. at_same b.name other new hidden old one y ∙ hides ∙ ap (λ n. newest n bs) ((bytes_eq-Decides b.name other).0 y))
    (λ n. at_other b.name other new hidden old one n ∙ is ∙ newest_push other bs b ∙ ap (λ t. if t then length bs + 1 else newest other bs) n)
    (cases_Bool (bytes_eq b.name other))

-- a name is put behind the others
pub pushed : (es : List Entry) (e : Entry) (old kept new : Latest) → IsIndexed es old → e.hidden ≡ latest_at old e.binding.name
    → ((other : List ℕ) → latest_at kept other ≡ (if bytes_eq e.binding.name other then e.hidden else latest_at old other))
    → ((other : List ℕ) → latest_at new other ≡ (if bytes_eq e.binding.name other then length es + 1 else latest_at kept other))
    → IsIndexed (es ++ e ∷ []) new
pushed es e old kept new h hides one two = record {
  hidden = hidden_push [] es e h.hidden (hides ∙ h.last e.binding.name);
  last = λ other. subst (λ bs. latest_at new other ≡ newest other bs) (sym (bindings_push es e))
      (pushed_last (bindings_of es) e.binding other (latest_at old other) (latest_at kept other) e.hidden (latest_at new other) (h.last other) (one other)
      (two other ∙ ap (λ n. if bytes_eq e.binding.name other then n + 1 else latest_at kept other) (sym (bindings_length es))));
}

-- the last name is taken off
pub popped : (es all : List Entry) (e : Entry) (old new : Latest) → all ≡ es ++ e ∷ [] → IsIndexed all old
    → ((other : List ℕ) → latest_at new other ≡ (if bytes_eq e.binding.name other then e.hidden else latest_at old other))
    → IsIndexed es new
popped es all e old new is h one =
    let k = subst (λ xs. IsIndexed xs old) is h in record {
      hidden = hidden_front [] es e k.hidden;
      last = λ other. popped_last (bindings_of es) e.binding other (latest_at old other) e.hidden (latest_at new other)
          (k.last other ∙ ap (newest other) (bindings_push es e)) (hidden_last [] es e k.hidden) (one other);
    }

some_number : (o : Option ℕ) (k : ℕ) → unwrap_or o 0 ≡ suc k → is_some o ≡ true
some_number None k e = absurd (omega (arith, e))
some_number (Some x) k e = refl

same_name : (name : List ℕ) → bytes_eq name name ≡ true
same_name name = (bytes_eq-Decides name name).1 refl

-- the last name's spelling is held
pub last_held : (es all : List Entry) (e : Entry) (latest : Latest) → all ≡ es ++ e ∷ [] → IsIndexed all latest → is_held latest e.binding.name ≡ true
last_held es all e latest is h = some_number (kept_at latest e.binding.name) (length (bindings_of es))
    (h.last e.binding.name ∙ ap (λ xs. newest e.binding.name (bindings_of xs)) is ∙ ap (newest e.binding.name) (bindings_push es e)
    ∙ newest_push e.binding.name (bindings_of es) e.binding
    ∙ ap (λ t. if t then length (bindings_of es) + 1 else newest e.binding.name (bindings_of es)) (same_name e.binding.name) ∙ plus_one (length (bindings_of es)))

-- fewer names, of which the first ones stay
pub first_names : (es : List Entry) (count k : ℕ) → count ≤ k → take count (bindings_of (take k es)) ≡ take count (bindings_of es)
first_names [] zero zero h = refl
first_names [] zero (suc k) h = refl
first_names [] (suc c) zero h = absurd (omega (arith, h))
first_names [] (suc c) (suc k) h = refl
first_names (x ∷ es) zero k h = refl
first_names (x ∷ es) (suc c) zero h = absurd (omega (arith, h))
first_names (x ∷ es) (suc c) (suc k) h = ap (λ bs. x.binding ∷ bs) (first_names es c k (omega (arith, h)))

pub all_names : (es : List Entry) (count : ℕ) → length es ≤ count → bindings_of es ≡ take count (bindings_of es)
all_names [] zero h = refl
all_names [] (suc c) h = refl
all_names (x ∷ es) zero h = absurd (omega (arith, h))
all_names (x ∷ es) (suc c) h = ap (λ bs. x.binding ∷ bs) (all_names es c (omega (arith, h)))
