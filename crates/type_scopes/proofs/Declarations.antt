-- That what is found is the last declaration, and that slots are numbers of names.
use Rattle.std.specs.Prelude.{◌≡◌, refl, ℕ, zero, suc, Bool, true, false, not, ◌||◌, ◌<◌, ◌≤◌, ◌+◌, ◌-◌, nat_lt, List, [], ◌∷◌, length, slice_get, Option, Some, None, if◌then◌else◌}
use Rattle.std.proofs.Common.{sym, ap, ◌∙◌, arith, subst, ⊎_elim, rules}
use Rattle.std.proofs.lemmas.Bool.{ltb-false}
use Rattle.checked_tree.specs.declared.expressions.Slot.{Slot}
use Rattle.checked_tree.specs.declared.expressions.Slot.TheVariants.{Global, Local}
use Rattle.type_scopes.specs.declared.names.Binding.{Binding}
use Rattle.type_scopes.specs.declared.names.Found.{Found}
use Rattle.type_scopes.specs.declared.scope.Scope.{Scope}
use Rattle.type_scopes.specs.Uses.{IsDeclaration}
use Rattle.type_scopes.specs.Names.{is_named, newest, later_or, found_in, found_at, look, slot_of, index_of, opened}

record IsThere (name : List ℕ) (bs : List Binding) (k : ℕ) : Type 0 where
  binding : Binding
  there : slice_get bs k ≡ Some binding
  named : is_named name binding ≡ true

later : (name : List ℕ) (b : Binding) (bs : List Binding) (k : ℕ) → IsThere name bs k → IsThere name (b ∷ bs) (suc k)
later name b bs k h = record { binding = h.binding; there = h.there; named = h.named }

same_suc : (n k : ℕ) → suc n ≡ suc k → n ≡ k
same_suc n k h = omega (arith, h)

there_at : (name : List ℕ) (b : Binding) (bs : List Binding) (n k : ℕ) (h : Bool) → n ≡ newest name bs → h ≡ is_named name b
    → ((m : ℕ) → newest name bs ≡ suc m → IsThere name bs m) → later_or n h ≡ suc k → IsThere name (b ∷ bs) k
there_at name b bs zero zero true n h before e = record { binding = b; there = refl; named = sym h }
there_at name b bs zero (suc k) true n h before e = absurd (omega (arith, e))
there_at name b bs zero k false n h before e = absurd (omega (arith, e))
there_at name b bs (suc m) zero h n x before e = absurd (omega (arith, e))
there_at name b bs (suc m) (suc k) h n x before e =
    subst (λ z. IsThere name (b ∷ bs) (suc z)) (omega (arith, e)) (later name b bs m (before m (sym n)))

there : (name : List ℕ) (bs : List Binding) (k : ℕ) → newest name bs ≡ suc k → IsThere name bs k
there name [] k e = absurd (omega (arith, e))
there name (b ∷ bs) k e = there_at name b bs (newest name bs) k (is_named name b) refl refl (λ m h. there name bs m h) e

not_here : (n i : ℕ) (h : Bool) → later_or n h ≤ i → i ≡ zero → h ≡ false
not_here zero i true h e = absurd (omega (arith, h, e))
not_here zero i false h e = refl
not_here (suc n) i h k e = absurd (omega (arith, k, e))

not_later : (n i : ℕ) (h : Bool) → later_or n h ≤ suc i → n ≤ i
not_later zero i h k = omega arith
not_later (suc n) i h k = omega (arith, k)

pub no_later : (name : List ℕ) (bs : List Binding) (i : ℕ) (b : Binding) → newest name bs ≤ i → slice_get bs i ≡ Some b → is_named name b ≡ false
no_later name [] i b low e = absurd (cc)
no_later name (c ∷ bs) zero b low e = let same : c ≡ b = cc in ap (is_named name) (sym same) ∙ not_here (newest name bs) zero (is_named name c) low refl
no_later name (c ∷ bs) (suc i) b low e = no_later name bs i b (not_later (newest name bs) i (is_named name c) low) e

some_found : (i : ℕ) (o : Option Binding) (b : Binding) (f : Found) → o ≡ Some b → found_in i o ≡ Some f → f ≡ record { index = i; kind = b.kind; function = b.function }
some_found i None b f e h = absurd (cc)
some_found i (Some c) b f e h = let same : c ≡ b = cc in let found : record { index = i; kind = c.kind; function = c.function } ≡ f = cc in sym found ∙ ap (λ (z : Binding). record { index = i; kind = z.kind; function = z.function }) same

declared_at : (name : List ℕ) (names : List Binding) (n : ℕ) (f : Found) → n ≡ newest name names → found_at n names ≡ Some f → IsDeclaration name names f
declared_at name names zero f n h = absurd (cc)
declared_at name names (suc k) f n h =
    let t = there name names k (sym n) in
    let is = some_found k (slice_get names k) t.binding f t.there h in record {
      binding = t.binding;
      there = ap (λ (z : Found). slice_get names z.index) is ∙ t.there;
      named = t.named;
      kind = ap (λ (z : Found). z.kind) is;
      function = ap (λ (z : Found). z.function) is;
      last = λ i b low e. no_later name names i b (omega (arith, n, ap (λ (z : Found). z.index) is, low)) e;
    }

pub declared : (name : List ℕ) (names : List Binding) (f : Found) → look name names ≡ Some f → IsDeclaration name names f
declared name names f h = declared_at name names (newest name names) f refl h

some_is_none : {P : Type 0} (k : ℕ) (o : Option Binding) (b : Binding) → o ≡ Some b → found_in k o ≡ None → P
some_is_none k None b e h = absurd (cc)
some_is_none k (Some c) b e h = absurd (cc)

none_at : (name : List ℕ) (names : List Binding) (n : ℕ) → n ≡ newest name names → found_at n names ≡ None → n ≡ zero
none_at name names zero n h = refl
none_at name names (suc k) n h = let t = there name names k (sym n) in some_is_none k (slice_get names k) t.binding t.there h

pub none_declared : (name : List ℕ) (names : List Binding) (i : ℕ) (b : Binding) → look name names ≡ None → slice_get names i ≡ Some b → is_named name b ≡ false
none_declared name names i b h e = no_later name names i b (omega (arith, none_at name names (newest name names) refl h)) e

chosen_index : (scope : Scope) (i : ℕ) (t : Bool) → nat_lt i scope.globals ≡ t → index_of scope (if t then Global i else Local (i - scope.globals)) ≡ i
chosen_index scope i true h = refl
chosen_index scope i false h = omega (arith, ltb-false i scope.globals h)

index_at : (scope : Scope) (i : ℕ) (t l : Bool) → nat_lt i scope.globals ≡ l → index_of scope (if t || l then Global i else Local (i - scope.globals)) ≡ i
index_at scope i true l h = refl
index_at scope i false l h = chosen_index scope i l h

pub number : (scope : Scope) (i : ℕ) → index_of scope (slot_of scope i) ≡ i
number scope i = index_at scope i scope.at_top (nat_lt i scope.globals) refl

pub slots_apart : (scope : Scope) (i j : ℕ) → slot_of scope i ≡ slot_of scope j → i ≡ j
slots_apart scope i j e = sym (number scope i) ∙ ap (index_of scope) e ∙ number scope j

below : (i n : ℕ) → i < n → nat_lt i n ≡ true
below i n h = search rules

inside_at : (top : Bool) (g n i : ℕ) → i < n
    → (if false || nat_lt i (if top then n else g) then Global i else Local (i - (if top then n else g))) ≡ (if top || nat_lt i g then Global i else Local (i - g))
inside_at true g n i h = ap (λ t. if t then Global i else Local (i - n)) (below i n h)
inside_at false g n i h = refl

pub inside : (scope : Scope) (n i : ℕ) → i < n → slot_of (opened scope n) i ≡ slot_of scope i
inside scope n i h = inside_at scope.at_top scope.globals n i h
