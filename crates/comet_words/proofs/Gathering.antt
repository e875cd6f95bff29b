-- What items ask for together, gathered from the first to the last.
use Rattle.std.specs.Prelude.{◌≡◌, ℕ, Bool, true, false, List, [], ◌∷◌, Option, Some, None, is_some, option_and_then, refl}
use Rattle.std.specs.List.{filter_map}
use Rattle.comet_words.specs.Options.{Origin, Item, OriginItem, DataItem, ReplayItem, SeedItem, WorkersItem, FuelItem, JournalItem}
use Rattle.comet_words.specs.Items.{followed, ◌>>=◌}
use Rattle.comet_words.specs.Asked.{Asked, asked_by, at_most_one, exactly_one, data_in, replay_in, seed_in, workers_in, fuel_in, journal_in, origin_in}
use Rattle.comet_words.specs.Given.{asked_with, has, nothing, one_more, Known, with}

taken : {A : Type 0} (had : Option A) (x : A) (xs : List A) → is_some had ≡ true → one_more had (x ∷ xs) ≡ None
taken None x xs is = cc
taken (Some y) x xs is = refl

free : {A : Type 0} (had : Option A) (x : A) (xs : List A) → is_some had ≡ false → one_more had (x ∷ xs) ≡ one_more (Some x) xs
free None x xs is = refl
free (Some y) x xs is = cc

from_none : {A : Type 0} (xs : List A) → one_more None xs ≡ at_most_one xs
from_none [] = refl
from_none (x ∷ []) = refl
from_none (x ∷ y ∷ more) = refl

-- where a part was given twice, nothing is asked for
bind_none : {A B : Type 0} (o : Option A) → option_and_then {T = A} {U = B} (λ x. None) o ≡ None
bind_none None = refl
bind_none (Some x) = refl

-- an item that was given before is given twice
pub given_twice : (known : Known) (item : Item) (items : List Item) → has known item ≡ true → asked_with known (item ∷ items) ≡ None
given_twice known (OriginItem origin) items is = rw (taken known.origin origin (filter_map origin_in items) is) (simp bind_none)
given_twice known (DataItem name) items is = rw (taken known.data_file name (filter_map data_in items) is) refl
given_twice known (ReplayItem name) items is = rw (taken known.replay_file name (filter_map replay_in items) is) (simp bind_none)
given_twice known (SeedItem seed) items is = rw (taken known.seed seed (filter_map seed_in items) is) (simp bind_none)
given_twice known (WorkersItem workers) items is = rw (taken known.workers workers (filter_map workers_in items) is) (simp bind_none)
given_twice known (FuelItem fuel) items is = rw (taken known.fuel fuel (filter_map fuel_in items) is) (simp bind_none)
given_twice known JournalItem items is = rw (taken known.journal true (filter_map journal_in items) is) (simp bind_none)

-- an item that wasn't given before is given now
pub given_now : (known : Known) (item : Item) (items : List Item) → has known item ≡ false
    → asked_with known (item ∷ items) ≡ asked_with (with known item) items
given_now known (OriginItem origin) items is = rw (free known.origin origin (filter_map origin_in items) is) refl
given_now known (DataItem name) items is = rw (free known.data_file name (filter_map data_in items) is) refl
given_now known (ReplayItem name) items is = rw (free known.replay_file name (filter_map replay_in items) is) refl
given_now known (SeedItem seed) items is = rw (free known.seed seed (filter_map seed_in items) is) refl
given_now known (WorkersItem workers) items is = rw (free known.workers workers (filter_map workers_in items) is) refl
given_now known (FuelItem fuel) items is = rw (free known.fuel fuel (filter_map fuel_in items) is) refl
given_now known JournalItem items is = rw (free known.journal true (filter_map journal_in items) is) refl

-- with no item before, all ask for what is asked for
one_exactly : {A : Type 0} (origins : List A) (f : A → Option Asked) → (at_most_one origins >>= λ origin. origin >>= f) ≡ (exactly_one origins >>= f)
one_exactly [] f = refl
one_exactly (x ∷ []) f = refl
one_exactly (x ∷ y ∷ more) f = refl

pub asked_with_nothing : (items : List Item) → asked_with nothing items ≡ asked_by items
asked_with_nothing items = simp (from_none {A = List ℕ}, from_none {A = ℕ}, from_none {A = Bool}, from_none {A = Origin}, one_exactly {A = Origin})

-- what is asked for by what was given and the words that are left, each case of the first item
pub more_twice : (known : Known) (item : Item) (more : Option (List Item)) → has known item ≡ true
    → option_and_then (asked_with known) (followed item more) ≡ None
more_twice known item None is = refl
more_twice known item (Some items) is = given_twice known item items is

pub more_now : (known : Known) (item : Item) (more : Option (List Item)) → has known item ≡ false
    → option_and_then (asked_with known) (followed item more) ≡ option_and_then (asked_with (with known item)) more
more_now known item None is = refl
more_now known item (Some items) is = given_now known item items is

pub begins : (found : Option (List Item)) → option_and_then (asked_with nothing) found ≡ option_and_then asked_by found
begins None = refl
begins (Some items) = asked_with_nothing items
