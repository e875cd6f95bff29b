-- What the words of the command line ask for, where they are in form: they are items one after another, each option comes
-- at most once, in any order, and exactly one of PROGRAM and `--gen` is there. A rule of this project.
use Rattle.std.specs.Prelude.{ℕ, ◌^◌, Bool, true, false, List, [], ◌∷◌, Option, Some, None, unwrap_or}
use Rattle.std.specs.List.{filter_map}
use Rattle.comet_words.specs.Options.{Origin, Item, OriginItem, DataItem, ReplayItem, SeedItem, WorkersItem, FuelItem, JournalItem}
use Rattle.comet_words.specs.Items.{items, ◌>>=◌}

-- what is asked for, with what holds where an option isn't given
pub record Asked : Type 0 where
  pub origin : Origin
  pub data_file : Option (List ℕ)
  pub replay_file : Option (List ℕ)
  pub seed : ℕ
  pub workers : ℕ
  pub fuel : ℕ
  pub journal : Bool

abbrev pub origin_in : Item → Option Origin
origin_in (OriginItem origin) = Some origin
origin_in item = None

abbrev pub data_in : Item → Option (List ℕ)
data_in (DataItem name) = Some name
data_in item = None

abbrev pub replay_in : Item → Option (List ℕ)
replay_in (ReplayItem name) = Some name
replay_in item = None

abbrev pub seed_in : Item → Option ℕ
seed_in (SeedItem seed) = Some seed
seed_in item = None

abbrev pub workers_in : Item → Option ℕ
workers_in (WorkersItem workers) = Some workers
workers_in item = None

abbrev pub fuel_in : Item → Option ℕ
fuel_in (FuelItem fuel) = Some fuel
fuel_in item = None

abbrev pub journal_in : Item → Option Bool
journal_in JournalItem = Some true
journal_in item = None

-- the member of a list, or that it has none; nothing where it has more than one
abbrev pub at_most_one : {A : Type 0} → List A → Option (Option A)
at_most_one [] = Some None
at_most_one (x ∷ []) = Some (Some x)
at_most_one (x ∷ y ∷ more) = None

-- the member of a list; nothing where it has none, or more than one
abbrev pub exactly_one : {A : Type 0} → List A → Option A
exactly_one [] = None
exactly_one (x ∷ []) = Some x
exactly_one (x ∷ y ∷ more) = None

-- what items ask for together
abbrev pub asked_by : List Item → Option Asked
asked_by items = do
  data_file ← at_most_one (filter_map data_in items)
  replay_file ← at_most_one (filter_map replay_in items)
  seed ← at_most_one (filter_map seed_in items)
  workers ← at_most_one (filter_map workers_in items)
  fuel ← at_most_one (filter_map fuel_in items)
  journal ← at_most_one (filter_map journal_in items)
  origin ← exactly_one (filter_map origin_in items)
  Some (record {
    origin = origin;
    data_file = data_file;
    replay_file = replay_file;
    seed = unwrap_or seed 0;
    workers = unwrap_or workers 1;
    fuel = unwrap_or fuel (2 ^ 40);
    journal = unwrap_or journal false;
  })

abbrev pub asked : List (List ℕ) → Option Asked
asked words = items words >>= asked_by
