-- What is known of what the words ask for behind some of their items, and what is asked for by this and the items that are
-- left. A rule of this project.
use Rattle.std.specs.Prelude.{ℕ, ◌^◌, Bool, true, false, List, [], ◌∷◌, Option, Some, None, is_some, unwrap_or}
use Rattle.std.specs.List.{filter_map}
use Rattle.comet_words.specs.Options.{Origin, Item, OriginItem, DataItem, ReplayItem, SeedItem, WorkersItem, FuelItem, JournalItem}
use Rattle.comet_words.specs.Items.{◌>>=◌}
use Rattle.comet_words.specs.Asked.{Asked, data_in, replay_in, seed_in, workers_in, fuel_in, journal_in, origin_in}

-- each thing, where it was given
pub record Known : Type 0 where
  pub origin : Option Origin
  pub data_file : Option (List ℕ)
  pub replay_file : Option (List ℕ)
  pub seed : Option ℕ
  pub workers : Option ℕ
  pub fuel : Option ℕ
  pub journal : Option Bool

abbrev pub nothing : Known
nothing = record { origin = None; data_file = None; replay_file = None; seed = None; workers = None; fuel = None; journal = None }

abbrev pub has : Known → Item → Bool
has known (OriginItem origin) = is_some known.origin
has known (DataItem name) = is_some known.data_file
has known (ReplayItem name) = is_some known.replay_file
has known (SeedItem seed) = is_some known.seed
has known (WorkersItem workers) = is_some known.workers
has known (FuelItem fuel) = is_some known.fuel
has known JournalItem = is_some known.journal

abbrev pub with : Known → Item → Known
with known (OriginItem origin) = record known { origin = Some origin }
with known (DataItem name) = record known { data_file = Some name }
with known (ReplayItem name) = record known { replay_file = Some name }
with known (SeedItem seed) = record known { seed = Some seed }
with known (WorkersItem workers) = record known { workers = Some workers }
with known (FuelItem fuel) = record known { fuel = Some fuel }
with known JournalItem = record known { journal = Some true }

-- what is asked for where no more is given
abbrev pub all_given : Known → Option Asked
all_given known = known.origin >>= λ origin. Some (record {
  origin = origin;
  data_file = known.data_file;
  replay_file = known.replay_file;
  seed = unwrap_or known.seed 0;
  workers = unwrap_or known.workers 1;
  fuel = unwrap_or known.fuel (2 ^ 40);
  journal = unwrap_or known.journal false;
})

-- what was given, where the list gives no more than once what wasn't given before
abbrev pub one_more : {A : Type 0} → Option A → List A → Option (Option A)
one_more had [] = Some had
one_more None (x ∷ xs) = one_more (Some x) xs
one_more (Some y) (x ∷ xs) = None

-- what is asked for by what was given and the items that are left
abbrev pub asked_with : Known → List Item → Option Asked
asked_with known items = do
  data_file ← one_more known.data_file (filter_map data_in items)
  replay_file ← one_more known.replay_file (filter_map replay_in items)
  seed ← one_more known.seed (filter_map seed_in items)
  workers ← one_more known.workers (filter_map workers_in items)
  fuel ← one_more known.fuel (filter_map fuel_in items)
  journal ← one_more known.journal (filter_map journal_in items)
  origin ← one_more known.origin (filter_map origin_in items)
  all_given (record {
    origin = origin;
    data_file = data_file;
    replay_file = replay_file;
    seed = seed;
    workers = workers;
    fuel = fuel;
    journal = journal;
  })
