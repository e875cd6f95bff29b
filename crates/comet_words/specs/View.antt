-- What the code's values stand for in the definitions. A rule of this project.
use Rattle.std.specs.Prelude.{ℕ, true, List, Some, None, map, option_map, String, string_bytes, if◌then◌else◌}
use Rattle.comet_words.specs.declared.words.Source.{Source}
use Rattle.comet_words.specs.declared.words.Source.TheVariants.{Program, Generate}
use Rattle.comet_words.specs.declared.words.Words.{Words}
use Rattle.comet_words.specs.declared.item.Item.{Item as WordItem}
use Rattle.comet_words.specs.declared.item.Item.TheVariants as items
use Rattle.comet_words.specs.declared.given.Given.{Given}
use Rattle.comet_words.specs.Options.{Origin, Named, Generated, Item, OriginItem, DataItem, ReplayItem, SeedItem, WorkersItem, FuelItem, JournalItem}
use Rattle.comet_words.specs.Asked.{Asked}
use Rattle.comet_words.specs.Given.{Known}

-- the words as texts
abbrev pub texts : {A : Type 0} → List (String A) → List (List ℕ)
texts words = map string_bytes words

abbrev pub origin_of : Source → Origin
origin_of (Program name) = Named name.now
origin_of (Generate size) = Generated size

-- what an item of the code says
abbrev pub said : WordItem → Item
said (items.Source source) = OriginItem (origin_of source)
said (items.Data name) = DataItem name.now
said (items.Replay name) = ReplayItem name.now
said (items.Seed seed) = SeedItem seed
said (items.Workers workers) = WorkersItem workers
said (items.Fuel fuel) = FuelItem fuel
said items.Journal = JournalItem

-- what was given so far
abbrev pub known_by : Given → Known
known_by so_far = record {
  origin = option_map origin_of so_far.source;
  data_file = option_map (λ name. name.now) so_far.data;
  replay_file = option_map (λ name. name.now) so_far.replay;
  seed = so_far.seed;
  workers = so_far.workers;
  fuel = so_far.fuel;
  journal = if so_far.journal then Some true else None;
}

-- what the code's answer asks for
abbrev pub asked_for : Words → Asked
asked_for words = record {
  origin = origin_of words.source;
  data_file = option_map (λ name. name.now) words.data;
  replay_file = option_map (λ name. name.now) words.replay;
  seed = words.seed;
  workers = words.workers;
  fuel = words.fuel;
  journal = words.journal;
}
