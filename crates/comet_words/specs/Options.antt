-- The options with a value: how each is spelled, and what it says with its value. A rule of this project.
use Rattle.std.specs.Prelude.{ℕ, ◌-◌, ◌^◌, List, [], ◌∷◌, Option, option_map, find, bytes_eq, codes}
use Rattle.comet_words.specs.declared.setting.Setting.{Setting}
use Rattle.comet_words.specs.declared.setting.Setting.TheVariants.{Data, Replay, Seed, Workers, Fuel, Generate}
use Rattle.comet_words.specs.Values.{file, number}

-- where the program comes from: a file's name, or the size of the generated text
pub data Origin : Type 0 where
  Named : List ℕ → Origin
  Generated : ℕ → Origin

-- what a word, or a pair of words, says
pub data Item : Type 0 where
  OriginItem : Origin → Item
  DataItem : List ℕ → Item
  ReplayItem : List ℕ → Item
  SeedItem : ℕ → Item
  WorkersItem : ℕ → Item
  FuelItem : ℕ → Item
  JournalItem : Item

abbrev pub settings : List Setting
settings = Data ∷ Replay ∷ Seed ∷ Workers ∷ Fuel ∷ Generate ∷ []

abbrev pub spelling : Setting → List ℕ
spelling Data = codes "--data"
spelling Replay = codes "--replay"
spelling Seed = codes "--seed"
spelling Workers = codes "--workers"
spelling Fuel = codes "--fuel"
spelling Generate = codes "--gen"

abbrev pub setting_named : List ℕ → Option Setting
setting_named name = find (λ setting. bytes_eq name (spelling setting)) settings

-- what an option says with its value, where that is one of its values
abbrev pub item_of : Setting → List ℕ → Option Item
item_of Data value = option_map DataItem (file value)
item_of Replay value = option_map ReplayItem (file value)
item_of Seed value = option_map SeedItem (number 0 (2 ^ 64 - 1) value)
item_of Workers value = option_map WorkersItem (number 1 64 value)
item_of Fuel value = option_map FuelItem (number 1 (2 ^ 62) value)
item_of Generate value = option_map (λ size. OriginItem (Generated size)) (number 4 2000 value)
