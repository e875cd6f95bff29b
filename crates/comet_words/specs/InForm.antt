-- When words are in form, rule by rule: each word, or each pair of words, is an item; each option comes at most once, in any
-- order; exactly one of PROGRAM and `--gen` is there. A rule of this project.
use Rattle.std.specs.Prelude.{ℕ, ◌≡◌, ◌≤◌, List, [], ◌∷◌, length, Some}
use Rattle.std.specs.List.{filter_map}
use Rattle.comet_words.specs.Options.{Item}
use Rattle.comet_words.specs.Items.{alone, pair}
use Rattle.comet_words.specs.Asked.{data_in, replay_in, seed_in, workers_in, fuel_in, journal_in, origin_in}

-- these words are these items, each of one word or of two
pub data AreItems : List (List ℕ) → List Item → Type 0 where
  no_words : AreItems [] []
  a_word : {word : List ℕ} {words : List (List ℕ)} {item : Item} {items : List Item}
      → alone word ≡ Some item → AreItems words items → AreItems (word ∷ words) (item ∷ items)
  a_pair : {word value : List ℕ} {words : List (List ℕ)} {item : Item} {items : List Item}
      → pair word value ≡ Some item → AreItems words items → AreItems (word ∷ value ∷ words) (item ∷ items)

pub record InForm (words : List (List ℕ)) : Type 0 where
  pub items : List Item
  pub are_items : AreItems words items
  pub one_data : length (filter_map data_in items) ≤ 1
  pub one_replay : length (filter_map replay_in items) ≤ 1
  pub one_seed : length (filter_map seed_in items) ≤ 1
  pub one_workers : length (filter_map workers_in items) ≤ 1
  pub one_fuel : length (filter_map fuel_in items) ≤ 1
  pub one_journal : length (filter_map journal_in items) ≤ 1
  pub one_origin : length (filter_map origin_in items) ≡ 1
