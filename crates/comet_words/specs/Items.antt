-- What words say, cut into items from the left: each word, or each pair of words, is PROGRAM, the flag `--journal`, or an
-- option with its value, which is the next word or follows `=`. A rule of this project.
use Rattle.std.specs.Prelude.{ℕ, Bool, ◌==◌, List, [], ◌∷◌, Option, Some, None, is_some, option_and_then, option_map, bytes_eq, codes, if◌then◌else◌}
use Rattle.std.specs.List.{before_first, after_first}
use Rattle.comet_words.specs.declared.setting.Setting.{Setting}
use Rattle.comet_words.specs.Values.{is_name}
use Rattle.comet_words.specs.Options.{Item, OriginItem, JournalItem, Named, item_of, setting_named}

abbrev pub is_equals : ℕ → Bool
is_equals byte = byte == 61

infixl 10 ◌>>=◌
abbrev pub ◌>>=◌ : {A B : Type 0} → Option A → (A → Option B) → Option B
found >>= f = option_and_then f found

-- an option and its value with the first `=` between them; without `=` the value is empty, and no option takes that
abbrev pub joined : List ℕ → Option Item
joined word = setting_named (before_first is_equals word) >>= λ setting. item_of setting (after_first is_equals word)

-- what a word says alone
abbrev pub alone : List ℕ → Option Item
alone word =
    if is_name word then Some (OriginItem (Named word))
    else if bytes_eq word (codes "--journal") then Some JournalItem
    else joined word

-- what an option says with the next word, which isn't empty and doesn't begin with `-`
abbrev pub apart : Setting → List ℕ → Option Item
apart setting value = if is_name value then item_of setting value else None

-- what a word that is an option's spelling says with the next word
abbrev pub pair : List ℕ → List ℕ → Option Item
pair word next = setting_named word >>= λ setting. apart setting next

-- an item and those behind it, where these are items
abbrev pub followed : Item → Option (List Item) → Option (List Item)
followed item more = option_map (λ items. item ∷ items) more

-- what the words say, where they are items one after another
abbrev pub items : List (List ℕ) → Option (List Item)
items [] = Some []
items (word ∷ []) = alone word >>= λ item. followed item (Some [])
items (word ∷ next ∷ words) =
    if is_some (setting_named word)
    then pair word next >>= (λ item. followed item (items words))
    else alone word >>= (λ item. followed item (items (next ∷ words)))
