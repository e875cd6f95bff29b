-- Words ask for something exactly where they are in form, rule by rule.
use Rattle.std.specs.Prelude.{◌≡◌, ◌≤◌, ◌↔◌, ℕ, Bool, true, false, List, [], ◌∷◌, Option, Some, None, IsSome, is_some, length, unwrap_or, ◌^◌, refl, if◌then◌else◌}
use Rattle.std.specs.List.{filter_map}
use Rattle.std.proofs.Common.{arith, sym, subst, ap, ◌∙◌}
use Rattle.comet_words.specs.declared.setting.Setting.{Setting}
use Rattle.comet_words.specs.Options.{Item, Origin, setting_named}
use Rattle.comet_words.specs.Items.{alone, apart, pair, followed, items, ◌>>=◌}
use Rattle.comet_words.specs.Asked.{Asked, asked, asked_by, at_most_one, exactly_one, data_in, replay_in, seed_in, workers_in, fuel_in, journal_in, origin_in}
use Rattle.comet_words.specs.InForm.{AreItems, no_words, a_word, a_pair, InForm}
use Rattle.comet_words.proofs.Cutting.{option_alone, some_same}

-- an item and those behind it, which are found
record Cut (item : Option Item) (more : Option (List Item)) (all : List Item) : Type 0 where
  head : Item
  rest : List Item
  is_head : item ≡ Some head
  is_rest : more ≡ Some rest
  whole : head ∷ rest ≡ all

both_cut : (item : Option Item) (more : Option (List Item)) (all : List Item) → (item >>= λ item. followed item more) ≡ Some all → Cut item more all
both_cut None more all is = cc
both_cut (Some item) None all is = cc
both_cut (Some item) (Some rest) all is = record { head = item; rest = rest; is_head = refl; is_rest = refl; whole = some_same (item ∷ rest) all is }

word_cut : (word : List ℕ) (words : List (List ℕ)) (all : List Item) → ((rest : List Item) → items words ≡ Some rest → AreItems words rest)
    → Cut (alone word) (items words) all → AreItems (word ∷ words) all
word_cut word words all later cut = subst (AreItems (word ∷ words)) cut.whole (a_word cut.is_head (later cut.rest cut.is_rest))

pair_cut : (word value : List ℕ) (words : List (List ℕ)) (all : List Item) → ((rest : List Item) → items words ≡ Some rest → AreItems words rest)
    → Cut (pair word value) (items words) all → AreItems (word ∷ value ∷ words) all
pair_cut word value words all later cut = subst (AreItems (word ∷ value ∷ words)) cut.whole (a_pair cut.is_head (later cut.rest cut.is_rest))

either_cut : (word next : List ℕ) (words : List (List ℕ)) (all : List Item) (b : Bool)
    → ((rest : List Item) → items words ≡ Some rest → AreItems words rest)
    → ((rest : List Item) → items (next ∷ words) ≡ Some rest → AreItems (next ∷ words) rest)
    → (if b then pair word next >>= (λ item. followed item (items words)) else alone word >>= (λ item. followed item (items (next ∷ words)))) ≡ Some all
    → AreItems (word ∷ next ∷ words) all
either_cut word next words all true later sooner is = pair_cut word next words all later (both_cut (pair word next) (items words) all is)
either_cut word next words all false later sooner is = word_cut word (next ∷ words) all sooner (both_cut (alone word) (items (next ∷ words)) all is)

pub are_items : (words : List (List ℕ)) (all : List Item) → items words ≡ Some all → AreItems words all
are_items [] all is = subst (AreItems []) (some_same [] all is) no_words
are_items (word ∷ []) all is = word_cut word [] all (are_items []) (both_cut (alone word) (Some []) all is)
are_items (word ∷ next ∷ words) all is = either_cut word next words all (is_some (setting_named word)) (are_items words) (are_items (next ∷ words)) is

-- a word that says something alone is no option's spelling
alone_apart : (word : List ℕ) (item : Item) (named : Option Setting) → setting_named word ≡ named → alone word ≡ Some item → is_some named ≡ false
alone_apart word item None is says = refl
alone_apart word item (Some setting) is says = absurd (let e = option_alone word setting is in cc)

-- a word that says something with the next one is an option's spelling
pair_named : (word value : List ℕ) (item : Item) (named : Option Setting) → (named >>= λ setting. apart setting value) ≡ Some item → is_some named ≡ true
pair_named word value item None says = cc
pair_named word value item (Some setting) says = refl

word_items : (word : List ℕ) (words : List (List ℕ)) (item : Item) (rest : List Item)
    → alone word ≡ Some item → items words ≡ Some rest → items (word ∷ words) ≡ Some (item ∷ rest)
word_items word [] item rest says is = rw says (ap (followed item) is)
word_items word (next ∷ words) item rest says is = rw (alone_apart word item (setting_named word) refl says) (rw says (ap (followed item) is))

pair_items : (word value : List ℕ) (words : List (List ℕ)) (item : Item) (rest : List Item)
    → pair word value ≡ Some item → items words ≡ Some rest → items (word ∷ value ∷ words) ≡ Some (item ∷ rest)
pair_items word value words item rest says is = rw (pair_named word value item (setting_named word) says) (rw says (ap (followed item) is))

-- words are items in one way
pub same_items : (words : List (List ℕ)) (all : List Item) → AreItems words all → items words ≡ Some all
same_items [] [] no_words = refl
same_items [] (item ∷ rest) are = elim are [ ]
same_items (word ∷ words) [] are = elim are [ ]
same_items (word ∷ words) (item ∷ rest) (a_word says are) = word_items word words item rest says (same_items words rest are)
same_items (word ∷ value ∷ words) (item ∷ rest) (a_pair says are) = pair_items word value words item rest says (same_items words rest are)

pub one_cut : (words : List (List ℕ)) (all others : List Item) → AreItems words all → AreItems words others → all ≡ others
one_cut words all others are other = some_same all others (sym (same_items words all are) ∙ same_items words others other)

few : {A : Type 0} (xs : List A) → IsSome (at_most_one xs) → length xs ≤ 1
few [] some = omega arith
few (x ∷ []) some = omega arith
few (x ∷ y ∷ more) some = cc

few_some : {A : Type 0} (xs : List A) → length xs ≤ 1 → IsSome (at_most_one xs)
few_some [] short = refl
few_some (x ∷ []) short = refl
few_some (x ∷ y ∷ more) short = absurd (omega arith)

one : {A : Type 0} (xs : List A) → IsSome (exactly_one xs) → length xs ≡ 1
one [] some = cc
one (x ∷ []) some = refl
one (x ∷ y ∷ more) some = cc

one_some : {A : Type 0} (xs : List A) → length xs ≡ 1 → IsSome (exactly_one xs)
one_some [] single = absurd (omega arith)
one_some (x ∷ []) single = refl
one_some (x ∷ y ∷ more) single = absurd (omega arith)

-- what is made of seven parts is there exactly where each part is
module _ {A B C D E F G H : Type 0} (make : A → B → C → D → E → F → G → H) where
  abbrev pub made : Option A → Option B → Option C → Option D → Option E → Option F → Option G → Option H
  made a b c d e f g =
      a >>= λ a. b >>= λ b. c >>= λ c. d >>= λ d. e >>= λ e. f >>= λ f. g >>= λ g. Some (make a b c d e f g)

  parts : (a : Option A) (b : Option B) (c : Option C) (d : Option D) (e : Option E) (f : Option F) (g : Option G) → IsSome (made a b c d e f g)
      → IsSome a × IsSome b × IsSome c × IsSome d × IsSome e × IsSome f × IsSome g
  parts None b c d e f g some = cc
  parts (Some a) None c d e f g some = cc
  parts (Some a) (Some b) None d e f g some = cc
  parts (Some a) (Some b) (Some c) None e f g some = cc
  parts (Some a) (Some b) (Some c) (Some d) None f g some = cc
  parts (Some a) (Some b) (Some c) (Some d) (Some e) None g some = cc
  parts (Some a) (Some b) (Some c) (Some d) (Some e) (Some f) None some = cc
  parts (Some a) (Some b) (Some c) (Some d) (Some e) (Some f) (Some g) some = (refl, refl, refl, refl, refl, refl, refl)

  whole : (a : Option A) (b : Option B) (c : Option C) (d : Option D) (e : Option E) (f : Option F) (g : Option G)
      → IsSome a → IsSome b → IsSome c → IsSome d → IsSome e → IsSome f → IsSome g → IsSome (made a b c d e f g)
  whole None b c d e f g h i j k l m n = cc
  whole (Some a) None c d e f g h i j k l m n = cc
  whole (Some a) (Some b) None d e f g h i j k l m n = cc
  whole (Some a) (Some b) (Some c) None e f g h i j k l m n = cc
  whole (Some a) (Some b) (Some c) (Some d) None f g h i j k l m n = cc
  whole (Some a) (Some b) (Some c) (Some d) (Some e) None g h i j k l m n = cc
  whole (Some a) (Some b) (Some c) (Some d) (Some e) (Some f) None h i j k l m n = cc
  whole (Some a) (Some b) (Some c) (Some d) (Some e) (Some f) (Some g) h i j k l m n = refl

abbrev pub make : Option (List ℕ) → Option (List ℕ) → Option ℕ → Option ℕ → Option ℕ → Option Bool → Origin → Asked
make data_file replay_file seed workers fuel journal origin = record {
  origin = origin;
  data_file = data_file;
  replay_file = replay_file;
  seed = unwrap_or seed 0;
  workers = unwrap_or workers 1;
  fuel = unwrap_or fuel (2 ^ 40);
  journal = unwrap_or journal false;
}

forms : (words : List (List ℕ)) (found : Option (List Item)) → items words ≡ found → IsSome (found >>= asked_by) → InForm words
forms words None is some = cc
forms words (Some all) is some =
    let each = parts make (at_most_one (filter_map data_in all)) (at_most_one (filter_map replay_in all)) (at_most_one (filter_map seed_in all))
    (at_most_one (filter_map workers_in all)) (at_most_one (filter_map fuel_in all)) (at_most_one (filter_map journal_in all))
    (exactly_one (filter_map origin_in all)) some in
    record {
      items = all;
      are_items = are_items words all is;
      one_data = few _ each.0;
      one_replay = few _ each.1;
      one_seed = few _ each.2;
      one_workers = few _ each.3;
      one_fuel = few _ each.4;
      one_journal = few _ each.5;
      one_origin = one _ each.6;
    }

asks : (words : List (List ℕ)) → InForm words → IsSome (asked words)
asks words form = rw (same_items words form.items form.are_items)
    (whole make _ _ _ _ _ _ _ (few_some (filter_map data_in form.items) form.one_data) (few_some (filter_map replay_in form.items) form.one_replay)
    (few_some (filter_map seed_in form.items) form.one_seed) (few_some (filter_map workers_in form.items) form.one_workers)
    (few_some (filter_map fuel_in form.items) form.one_fuel) (few_some (filter_map journal_in form.items) form.one_journal)
    (one_some (filter_map origin_in form.items) form.one_origin))

pub asked_in_form : (words : List (List ℕ)) → IsSome (asked words) ↔ InForm words
asked_in_form words = (λ some. forms words (items words) refl some, asks words)
