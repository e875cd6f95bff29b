-- What words ask for lies within its limits.
use Rattle.std.specs.Prelude.{◌≡◌, ◌≤◌, ◌-◌, ◌^◌, ◌&&◌, ℕ, Bool, true, false, List, [], ◌∷◌, Option, Some, None, IfSome, bytes_eq, codes, option_map, nat_le, unwrap_or, refl, if◌then◌else◌}
use Rattle.std.specs.List.{filter_map, cons_option, before_first, after_first}
use Rattle.std.specs.Str.Parse.{digits_value}
use Rattle.std.proofs.Common.{arith, sym, subst}
use Rattle.comet_words.specs.declared.setting.Setting.{Setting}
use Rattle.comet_words.specs.declared.setting.Setting.TheVariants.{Data, Replay, Seed, Workers, Fuel, Generate}
use Rattle.comet_words.specs.declared.words.Words.{Words}
use Rattle.comet_words.specs.Values.{file, is_name, is_number, number}
use Rattle.comet_words.specs.Options.{Origin, Generated, Item, OriginItem, DataItem, ReplayItem, SeedItem, WorkersItem, FuelItem, JournalItem, item_of, setting_named}
use Rattle.comet_words.specs.Items.{alone, apart, is_equals, items, joined, pair, ◌>>=◌}
use Rattle.comet_words.specs.Asked.{Asked, asked, asked_by, at_most_one, exactly_one, data_in, replay_in, seed_in, workers_in, fuel_in, journal_in, origin_in}
use Rattle.comet_words.specs.InForm.{AreItems, no_words, a_word, a_pair}
use Rattle.comet_words.specs.InRange.{InRange, SizeInRange}
use Rattle.comet_words.specs.View.{asked_for}
use Rattle.comet_words.proofs.Forming.{are_items, made, make}

abbrev Within : ℕ → ℕ → ℕ → Type 0
Within least most n = (least ≤ n) × (n ≤ most)

tested : (least most n : ℕ) (a b c : Bool)
    → nat_le least n ≡ b → nat_le n most ≡ c → IfSome (if a && b && c then Some n else None) (Within least most)
tested least most n false b c low high = tt
tested least most n true false c low high = tt
tested least most n true true false low high = tt
tested least most n true true true low high = (grind arith, grind arith)

number_within : (least most : ℕ) (value : List ℕ) → IfSome (number least most value) (Within least most)
number_within least most value =
    tested least most (digits_value 10 value) (is_number value) (nat_le least (digits_value 10 value)) (nat_le (digits_value 10 value) most) refl refl

abbrev ItemWithin : Item → Type 0
ItemWithin (OriginItem origin) = SizeInRange origin
ItemWithin (WorkersItem workers) = Within 1 64 workers
ItemWithin (FuelItem fuel) = Within 1 (2 ^ 62) fuel
ItemWithin item = Unit {0}

mapped : {A B : Type 0} (P : A → Type 0) (Q : B → Type 0) (f : A → B) (found : Option A)
    → ((x : A) → P x → Q (f x)) → IfSome found P → IfSome (option_map f found) Q
mapped P Q f None keeps holds = tt
mapped P Q f (Some x) keeps holds = keeps x holds

always : {A : Type 0} (found : Option A) → IfSome found (λ x. Unit {0})
always None = tt
always (Some x) = tt

item_within : (setting : Setting) (value : List ℕ) → IfSome (item_of setting value) ItemWithin
item_within Data value = mapped (λ (x : List ℕ). Unit {0}) ItemWithin DataItem (file value) (λ x h. tt) (always (file value))
item_within Replay value = mapped (λ (x : List ℕ). Unit {0}) ItemWithin ReplayItem (file value) (λ x h. tt) (always (file value))
item_within Seed value = mapped (λ (x : ℕ). Unit {0}) ItemWithin SeedItem (number 0 (2 ^ 64 - 1) value) (λ x h. tt) (always (number 0 (2 ^ 64 - 1) value))
item_within Workers value = mapped (Within 1 64) ItemWithin WorkersItem (number 1 64 value) (λ x h. h) (number_within 1 64 value)
item_within Fuel value = mapped (Within 1 (2 ^ 62)) ItemWithin FuelItem (number 1 (2 ^ 62) value) (λ x h. h) (number_within 1 (2 ^ 62) value)
item_within Generate value = mapped (Within 4 2000) ItemWithin (λ size. OriginItem (Generated size)) (number 4 2000 value) (λ x h. h) (number_within 4 2000 value)

setting_within : (named : Option Setting) (value : List ℕ) → IfSome (named >>= λ setting. item_of setting value) ItemWithin
setting_within None value = tt
setting_within (Some setting) value = item_within setting value

either_within : (b : Bool) (found other : Option Item) → IfSome found ItemWithin → IfSome other ItemWithin → IfSome (if b then found else other) ItemWithin
either_within true found other h k = h
either_within false found other h k = k

alone_within : (word : List ℕ) → IfSome (alone word) ItemWithin
alone_within word = either_within (is_name word) _ _ tt
    (either_within (bytes_eq word (codes "--journal")) (Some JournalItem) (joined word) tt
    (setting_within (setting_named (before_first is_equals word)) (after_first is_equals word)))

pair_within : (named : Option Setting) (value : List ℕ) → IfSome (named >>= λ setting. apart setting value) ItemWithin
pair_within None value = tt
pair_within (Some setting) value = either_within (is_name value) (item_of setting value) None (item_within setting value) tt

-- each member of a list has this property
abbrev Each : {A : Type 0} → (A → Type 0) → List A → Type 0
Each P [] = Unit {0}
Each P (x ∷ xs) = P x × Each P xs

said_within : (found : Option Item) (item : Item) → IfSome found ItemWithin → found ≡ Some item → ItemWithin item
said_within None item holds is = cc
said_within (Some x) item holds is = let same : x ≡ item = cc in subst ItemWithin same holds

items_within : (words : List (List ℕ)) (all : List Item) → AreItems words all → Each ItemWithin all
items_within [] [] no_words = tt
items_within [] (item ∷ rest) are = elim are [ ]
items_within (word ∷ words) [] are = elim are [ ]
items_within (word ∷ words) (item ∷ rest) (a_word says are) = (said_within (alone word) item (alone_within word) says, items_within words rest are)
items_within (word ∷ value ∷ words) (item ∷ rest) (a_pair says are) =
    (said_within (pair word value) item (pair_within (setting_named word) value) says, items_within words rest are)

joins : {A : Type 0} (P : A → Type 0) (found : Option A) (xs : List A) → IfSome found P → Each P xs → Each P (cons_option found xs)
joins P None xs holds each = each
joins P (Some x) xs holds each = (holds, each)

gathered : {A : Type 0} (P : A → Type 0) (f : Item → Option A) → ((item : Item) → ItemWithin item → IfSome (f item) P)
    → (all : List Item) → Each ItemWithin all → Each P (filter_map f all)
gathered P f keeps [] each = tt
gathered P f keeps (item ∷ rest) each = joins P (f item) (filter_map f rest) (keeps item each.0) (gathered P f keeps rest each.1)

few_within : {A : Type 0} (P : A → Type 0) (xs : List A) (found : Option A) → Each P xs → at_most_one xs ≡ Some found → IfSome found P
few_within P [] None each is = tt
few_within P [] (Some x) each is = cc
few_within P (x ∷ []) None each is = cc
few_within P (x ∷ []) (Some y) each is = let same : x ≡ y = cc in subst P same each.0
few_within P (x ∷ y ∷ more) found each is = cc

one_within : {A : Type 0} (P : A → Type 0) (xs : List A) (x : A) → Each P xs → exactly_one xs ≡ Some x → P x
one_within P [] x each is = cc
one_within P (y ∷ []) x each is = let same : y ≡ x = cc in subst P same each.0
one_within P (y ∷ z ∷ more) x each is = cc

workers_kept : (item : Item) → ItemWithin item → IfSome (workers_in item) (Within 1 64)
workers_kept (WorkersItem workers) within = within
workers_kept item within = tt

fuel_kept : (item : Item) → ItemWithin item → IfSome (fuel_in item) (Within 1 (2 ^ 62))
fuel_kept (FuelItem fuel) within = within
fuel_kept item within = tt

origin_kept : (item : Item) → ItemWithin item → IfSome (origin_in item) SizeInRange
origin_kept (OriginItem origin) within = within
origin_kept item within = tt

default_within : (least most usual : ℕ) (found : Option ℕ)
    → Within least most usual → IfSome found (Within least most) → Within least most (unwrap_or found usual)
default_within least most usual None within holds = within
default_within least most usual (Some n) within holds = holds

ranged : (a b : Option (Option (List ℕ))) (c d e : Option (Option ℕ)) (f : Option (Option Bool)) (g : Option Origin)
    → ((found : Option ℕ) → d ≡ Some found → IfSome found (Within 1 64))
    → ((found : Option ℕ) → e ≡ Some found → IfSome found (Within 1 (2 ^ 62)))
    → ((origin : Origin) → g ≡ Some origin → SizeInRange origin) → IfSome (made make a b c d e f g) InRange
ranged None b c d e f g h i j = tt
ranged (Some a) None c d e f g h i j = tt
ranged (Some a) (Some b) None d e f g h i j = tt
ranged (Some a) (Some b) (Some c) None e f g h i j = tt
ranged (Some a) (Some b) (Some c) (Some d) None f g h i j = tt
ranged (Some a) (Some b) (Some c) (Some d) (Some e) None g h i j = tt
ranged (Some a) (Some b) (Some c) (Some d) (Some e) (Some f) None h i j = tt
ranged (Some a) (Some b) (Some c) (Some d) (Some e) (Some f) (Some g) h i j =
    let workers = default_within 1 64 1 d (omega arith, omega arith) (h d refl) in
    let fuel = default_within 1 (2 ^ 62) (2 ^ 40) e (omega arith, omega arith) (i e refl) in
    record { some_workers = workers.0; few_workers = workers.1; some_fuel = fuel.0; enough_fuel = fuel.1; size = j g refl }

found_within : (words : List (List ℕ)) (found : Option (List Item)) → items words ≡ found → IfSome (found >>= asked_by) InRange
found_within words None is = tt
found_within words (Some all) is =
    let each = items_within words all (are_items words all is) in
    ranged (at_most_one (filter_map data_in all)) (at_most_one (filter_map replay_in all)) (at_most_one (filter_map seed_in all))
    (at_most_one (filter_map workers_in all)) (at_most_one (filter_map fuel_in all)) (at_most_one (filter_map journal_in all))
    (exactly_one (filter_map origin_in all))
    (λ found one. few_within (Within 1 64) (filter_map workers_in all) found (gathered (Within 1 64) workers_in workers_kept all each) one)
    (λ found one. few_within (Within 1 (2 ^ 62)) (filter_map fuel_in all) found (gathered (Within 1 (2 ^ 62)) fuel_in fuel_kept all each) one)
    (λ origin one. one_within SizeInRange (filter_map origin_in all) origin (gathered SizeInRange origin_in origin_kept all each) one)

answer_within : (answer : Option Words) → IfSome (option_map asked_for answer) InRange → IfSome answer (λ words. InRange (asked_for words))
answer_within None within = tt
answer_within (Some words) within = within

-- what words ask for lies within its limits
pub in_range : (words : List (List ℕ)) (answer : Option Words)
    → option_map asked_for answer ≡ asked words → IfSome answer (λ words. InRange (asked_for words))
in_range words answer is =
    let P : Option Asked → Type 0 = λ found. IfSome found InRange in
    answer_within answer (subst P (sym is) (found_within words (items words) refl))
