-- What the first word says, in front of the words behind it.
use Rattle.std.specs.Prelude.{◌≡◌, ◌<◌, ◌≤◌, ℕ, Bool, true, false, List, [], ◌∷◌, Some, None, length, find, bytes_eq, String, string_bytes, slice_index_or, refl, if◌then◌else◌}
use Rattle.std.proofs.Common.{arith, sym, subst}
use Rattle.std.proofs.lemmas.Slice.Eq.{bytes_eq-Decides}
use Rattle.comet_words.specs.declared.setting.Setting.{Setting}
use Rattle.comet_words.specs.declared.setting.Setting.TheVariants.{Data, Replay, Seed, Workers, Fuel, Generate}
use Rattle.comet_words.specs.Options.{setting_named, settings, spelling}
use Rattle.comet_words.specs.Items.{alone, items}
use Rattle.comet_words.specs.View.{texts}

pub some_same : {A : Type 0} (x y : A) → Some x ≡ Some y → x ≡ y
some_same x y same = cc

-- what a search finds passes its test
found_passes : {A : Type 0} (p : A → Bool) (xs : List A) (x : A) → find p xs ≡ Some x → p x ≡ true
found_passes p [] x is = cc
found_passes p (y ∷ ys) x is = at_first (p y) refl is (found_passes p ys x) where
  at_first : (b : Bool) → p y ≡ b → (if b then Some y else find p ys) ≡ Some x → (find p ys ≡ Some x → p x ≡ true) → p x ≡ true
  at_first true passes found later = subst (λ z. p z ≡ true) (some_same y x found) passes
  at_first false fails found later = later found

named_spelling : (word : List ℕ) (setting : Setting) → setting_named word ≡ Some setting → word ≡ spelling setting
named_spelling word setting named =
    (bytes_eq-Decides word (spelling setting)).0 (found_passes (λ setting. bytes_eq word (spelling setting)) settings setting named)

spelling_alone : (setting : Setting) → alone (spelling setting) ≡ None
spelling_alone Data = refl
spelling_alone Replay = refl
spelling_alone Seed = refl
spelling_alone Workers = refl
spelling_alone Fuel = refl
spelling_alone Generate = refl

-- an option without a value says nothing
pub option_alone : (word : List ℕ) (setting : Setting) → setting_named word ≡ Some setting → alone word ≡ None
option_alone word setting named = subst (λ w. alone w ≡ None) (sym (named_spelling word setting named)) (spelling_alone setting)

-- words that end with an option without a value aren't items
pub lone_option : {A : Type 0} (words : List (String A)) (word : String A) (setting : Setting) → 0 < length words → length words ≤ 1
    → word ≡ slice_index_or words 0 word → setting_named (string_bytes word) ≡ Some setting → items (texts words) ≡ None
lone_option [] word setting some few at named = absurd (omega arith)
lone_option (x ∷ []) word setting some few at named =
    rw (option_alone (string_bytes x) setting (subst (λ w. setting_named (string_bytes w) ≡ Some setting) at named)) refl
lone_option (x ∷ y ∷ more) word setting some few at named = absurd (omega arith)
