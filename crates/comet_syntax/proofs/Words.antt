-- Signs and keywords by their spelling.
use Rattle.std.specs.Prelude.{◌≡◌, ◌<◌, ◌+◌, ℕ, Bool, true, false, not, ◌&&◌, ◌||◌, List, [], ◌∷◌, length, map, drop, slice_index_or, Option, Some, None, IfSome, IfNone, is_some, if◌then◌else◌, refl}
use Rattle.std.specs.List.{find, list_all, list_any}
use Rattle.std.specs.Str.{bytes_eq}
use Rattle.std.proofs.Common.{arith, ap, sym, ◌∙◌, subst, inl, inr, add-one, Bor}
use Rattle.std.proofs.Math.Seq.{drop-cons}
use Rattle.std.proofs.lemmas.Slice.Eq.{bytes_eq-Decides}
use Rattle.comet_syntax.specs.declared.token.Word.{Word}
use Rattle.comet_syntax.specs.declared.token.Word.TheVariants as words
use Rattle.comet_syntax.specs.Word.{spelling, are_spelled_so, has_spelling, row_for}
use Rattle.comet_syntax.specs.Lexeme.{is_letter, is_word_byte, is_number, is_sign, signs, IsLexeme, a_word, a_number, a_sign}
use Rattle.comet_syntax.specs.Name.{is_name, is_keyword, keywords}
use Rattle.comet_syntax.proofs.Lexing.{and_left, and_right, or_cases, or_left, among_passes, clash, not_false, sign_begins}

-- an entry that stands behind this text stands behind its own spelling
pub entry_spelled : (table : List (Bor (List ℕ) × Word)) (i : ℕ) (d : Bor (List ℕ) × Word) (shown bytes : List ℕ) → i < length table → are_spelled_so (drop i table) ≡ true
    → shown ≡ (slice_index_or table i d).0.now → bytes_eq shown bytes ≡ true → bytes ≡ spelling (slice_index_or table i d).1
entry_spelled table i d shown bytes low right e h =
    let entry : (Bor (List ℕ) × Word) = slice_index_or table i d in
    let all : (bytes_eq entry.0.now (spelling entry.1) && are_spelled_so (drop (i + 1) table)) ≡ true = sym (ap are_spelled_so (drop_step table i d low)) ∙ right in
    let here : entry.0.now ≡ spelling entry.1 = (bytes_eq-Decides entry.0.now (spelling entry.1)).0 (and_left _ _ all) in
    sym ((bytes_eq-Decides shown bytes).0 h) ∙ e ∙ here
  where
    drop_step : (xs : List (Bor (List ℕ) × Word)) (n : ℕ) (x : Bor (List ℕ) × Word) → n < length xs → drop n xs ≡ slice_index_or xs n x ∷ drop (n + 1) xs
    drop_step xs n x l = rw (add-one, drop-cons xs n x) refl

-- every word
abbrev pub all_words : List Word
all_words = words.LeftParenthesis ∷ words.RightParenthesis ∷ words.LeftBrace ∷ words.RightBrace ∷ words.LeftBracket ∷ words.RightBracket ∷ words.Comma ∷ words.Semicolon ∷ words.Colon ∷ words.Assign ∷ words.Swap ∷ words.Arrow ∷ words.Equal ∷ words.EqualEqual ∷ words.NotEqual ∷ words.Less ∷ words.LessEqual ∷ words.Greater ∷ words.GreaterEqual ∷ words.Plus ∷ words.Minus ∷ words.Star ∷ words.Slash ∷ words.Percent ∷ words.PlusPlus ∷ words.MinusMinus ∷ words.PlusEqual ∷ words.MinusEqual ∷ words.Exclamation ∷ words.AndAnd ∷ words.OrOr ∷ words.LessLess ∷ words.DotDot ∷ words.Dot ∷ words.At ∷ words.Question ∷ words.Import ∷ words.Include ∷ words.Function ∷ words.Void ∷ words.Int ∷ words.Bool ∷ words.Var ∷ words.Inc ∷ words.Set ∷ words.Range ∷ words.True ∷ words.False ∷ words.If ∷ words.Else ∷ words.While ∷ words.For ∷ words.ForAll ∷ words.In ∷ words.Select ∷ words.SelectMin ∷ words.SelectMax ∷ words.Neighbor ∷ words.Whenever ∷ words.With ∷ words.Atomic ∷ words.Delay ∷ words.Parall ∷ words.Return ∷ words.New ∷ words.Cout ∷ words.Endl ∷ words.Call ∷ words.Sum ∷ words.Min ∷ words.Max ∷ words.All ∷ words.And ∷ words.Or ∷ words.SetOf ∷ words.ArgMin ∷ words.ArgMax ∷ words.Solver ∷ words.LocalSolver ∷ words.ConstraintSystem ∷ words.FunctionExpr ∷ words.FunctionSum ∷ words.UniformDistribution ∷ words.InputFile ∷ words.MinNeighborSelector ∷ words.BestMonitor ∷ words.Solution ∷ []

found_word : (word : Word) → find (λ x. bytes_eq (spelling x) (spelling word)) all_words ≡ Some word
found_word words.LeftParenthesis = refl
found_word words.RightParenthesis = refl
found_word words.LeftBrace = refl
found_word words.RightBrace = refl
found_word words.LeftBracket = refl
found_word words.RightBracket = refl
found_word words.Comma = refl
found_word words.Semicolon = refl
found_word words.Colon = refl
found_word words.Assign = refl
found_word words.Swap = refl
found_word words.Arrow = refl
found_word words.Equal = refl
found_word words.EqualEqual = refl
found_word words.NotEqual = refl
found_word words.Less = refl
found_word words.LessEqual = refl
found_word words.Greater = refl
found_word words.GreaterEqual = refl
found_word words.Plus = refl
found_word words.Minus = refl
found_word words.Star = refl
found_word words.Slash = refl
found_word words.Percent = refl
found_word words.PlusPlus = refl
found_word words.MinusMinus = refl
found_word words.PlusEqual = refl
found_word words.MinusEqual = refl
found_word words.Exclamation = refl
found_word words.AndAnd = refl
found_word words.OrOr = refl
found_word words.LessLess = refl
found_word words.DotDot = refl
found_word words.Dot = refl
found_word words.At = refl
found_word words.Question = refl
found_word words.Import = refl
found_word words.Include = refl
found_word words.Function = refl
found_word words.Void = refl
found_word words.Int = refl
found_word words.Bool = refl
found_word words.Var = refl
found_word words.Inc = refl
found_word words.Set = refl
found_word words.Range = refl
found_word words.True = refl
found_word words.False = refl
found_word words.If = refl
found_word words.Else = refl
found_word words.While = refl
found_word words.For = refl
found_word words.ForAll = refl
found_word words.In = refl
found_word words.Select = refl
found_word words.SelectMin = refl
found_word words.SelectMax = refl
found_word words.Neighbor = refl
found_word words.Whenever = refl
found_word words.With = refl
found_word words.Atomic = refl
found_word words.Delay = refl
found_word words.Parall = refl
found_word words.Return = refl
found_word words.New = refl
found_word words.Cout = refl
found_word words.Endl = refl
found_word words.Call = refl
found_word words.Sum = refl
found_word words.Min = refl
found_word words.Max = refl
found_word words.All = refl
found_word words.And = refl
found_word words.Or = refl
found_word words.SetOf = refl
found_word words.ArgMin = refl
found_word words.ArgMax = refl
found_word words.Solver = refl
found_word words.LocalSolver = refl
found_word words.ConstraintSystem = refl
found_word words.FunctionExpr = refl
found_word words.FunctionSum = refl
found_word words.UniformDistribution = refl
found_word words.InputFile = refl
found_word words.MinNeighborSelector = refl
found_word words.BestMonitor = refl
found_word words.Solution = refl

-- what is found passes a test that every element passes
found_passes : {X : Type 0} (p q : X → Bool) (xs : List X) (x : X) → find p xs ≡ Some x → list_all q xs ≡ true → q x ≡ true
found_passes p q [] x e h = absurd (cc)
found_passes p q (y ∷ ys) x e h = elim (p y) as (λ b. (if b then Some y else find p ys) ≡ Some x → q x ≡ true) [
  | true ↦ λ f. subst (λ z. q z ≡ true) (same_some f) (and_left _ _ h)
  | false ↦ λ f. found_passes p q ys x f (and_right (q y) _ h)
] e
  where
    same_some : {A : Type 0} {a b : A} → Some a ≡ Some b → a ≡ b
    same_some f = cc

-- what holds of every word of the list holds of every word
pub of_every_word : (q : Word → Bool) → list_all q all_words ≡ true → (word : Word) → q word ≡ true
of_every_word q h word = found_passes (λ x. bytes_eq (spelling x) (spelling word)) q all_words word (found_word word) h

-- no two words are spelled alike
pub spelled_one_way : (x y : Word) → spelling x ≡ spelling y → x ≡ y
spelled_one_way x y e = same_some (sym (found_word x) ∙ ap (λ w. find (λ z. bytes_eq (spelling z) w) all_words) e ∙ found_word y)
  where
    same_some : {A : Type 0} {a b : A} → Some a ≡ Some b → a ≡ b
    same_some f = cc

abbrev pub is_spelled : List ℕ → Bool
is_spelled bytes = list_any (λ spelled. bytes_eq spelled bytes) (map spelling all_words)

-- what a text's row doesn't have is the spelling of no word, where each word's row has its spelling
pub spelled_in_no_row : (rows : List (Bor (List (Bor (List ℕ) × Word)))) (bytes : List ℕ) (found : Option Word) → ((word : Word) → has_spelling (row_for rows (spelling word)) (spelling word) ≡ true)
    → IfNone found (has_spelling (row_for rows bytes) bytes ≡ false) → IfNone found ((word : Word) → bytes ≡ spelling word → ⊥)
spelled_in_no_row rows bytes (Some word) all h = tt
spelled_in_no_row rows bytes None all h = λ word e. clash _ (all word) (subst (λ b. has_spelling (row_for rows b) b ≡ false) e h)

-- what is among all spellings is the spelling of a word
spelled_among : (ws : List Word) (bytes : List ℕ) → list_any (λ spelled. bytes_eq spelled bytes) (map spelling ws) ≡ true → (word : Word) × (bytes ≡ spelling word)
spelled_among [] bytes h = absurd (cc)
spelled_among (w ∷ ws) bytes h = elim (or_cases (bytes_eq (spelling w) bytes) _ h) [
  | inl e ↦ (w, sym ((bytes_eq-Decides (spelling w) bytes).0 e))
  | inr e ↦ spelled_among ws bytes e
]

pub sign_is_word : (bytes : List ℕ) → is_sign bytes ≡ true → (word : Word) × (bytes ≡ spelling word)
unfolding is_sign
sign_is_word bytes h = spelled_among all_words bytes (among_passes is_spelled signs bytes h refl)

abbrev begins_with_letter : List ℕ → Bool
begins_with_letter [] = false
begins_with_letter (c ∷ cs) = is_letter c

-- a word is a sign where it doesn't begin with a letter
sign_or_letter : (word : Word) → (begins_with_letter (spelling word) || is_sign (spelling word)) ≡ true
unfolding is_sign
sign_or_letter word = of_every_word (λ x. begins_with_letter (spelling x) || is_sign (spelling x)) refl word

pub sign_is_found : {bytes cs : List ℕ} {c : ℕ} (found : Option Word) → bytes ≡ c ∷ cs → is_letter c ≡ false
    → IfSome found (λ word. bytes ≡ spelling word) → IfNone found ((word : Word) → bytes ≡ spelling word → ⊥) → is_some found ≡ is_sign bytes
sign_is_found {bytes} {cs} {c} (Some word) e no_letter some none = elim (or_cases (begins_with_letter (spelling word)) _ (sign_or_letter word)) [
  | inl letter ↦ absurd (clash (is_letter c) (subst (λ z. begins_with_letter z ≡ true) (sym some ∙ e) letter) no_letter)
  | inr sign ↦ sym (ap is_sign some ∙ sign)
]
sign_is_found {bytes} None e no_letter some none = elim (is_sign bytes) as (λ b. is_sign bytes ≡ b → false ≡ b) [
  | true ↦ λ sign. absurd (none (sign_is_word bytes sign).0 (sign_is_word bytes sign).1)
  | false ↦ λ sign. refl
] refl

-- what begins with a letter, and what is empty, is no sign
pub letter_no_sign : {bytes cs : List ℕ} {c : ℕ} → bytes ≡ c ∷ cs → is_letter c ≡ true → false ≡ is_sign bytes
letter_no_sign {bytes} {cs} {c} e letter = elim (is_sign bytes) as (λ b. is_sign bytes ≡ b → false ≡ b) [
  | true ↦ λ sign. absurd (clash (is_word_byte c) (or_left _ _ letter) (not_false (is_word_byte c) (and_left _ _ (sign_begins (c ∷ cs) (sym (ap is_sign e) ∙ sign)))))
  | false ↦ λ sign. refl
] refl

pub empty_no_sign : (bytes : List ℕ) → length bytes ≡ 0 → false ≡ is_sign bytes
unfolding is_sign
empty_no_sign [] e = refl
empty_no_sign (c ∷ cs) e = absurd (omega (arith, e))

pub keyword_is_word : (bytes : List ℕ) → is_keyword bytes ≡ true → (word : Word) × (bytes ≡ spelling word)
unfolding is_keyword
keyword_is_word bytes h = spelled_among all_words bytes (among_passes is_spelled keywords bytes h refl)

-- no word is a name or a number
pub word_is_no_name : (word : Word) → not (is_name (spelling word)) ≡ true
unfolding is_keyword
word_is_no_name word = of_every_word (λ x. not (is_name (spelling x))) refl word

pub word_is_no_number : (word : Word) → not (is_number (spelling word)) ≡ true
word_is_no_number word = of_every_word (λ x. not (is_number (spelling x))) refl word

-- a lexeme that is neither a number nor a word is a name
pub else_a_name : (bytes : List ℕ) → IsLexeme bytes → is_number bytes ≡ false → ((word : Word) → bytes ≡ spelling word → ⊥) → is_name bytes ≡ true
else_a_name bytes (a_number h) e none = absurd (clash _ h e)
else_a_name bytes (a_sign h) e none = absurd (none (sign_is_word bytes h).0 (sign_is_word bytes h).1)
else_a_name bytes (a_word h) e none = elim (is_keyword bytes) as (λ b. is_keyword bytes ≡ b → is_name bytes ≡ true) [
  | true ↦ λ k. absurd (none (keyword_is_word bytes k).0 (keyword_is_word bytes k).1)
  | false ↦ λ k. rw (h, k) refl
] refl
