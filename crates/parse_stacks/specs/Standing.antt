-- What stands on the stacks, read against the items that are still to come behind what was undone: a listing is a text of the items, and its values stand on the stacks, in order.
-- Definitions of this project.
use Rattle.std.specs.Prelude.{ℕ, ℤ, zero, suc, Bool, true, false, List, [], ◌∷◌, ◌≡◌}
use Rattle.cbl_base.specs.declared.place.Place.{Place}
use Rattle.comet_syntax.specs.declared.token.TokenKind.TheVariants as kinds
use Rattle.comet_syntax.specs.declared.token.Word.{Word}
use Rattle.comet_syntax.specs.declared.token.Word.TheVariants as words
use Rattle.comet_syntax.specs.Grammar.Kinds.{Kind, a_name, a_number, a_string, numbered_word, kind_of, one_of}
use Rattle.comet_syntax.specs.Grammar.First.{first}
use Rattle.comet_syntax.specs.Grammar.Symbols.{Part, Symbol, token, same, deeper, default}
use Rattle.comet_syntax.specs.Derivation.{Item, want, part}
use Rattle.comet_syntax.specs.Written.Shown.{Shown, plain, placed, form, Grows, name}
use Rattle.comet_syntax.specs.Written.Expressions.{written, number}
use Rattle.parse_stacks.specs.Texts.{text, Level, number_text}
use Rattle.parse_stacks.specs.Undoing.{Kept, Values, TakesToken, TakesPart}
use Rattle.parse_stacks.specs.Values.{State, Value}

-- the signs and keywords by their numbers
abbrev pub all_words : List Word
all_words =
    words.LeftParenthesis ∷ words.RightParenthesis ∷ words.LeftBrace ∷ words.RightBrace ∷ words.LeftBracket ∷ words.RightBracket ∷ words.Comma ∷ words.Semicolon ∷
    words.Colon ∷ words.Assign ∷ words.Swap ∷ words.Arrow ∷ words.Equal ∷ words.EqualEqual ∷ words.NotEqual ∷ words.Less ∷
    words.LessEqual ∷ words.Greater ∷ words.GreaterEqual ∷ words.Plus ∷ words.Minus ∷ words.Star ∷ words.Slash ∷ words.Percent ∷
    words.PlusPlus ∷ words.MinusMinus ∷ words.PlusEqual ∷ words.MinusEqual ∷ words.Exclamation ∷ words.AndAnd ∷ words.OrOr ∷ words.LessLess ∷
    words.DotDot ∷ words.Dot ∷ words.At ∷ words.Question ∷ words.Import ∷ words.Include ∷ words.Function ∷ words.Void ∷
    words.Int ∷ words.Bool ∷ words.Var ∷ words.Inc ∷ words.Set ∷ words.Range ∷ words.True ∷ words.False ∷
    words.If ∷ words.Else ∷ words.While ∷ words.For ∷ words.ForAll ∷ words.In ∷ words.Select ∷ words.SelectMin ∷
    words.SelectMax ∷ words.Neighbor ∷ words.Whenever ∷ words.With ∷ words.Atomic ∷ words.Delay ∷ words.Parall ∷ words.Return ∷
    words.New ∷ words.Cout ∷ words.Endl ∷ words.Call ∷ words.Sum ∷ words.Min ∷ words.Max ∷ words.All ∷
    words.And ∷ words.Or ∷ words.SetOf ∷ words.ArgMin ∷ words.ArgMax ∷ words.Solver ∷ words.LocalSolver ∷ words.ConstraintSystem ∷
    words.FunctionExpr ∷ words.FunctionSum ∷ words.UniformDistribution ∷ words.InputFile ∷ words.MinNeighborSelector ∷ words.BestMonitor ∷ words.Solution ∷ []

abbrev pub nth_word : List Word → ℕ → Word
nth_word [] n = words.LeftParenthesis
nth_word (w ∷ ws) zero = w
nth_word (w ∷ ws) (suc n) = nth_word ws n

abbrev pub word_numbered : ℕ → Word
word_numbered n = nth_word all_words n

-- a token, as it is written
abbrev pub token_text : (m : Bool) (k : Kind) → Kept m k → Grows
token_text true (numbered_word w) p = λ behind. placed (kinds.Word (word_numbered w)) p ∷ behind
token_text false (numbered_word w) u = λ behind. plain (kinds.Word (word_numbered w)) ∷ behind
token_text m a_name n = name n
token_text m a_number e = number_text (written e)
token_text m a_string t = λ behind. plain (kinds.Str t) ∷ behind

abbrev pub TokenLevel : (m : Bool) (k : Kind) → Kept m k → Type 0
TokenLevel m a_number e = (v : ℤ) × (p : Place) × (written e ≡ number v p)
TokenLevel m k x = Unit {0}

abbrev pub Stands : List Item → State → List Shown → Type 0
Stands [] st L = L ≡ []
Stands (want m k ∷ items) st L = TakesToken m k st (λ x b. (rest : List Shown) × (L ≡ token_text m k x rest) × TokenLevel m k x × Stands items b rest)
Stands (part n d ∷ items) st L = TakesPart n st (λ x b. (rest : List Shown) × (L ≡ text n x rest) × Level n x × Stands items b rest)

-- the values of symbols, as they are written
abbrev pub texts : (body : List Symbol) → Values body → Grows
texts [] v = λ behind. behind
texts (token m k ∷ body) v = λ behind. token_text m k v.0 (texts body v.1 behind)
texts (same n ∷ body) v = λ behind. text n v.0 (texts body v.1 behind)
texts (deeper n ∷ body) v = λ behind. text n v.0 (texts body v.1 behind)
texts (default b n ∷ body) v = λ behind. text n v.0 (texts body v.1 behind)

abbrev pub Levels : (body : List Symbol) → Values body → Type 0
Levels [] v = Unit {0}
Levels (token m k ∷ body) v = TokenLevel m k v.0 × Levels body v.1
Levels (same n ∷ body) v = Level n v.0 × Levels body v.1
Levels (deeper n ∷ body) v = Level n v.0 × Levels body v.1
Levels (default b n ∷ body) v = Level n v.0 × Levels body v.1

-- what is made of the values of a form is written as the form and its values
abbrev pub Fits : (n : Part) (body : List Symbol) → (Values body → Value n → Type 0) → Type 0
Fits n body Made = (v : Values body) (x : Value n) → Levels body v → Made v x → Level n x × ((behind : List Shown) → form n body ∷ texts body v behind ≡ text n x behind)

-- whether the next token of a listing is of one of these kinds
abbrev pub next_shown : List Kind → List Shown → Bool
next_shown ks [] = false
next_shown ks (form n body ∷ L) = next_shown ks L
next_shown ks (plain k ∷ L) = one_of ks (kind_of k)
next_shown ks (placed k place ∷ L) = one_of ks (kind_of k)

-- a part is left out, or has its form for all other tokens, only where the next token begins no other form
abbrev pub MayStand : Part → List Symbol → List Shown → Type 0
MayStand n [] L = next_shown (first n) L ≡ false
MayStand n (default b m ∷ body) L = next_shown (first n) L ≡ false
MayStand n _ L = Unit {0}

-- the same as `Fits`, of listings in which the form may stand
abbrev pub FitsThere : (n : Part) (body : List Symbol) → (Values body → Value n → Type 0) → Type 0
FitsThere n body Made = (v : Values body) (x : Value n) → Levels body v → Made v x → (behind : List Shown) → MayStand n body (texts body v behind)
    → Level n x × (form n body ∷ texts body v behind ≡ text n x behind)
