-- How each sign and each keyword is spelled. From the language.
use Rattle.std.specs.Prelude.{ℕ, ◌%◌, Bool, List, [], ◌∷◌, slice_index_or, codes}
use Rattle.std.specs.Str.{bytes_eq}
use Rattle.std.specs.List.{list_all, list_any}
use Rattle.std.proofs.Common.{Bor}
use Rattle.comet_syntax.specs.declared.token.Word.{Word}
use Rattle.comet_syntax.specs.declared.token.Word.TheVariants as words

abbrev pub spelling : Word → List ℕ
spelling words.LeftParenthesis = codes "("
spelling words.RightParenthesis = codes ")"
spelling words.LeftBrace = codes "{"
spelling words.RightBrace = codes "}"
spelling words.LeftBracket = codes "["
spelling words.RightBracket = codes "]"
spelling words.Comma = codes ","
spelling words.Semicolon = codes ";"
spelling words.Colon = codes ":"
spelling words.Assign = codes ":="
spelling words.Swap = codes ":=:"
spelling words.Arrow = codes "<-"
spelling words.Equal = codes "="
spelling words.EqualEqual = codes "=="
spelling words.NotEqual = codes "!="
spelling words.Less = codes "<"
spelling words.LessEqual = codes "<="
spelling words.Greater = codes ">"
spelling words.GreaterEqual = codes ">="
spelling words.Plus = codes "+"
spelling words.Minus = codes "-"
spelling words.Star = codes "*"
spelling words.Slash = codes "/"
spelling words.Percent = codes "%"
spelling words.PlusPlus = codes "++"
spelling words.MinusMinus = codes "--"
spelling words.PlusEqual = codes "+="
spelling words.MinusEqual = codes "-="
spelling words.Exclamation = codes "!"
spelling words.AndAnd = codes "&&"
spelling words.OrOr = codes "||"
spelling words.LessLess = codes "<<"
spelling words.DotDot = codes ".."
spelling words.Dot = codes "."
spelling words.At = codes "@"
spelling words.Question = codes "?"
spelling words.Import = codes "import"
spelling words.Include = codes "include"
spelling words.Function = codes "function"
spelling words.Void = codes "void"
spelling words.Int = codes "int"
spelling words.Bool = codes "bool"
spelling words.Var = codes "var"
spelling words.Inc = codes "inc"
spelling words.Set = codes "set"
spelling words.Range = codes "range"
spelling words.True = codes "true"
spelling words.False = codes "false"
spelling words.If = codes "if"
spelling words.Else = codes "else"
spelling words.While = codes "while"
spelling words.For = codes "for"
spelling words.ForAll = codes "forall"
spelling words.In = codes "in"
spelling words.Select = codes "select"
spelling words.SelectMin = codes "selectMin"
spelling words.SelectMax = codes "selectMax"
spelling words.Neighbor = codes "neighbor"
spelling words.Whenever = codes "whenever"
spelling words.With = codes "with"
spelling words.Atomic = codes "atomic"
spelling words.Delay = codes "delay"
spelling words.Parall = codes "parall"
spelling words.Return = codes "return"
spelling words.New = codes "new"
spelling words.Cout = codes "cout"
spelling words.Endl = codes "endl"
spelling words.Call = codes "call"
spelling words.Sum = codes "sum"
spelling words.Min = codes "min"
spelling words.Max = codes "max"
spelling words.All = codes "all"
spelling words.And = codes "and"
spelling words.Or = codes "or"
spelling words.SetOf = codes "setof"
spelling words.ArgMin = codes "argMin"
spelling words.ArgMax = codes "argMax"
spelling words.Solver = codes "Solver"
spelling words.LocalSolver = codes "LocalSolver"
spelling words.ConstraintSystem = codes "ConstraintSystem"
spelling words.FunctionExpr = codes "FunctionExpr"
spelling words.FunctionSum = codes "FunctionSum"
spelling words.UniformDistribution = codes "UniformDistribution"
spelling words.InputFile = codes "InputFile"
spelling words.MinNeighborSelector = codes "MinNeighborSelector"
spelling words.BestMonitor = codes "BestMonitor"
spelling words.Solution = codes "Solution"

-- each word of a table stands behind its own spelling
abbrev pub are_spelled_so : List (Bor (List ℕ) × Word) → Bool
are_spelled_so table = list_all (λ entry. bytes_eq entry.0.now (spelling entry.1)) table

-- a table has a spelling
abbrev pub has_spelling : List (Bor (List ℕ) × Word) → List ℕ → Bool
has_spelling table bytes = list_any (λ entry. bytes_eq entry.0.now bytes) table

-- the row of a table for a text, which goes by the remainder of its first byte by 32
abbrev pub row_for : List (Bor (List (Bor (List ℕ) × Word))) → List ℕ → List (Bor (List ℕ) × Word)
row_for rows [] = []
row_for rows (byte ∷ bytes) = (slice_index_or rows (byte % 32) (record { ref_ptr = (0, 0); now = [] })).now
