-- A name is a word that is no keyword of the language. `LS` and `close` are names. A rule of this
-- project.
use Rattle.std.specs.Prelude.{Bool, not, ◌&&◌, ℕ, List, [], ◌∷◌, codes}
use Rattle.std.specs.List.{list_any}
use Rattle.std.specs.Str.{bytes_eq}
use Rattle.comet_syntax.specs.Lexeme.{is_word}

abbrev pub keywords : List (List ℕ)
keywords = codes "import" ∷ codes "include" ∷ codes "function" ∷ codes "void" ∷ codes "int" ∷ codes "bool"
    ∷ codes "var" ∷ codes "inc" ∷ codes "set" ∷ codes "range" ∷ codes "true" ∷ codes "false" ∷ codes "if"
    ∷ codes "else" ∷ codes "while" ∷ codes "for" ∷ codes "forall" ∷ codes "in" ∷ codes "select"
    ∷ codes "selectMin" ∷ codes "selectMax" ∷ codes "neighbor" ∷ codes "whenever" ∷ codes "with"
    ∷ codes "atomic" ∷ codes "delay" ∷ codes "parall" ∷ codes "return" ∷ codes "new" ∷ codes "cout"
    ∷ codes "endl" ∷ codes "call" ∷ codes "sum" ∷ codes "min" ∷ codes "max" ∷ codes "all" ∷ codes "and"
    ∷ codes "or" ∷ codes "setof" ∷ codes "argMin" ∷ codes "argMax" ∷ codes "Solver" ∷ codes "LocalSolver"
    ∷ codes "ConstraintSystem" ∷ codes "FunctionExpr" ∷ codes "FunctionSum" ∷ codes "UniformDistribution"
    ∷ codes "InputFile" ∷ codes "MinNeighborSelector" ∷ codes "BestMonitor" ∷ codes "Solution" ∷ []

unfoldable pub is_keyword : List ℕ → Bool
is_keyword w = list_any (λ keyword. bytes_eq keyword w) keywords

abbrev pub is_name : List ℕ → Bool
is_name w = is_word w && not (is_keyword w)
