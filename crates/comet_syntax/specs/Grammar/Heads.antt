-- The kinds of token that a form begins with: that of its first token, or those of the part that it begins with. An empty form, and one for all other tokens, begins with none.
-- A rule of this project.
use Rattle.std.specs.Prelude.{Bool, true, List, [], ◌∷◌, ◌++◌, ◌&&◌}
use Rattle.comet_syntax.specs.Grammar.Kinds.{Kind, one_of}
use Rattle.comet_syntax.specs.Grammar.Symbols.{Symbol, token, same, deeper, default}
use Rattle.comet_syntax.specs.Grammar.First.{first}

abbrev pub heads : List Symbol → List Kind
heads [] = []
heads (token m k ∷ body) = k ∷ []
heads (same m ∷ body) = first m
heads (default c m ∷ body) = []
heads (deeper m ∷ body) = first m

-- those of any of the forms
abbrev pub flat_heads : List (List Symbol) → List Kind
flat_heads [] = []
flat_heads (b ∷ bs) = heads b ++ flat_heads bs

-- whether each of these kinds is one of those
abbrev pub within : List Kind → List Kind → Bool
within [] js = true
within (k ∷ ks) js = one_of js k && within ks js
