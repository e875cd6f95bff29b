-- What a row of the table says, and which rows the grammar has for a part.
-- Definitions of this project.
use Rattle.std.specs.Prelude.{List, [], ◌∷◌, ◌++◌, map}
use Rattle.comet_syntax.specs.Grammar.Heads.{heads}
use Rattle.comet_syntax.specs.Grammar.Kinds.{Kind}
use Rattle.comet_syntax.specs.Grammar.Symbols.{Part, Symbol}
use Rattle.parse_machine.specs.declared.grammar.Row.{Row}
use Rattle.parse_machine.specs.Forms.{part_in, body_in}
use Rattle.parse_machine.specs.Parts.{kind_in, symbol_of}

-- a form of a part: its symbols, as its name says and as they are listed, and the kinds of token that it begins with
pub record Production : Type 0 where
  pub of : Part
  pub stated : List Symbol
  pub body : List Symbol
  pub on : List Kind

abbrev pub row_of : Row → Production
row_of r = record { of = part_in r.form; stated = body_in r.form; body = map symbol_of r.symbols.now; on = map kind_in r.on.now }

abbrev pub production : Part → List Symbol → Production
production n b = record { of = n; stated = b; body = b; on = heads b }

-- the empty form, which the grammar names first, comes last
abbrev pub late : List (List Symbol) → List (List Symbol)
late [] = []
late ([] ∷ bs) = bs ++ ([] ∷ [])
late ((x ∷ b) ∷ bs) = (x ∷ b) ∷ bs
