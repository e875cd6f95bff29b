-- The statements of a block are one `return` of an expression where there is one statement and it returns one. From
-- the language.
use Rattle.std.specs.Prelude.{List, [], ◌∷◌, Option, None}
use Rattle.checked_tree.specs.Shape.{Seen}
use Rattle.checked_tree.specs.Actions as deeds
use Rattle.checked_tree.specs.Tasks as works
use Rattle.checked_tree.specs.Tasks.{Work}

-- the expression that a statement returns
abbrev pub returned_in : Work → Option Seen
returned_in (works.task at (works.action (deeds.returning e))) = e
returned_in w = None

-- the expression that the statements of a block return
abbrev pub returned_of : List Work → Option Seen
returned_of (w ∷ []) = returned_in w
returned_of ws = None
