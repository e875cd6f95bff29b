-- What is still to come, from what is left of each form that was begun.
-- Definitions of this project.
use Rattle.std.specs.Prelude.{ℕ, List, [], ◌∷◌, ◌+◌, map}
use Rattle.comet_syntax.specs.Grammar.Symbols.{Symbol, token, same, deeper, default}
use Rattle.comet_syntax.specs.Derivation.{Item, want, part, push, depth_in}
use Rattle.parse_machine.specs.declared.item.Item.{Item as ItemCode}
use Rattle.parse_machine.specs.declared.item.Item.TheVariants as items
use Rattle.parse_machine.specs.declared.frame.Frame.{Frame}
use Rattle.parse_machine.specs.Parts.{kind_in, part_of, symbol_of}

-- a symbol of a form at this depth
abbrev pub item_at : Symbol → ℕ → Item
item_at (token m k) d = want m k
item_at (same n) d = part n d
item_at (deeper n) d = part n (d + 1)
item_at (default b n) d = part n (depth_in b d)

abbrev pub item_in : ItemCode → Item
item_in (items.Token m k) = want m (kind_in k)
item_in (items.Part n d) = part (part_of n) d

-- what the frames of a stack leave to come, the top frame first
abbrev pub pending : List Frame → List Item
pending [] = []
pending (f ∷ fs) = push (symbol_of f.first ∷ map symbol_of f.behind.now) f.depth (pending fs)
