-- What the nodes of queens compute, of how many numbers, and over which lists. A rule of this project.
use Rattle.std.specs.Prelude.{◌≡◌, ◌==◌, ℕ, ℤ, ◌+◌, ◌<◌, Bool, true, nat_lt, nat_le, ◌&&◌, List, length, take, Vec, Some, slice_get}
use Rattle.std.specs.List.{list_all}
use Rattle.std.specs.declared.alloc.Global.{Global}
use Rattle.cbl_base.specs.NodeLaw.{Rule}
use Rattle.cbl_base.specs.NumberRule.{NumberRule, rule_of_numbers}
use Rattle.cbl_base.specs.declared.ids.VarId.{VarId}
use Rattle.cbl_violations.specs.Violations.AllDifferent.{all_different}
use Rattle.cbl_operations.specs.Binary.{rule_of_binary}
use Rattle.cbl_operations.specs.Operations.Sum.{sum}
use Rattle.cbl_operations.specs.declared.binary.BinaryOp.TheVariants.{Add, Sub}
use Rattle.node_base.specs.declared.over_numbers.OverNumbers.{OverNumbers}
use Rattle.store_turns.specs.Meaning.{Graph}
use Rattle.store_build.specs.Lists.{list_in}
use Rattle.inc_store.specs.Moves.{AreMoves}
use Rattle.bench.specs.declared.store.parts.Part.{Part}
use Rattle.bench.specs.declared.store.parts.Part.TheVariants.{Plus, Minus, AllDifferent as Differing, Total}
use Rattle.bench.specs.declared.store.pieces.Piece.{Piece}
use Rattle.bench.specs.declared.store.pieces.Piece.TheVariants.{Binary, AllDifferent, Sum}

abbrev pub rule_of_part : Part → Rule
rule_of_part Plus = rule_of_numbers (rule_of_binary Add)
rule_of_part Minus = rule_of_numbers (rule_of_binary Sub)
rule_of_part Differing = rule_of_numbers all_different
rule_of_part Total = rule_of_numbers sum

-- what a node computes
abbrev pub rule_of_piece : Piece → NumberRule
rule_of_piece (Binary s) = rule_of_binary s.operation
rule_of_piece (AllDifferent s) = all_different
rule_of_piece (Sum s) = sum

abbrev pub rule_of_node : OverNumbers Piece → Rule
rule_of_node s = rule_of_numbers (rule_of_piece s.node)

-- whether a part takes so many numbers
abbrev pub taken_by : Part → ℕ → Bool
taken_by Plus n = n == 2
taken_by Minus n = n == 2
taken_by Differing n = true
taken_by Total n = true

abbrev pub is_below : ℕ → ℕ → Bool
is_below count id = nat_lt id count

-- whether a list isn't long, and each id in it is there; and whether it is empty
abbrev pub is_list : ℕ → List ℕ → Bool
is_list count list = nat_le (length list) 10000000 && list_all (is_below count) list

abbrev pub is_none : List ℕ → Bool
is_none list = length list == 0

-- each part takes as many numbers as its list has ids
abbrev pub AreTaken : List Part → List (Vec ℕ Global) → ℕ → Type 0
AreTaken parts lists cells = (k : ℕ) (part : Part) → slice_get parts k ≡ Some part → taken_by part (length (list_in lists (cells + k))) ≡ true

-- the lists are those of so many free cells and of these parts
pub record AreLists (lists : List (Vec ℕ Global)) (cells : ℕ) (parts : List Part) : Type 0 where
  pub few : length lists < 4294967296
  pub count : cells + length parts ≡ length lists
  pub within : list_all (λ (v : Vec ℕ Global). is_list (length lists) v.items) lists ≡ true
  pub free : list_all (λ (v : Vec ℕ Global). is_none v.items) (take cells lists) ≡ true
  pub taken : AreTaken parts lists cells

-- the first cells are free; and moves of them, wherever they are
abbrev pub FreeBelow : ℕ → Graph → Type 0
FreeBelow n g = (id : ℕ) → id < n → (id < g.size) × (g.is_free id ≡ true)

abbrev pub AreMovesBelow : ℕ → List (VarId × ℤ) → Type 0
AreMovesBelow n ms = (g : Graph) → FreeBelow n g → AreMoves g ms
