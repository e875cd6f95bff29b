-- The moves of a list of one or two.
use Rattle.std.specs.Prelude.{ℤ, List, take}
use Rattle.cbl_base.specs.declared.ids.VarId.{VarId}
use Rattle.bench.specs.declared.store.one_list.Moves.{Moves}

-- as many of the pair as there are
abbrev pub moves_in : Moves → List (VarId × ℤ)
moves_in m = take m.count m.pair
