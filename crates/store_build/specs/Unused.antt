-- The ids that nothing uses.
use Rattle.std.specs.Prelude.{ℕ, zero, suc, cond, List, [], ◌∷◌}
use Rattle.cbl_base.specs.declared.ids.NodeId.{NodeId}
use Rattle.store_turns.specs.Meaning.{is_empty}

-- the ids below a number that nothing uses, the greatest first
abbrev pub unused_below : (ℕ → List (NodeId × ℕ)) → ℕ → List ℕ
unused_below uses zero = []
unused_below uses (suc n) = cond (is_empty (uses n)) (n ∷ unused_below uses n) (unused_below uses n)
