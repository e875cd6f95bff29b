use Rattle.std.specs.Prelude.{◌≡◌, drop, map}
use Rattle.parse_machine.specs.Choosing.{picked}
use Rattle.parse_machine.specs.Rows.{row_of}
use Rattle.parse_machine.proofs.choice.pick.Given as goal

-- what is picked of all is what is picked of those that are left
abbrev pub invariant-loop-row : goal.invariant-loop-row
invariant-loop-row l = picked (map row_of l.all) l.tokens ≡ picked (map row_of (drop l.row-index l.all)) l.tokens
