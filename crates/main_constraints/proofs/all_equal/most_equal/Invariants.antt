use Rattle.std.proofs.Common.{◌≡◌, take}
use Rattle.main_constraints.specs.AllEqual.{most_equal}
use Rattle.main_constraints.proofs.all_equal.most_equal.Given as goal

abbrev pub invariant-loop-number : goal.invariant-loop-number
invariant-loop-number l = record {
  seen : l.seen ≡ take l.number-index l.numbers;
  most : l.most ≡ most_equal (take l.number-index l.numbers);
}
