use Rattle.std.proofs.Common.{◌≡◌, take, w64}
use Rattle.std.specs.Prelude.{All, FitsSigned}
use Rattle.cbl_base.specs.Totals.{total}
use Rattle.node_num.proofs.sum.total_of.Given as goal

abbrev pub invariant-loop-x : goal.invariant-loop-x
invariant-loop-x l =
    record {
      total : l.sum.value ≡ total (take l.x-index l.numbers);
      each : All (λ x. FitsSigned w64 x) (take l.x-index l.numbers);
    }
