use Rattle.std.proofs.Common.{refl, rules, ℤ, w64, FitsSigned}
use Rattle.std.proofs.lemmas.Int.{to_z-of_z}
use Rattle.run_objects.specs.OfRunState.Acts.{indexed_twice}
use Rattle.run_values.specs.Views.{value_seen}
use Rattle.run_steps.proofs.Behind.{err_passes, ok_acts}
use Rattle.run_steps.proofs.Goes.{goes_indexed_twice}
use Rattle.run_steps.proofs.operands.index_grid.Goals as goal

pub returns-in-Err : goal.returns-in-Err
returns-in-Err c = record { did = λ printed. err_passes (λ (z : ℤ). z) c.args.column c.in-Err.stop _ (indexed_twice c.args.at (value_seen c.args.grid.now) c.args.row) c.in-Err.is (λ z. goes_indexed_twice _ _ _ z) }

pub returns-in-Ok : goal.returns-in-Ok
returns-in-Ok c = record { did = λ printed. let f : FitsSigned w64 c.in-Ok.column = search rules in ok_acts (λ (z : ℤ). z) value_seen c.args.column c.in-Ok.column _ _ _ (indexed_twice c.args.at (value_seen c.args.grid.now) c.args.row) c.in-Ok.is (λ z. goes_indexed_twice _ _ _ z) refl (simp (to_z-of_z w64 c.args.row c.ranges.row, to_z-of_z w64 c.in-Ok.column f) at (c.cell.ensures.did printed)) }
