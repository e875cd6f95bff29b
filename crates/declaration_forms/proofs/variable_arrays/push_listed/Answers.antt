use Rattle.std.proofs.Common.{◌≡◌, refl, rules, arith, length, pos, slice_index_or, w64, FitsSigned}
use Rattle.std.proofs.lemmas.Int.{to_z-of_z}
use Rattle.comet_meaning.specs.Outcome.{Went}
use Rattle.checked_tree.specs.Actions.{variable_of}
use Rattle.comet_meaning.specs.Variables.{beginning_with, listed_cell, variable_kind}
use Rattle.comet_meaning.proofs.GoingOn.{goes_charge}
use Rattle.std.proofs.lemmas.Result.{err_from_is_err_and}
use Rattle.run_steps.specs.OfRunSolvers.Views.{beginning_seen}
use Rattle.run_steps.proofs.Goes.{goes_added_cell}
use Rattle.run_steps.proofs.Stops.{stopped_then}
use Rattle.declaration_forms.proofs.variable_arrays.push_listed.Goals as goal

pub returns-in_err-charge : goal.returns-in_err-charge
unfolding listed_cell
returns-in_err-charge g c = let p = err_from_is_err_and c.from_residual.result c.from_residual.ensures.1 in record { did = rw (p.1, p.2) (stopped_then _ _ _ _ (goes_charge _ _) refl (λ _. goes_added_cell c.args.at (variable_of c.args.variable.now) c.args.decl c.args.indices.now c.args.cells.items (beginning_with (variable_kind c.args.variable.now.kind) (slice_index_or c.args.numbers.now (length c.args.cells.items) (pos 0)))) (c.in_err-charge.ensures.did _)) }

pub returns : goal.returns
unfolding listed_cell
returns g c =
    let f : FitsSigned w64 c.number_at-number.result = search rules in
    let n : c.len.result ≡ length c.args.cells.items = omega (arith, c.len.ensures, c.args.cells.ok.0) in
    record { did = rw (c.in_ok-charge.ensures.did (g.O.Outside.told c.args.out.now)) (rw (c.begins_with-beginning.ensures, c.variable_kind.ensures, to_z-of_z w64 c.number_at-number.result f, c.number_at-number.ensures, n) at (c.push_variable.ensures.did (Went (beginning_seen c.begins_with-beginning.result) _) refl)) }
