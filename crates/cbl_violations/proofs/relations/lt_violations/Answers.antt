use Rattle.std.proofs.Common.{◌≡◌, ◌∙◌, sym, ap, arith, subst, Ok, to_z, of_z, rules, get_or, pos, ◌+ℤ◌, ◌-ℤ◌, w64, FitsSigned}
use Rattle.std.proofs.lemmas.Int.{ints, clamps}
use Rattle.std.proofs.lemmas.Result.{err_from_is_err_and}
use Rattle.std.specs.Prelude.{Err}
use Rattle.cbl_base.specs.Arithmetic.{exact}
use Rattle.cbl_violations.specs.Fitting.{excess}
use Rattle.cbl_violations.proofs.Runs.{fitting_ok, fitting_err, where_fitting}
use Rattle.cbl_violations.proofs.WideNumbers.{read_is, difference_fits, above_fits, above_is}
use Rattle.cbl_violations.proofs.relations.lt_violations.Goals as goal

pub overflow_sub-above : goal.overflow_sub-above
overflow_sub-above c =
    let a : FitsSigned w64 (get_or c.args.inputs.now 0 (pos 0)) = search rules in
    let b : FitsSigned w64 (get_or c.args.inputs.now 1 (pos 0)) = search rules in
    rw (read_is c.from.result _ a c.from.ensures, read_is c.from-2.result _ b c.from-2.ensures) (difference_fits _ _ a b)

pub overflow_add-above : goal.overflow_add-above
overflow_add-above c =
    let a : FitsSigned w64 (get_or c.args.inputs.now 0 (pos 0)) = search rules in
    let b : FitsSigned w64 (get_or c.args.inputs.now 1 (pos 0)) = search rules in
    rw (read_is c.from.result _ a c.from.ensures, read_is c.from-2.result _ b c.from-2.ensures) (above_fits _ _ a b)

pub returns-in_err-narrowed : goal.returns-in_err-narrowed
returns-in_err-narrowed c =
    let xs = c.args.inputs.now in
    let a : FitsSigned w64 (get_or xs 0 (pos 0)) = search rules in
    let b : FitsSigned w64 (get_or xs 1 (pos 0)) = search rules in
    let z = get_or xs 0 (pos 0) -ℤ get_or xs 1 (pos 0) +ℤ pos 1 in
    let narrow : c.narrowed.result ≡ exact z = rw (read_is c.from.result _ a c.from.ensures, read_is c.from-2.result _ b c.from-2.ensures, above_is _ _ a b) at c.narrowed.ensures in
    let failed = err_from_is_err_and c.from_residual.result c.from_residual.ensures.1 in
    failed.1 ∙ ap Err failed.2 ∙ sym (fitting_err excess z c.in_err-narrowed.field-0.0 (sym narrow ∙ c.in_err-narrowed.was)) ∙ sym (where_fitting excess z)

pub returns : goal.returns
returns c =
    let xs = c.args.inputs.now in
    let a : FitsSigned w64 (get_or xs 0 (pos 0)) = search rules in
    let b : FitsSigned w64 (get_or xs 1 (pos 0)) = search rules in
    let d_fits : FitsSigned w64 c.in_ok-narrowed.field-0 = search rules in
    let z = get_or xs 0 (pos 0) -ℤ get_or xs 1 (pos 0) +ℤ pos 1 in
    let narrow : c.narrowed.result ≡ exact z = rw (read_is c.from.result _ a c.from.ensures, read_is c.from-2.result _ b c.from-2.ensures, above_is _ _ a b) at c.narrowed.ensures in
    let exact_is : exact z ≡ Ok c.in_ok-narrowed.field-0 = sym narrow ∙ c.in_ok-narrowed.was in
    let given : to_z w64 (of_z w64 c.max.result) ≡ excess c.in_ok-narrowed.field-0 = omega (arith, ints, clamps, d_fits, c.max.ensures.value) in
    ap Ok given ∙ sym (fitting_ok excess z c.in_ok-narrowed.field-0 exact_is) ∙ sym (where_fitting excess z)
