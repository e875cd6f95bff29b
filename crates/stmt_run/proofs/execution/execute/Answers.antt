use Rattle.std.specs.Prelude.{◌≡◌, Err}
use Rattle.std.proofs.Common.{rules, ◌∙◌}
use Rattle.checked_tree.specs.Tasks.{program_of}
use Rattle.comet_meaning.proofs.GoingStatements.{goes_program}
use Rattle.run_values.specs.declared.stop.Stop.TheVariants.{NoMemory}
use Rattle.stmt_run.proofs.Ends.{executed}
use Rattle.stmt_run.proofs.execution.execute.Goals as goal

pub returns-in_err-pure : goal.returns-in_err-pure
returns-in_err-pure g c =
    let answer : c.from_residual.result ≡ Err NoMemory = search rules in
    rw answer ((goes_program (program_of c.args.program.now)).from _).printed

pub returns : goal.returns
returns g c = executed c.args.program.now _ _ _ _ _ _ _ _ c.in_ok-code.ensures c.as_slice-2.ensures.value c.as_slice.ensures.value c.as_slice-4.ensures.value (c.as_slice-3.ensures.value ∙ c.in_ok-pure.ensures) c.run.ensures.did

pub returns-in_err-code : goal.returns-in_err-code
returns-in_err-code g c =
    let answer : c.from_residual-in_err-code.result ≡ Err NoMemory = search rules in
    rw answer ((goes_program (program_of c.args.program.now)).from _).printed
