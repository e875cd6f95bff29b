use Rattle.std.proofs.Common.{◌∙◌}
use Rattle.std.specs.Prelude.{option_map}
use Rattle.checked_tree.specs.Tasks.{program_of}
use Rattle.comet.proofs.Exits.{passes}
use Rattle.comet.proofs.Stopping.{program_stops, data_stops_files}
use Rattle.comet.proofs.job.load.Goals as goal

pub returns-in_err-program-clause-refused : goal.returns-in_err-program-clause-refused
returns-in_err-program-clause-refused g c = passes _ _ c.in_err-program.field-0.0 c.from_residual.ensures.1
    (program_stops c.args.name.now (option_map (λ file. file.now) c.args.data_file) (g.F.Files.held c.args.files.now) (g.F.Files.faults c.args.files.now) (g.F.Files.faults c.load_program.new.files) _ c.in_err-program.ensures.refused)

pub returns-in_err-data-clause-refused : goal.returns-in_err-data-clause-refused
returns-in_err-data-clause-refused g c = passes _ _ c.in_err-data.field-0.0 c.from_residual-in_err-data.ensures.1
    (data_stops_files _ _ _ _ _ _ (program_of c.in_ok-program.program) _ c.load_program.ensures.never_falls c.in_ok-program.ensures.loaded c.in_err-data.ensures.refused)

pub returns-clause-loaded : goal.returns-clause-loaded
returns-clause-loaded g c = λ held is_told. record { holds = c.in_ok-program.ensures.loaded held is_told; data_is = c.in_ok-data.ensures.loaded held (c.load_program.ensures.keeps ∙ is_told) }
