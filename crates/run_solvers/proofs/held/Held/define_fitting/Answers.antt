-- The definition is there, or stops as it is meant to.
use Rattle.run_solvers.specs.Views.{waits}
use Rattle.run_solvers.proofs.DefineLaws.{defined_sets, defined_whole, defines_ok, defines_stops}
use Rattle.run_solvers.proofs.held.Held.define_fitting.Goals as goal

pub define-requires-clause-usable : goal.define-requires-clause-usable
define-requires-clause-usable g c = c.requires.whole.usable

pub define-requires-clause-users : goal.define-requires-clause-users
define-requires-clause-users g c = c.requires.shallow.1

pub returns-in-Ok-clause-meant : goal.returns-in-Ok-clause-meant
returns-in-Ok-clause-meant g c =
    let old = c.args.self.now in
    defines_ok old.solver _ old.names (waits old) c.args.at c.args.variable c.args.term c.requires.early c.requires.shallow.0 c.in-Ok.ensures.answer c.in-Ok.ensures.defined

pub returns-in-Ok-clause-whole : goal.returns-in-Ok-clause-whole
returns-in-Ok-clause-whole g c =
    let old = c.args.self.now in
    defined_whole old.solver _ old.names (waits old) c.args.at c.args.variable c.args.term c.requires.early c.requires.shallow.0 old.number c.requires.whole c.in-Ok.ensures.defined

pub returns-in-Ok-clause-sets : goal.returns-in-Ok-clause-sets
returns-in-Ok-clause-sets g c =
    let old = c.args.self.now in
    defined_sets old.solver _ old.names (waits old) c.args.at c.args.variable c.args.term c.requires.early c.requires.shallow.0 c.keeps_form.ensures.formed c.in-Ok.ensures.defined

pub returns-in-Err-clause-meant : goal.returns-in-Err-clause-meant
returns-in-Err-clause-meant g c =
    let old = c.args.self.now in
    defines_stops old.solver old.solver old.names (waits old) c.args.at c.args.variable c.args.term c.requires.early c.requires.shallow.0 c.in-Err.fault c.stop_of.result c.in-Err.ensures.answer c.stop_of.ensures
