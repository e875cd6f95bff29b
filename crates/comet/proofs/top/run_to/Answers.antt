-- What is run begins with the users' constraints that were handed in; where there is no memory for these, nothing is written.
use Rattle.std.proofs.Common.{◌≡◌, ◌∙◌, refl, ap, subst}
use Rattle.std.specs.Prelude.{[]}
use Rattle.cbl_io.specs.Appended.{Appends, AppendsFront}
use Rattle.checked_tree.specs.Tasks.{program_of}
use Rattle.comet_meaning.specs.Program.{run}
use Rattle.stmt_run.specs.OfRunOutside.HandedIn.{users_seen}
use Rattle.stmt_run.specs.OfRunStanding.Seen.{standing_seen}
use Rattle.comet.specs.Output.{start_with}
use Rattle.comet.specs.Status.{cause_of}
use Rattle.comet.proofs.Pieces.{appends_nothing}
use Rattle.comet.proofs.top.run_to.Goals as goal

pub returns-in-Ok-clause-exact : goal.returns-in-Ok-clause-exact
returns-in-Ok-clause-exact g c = λ decides.
    let begun : standing_seen c.begin.result [] ≡ start_with (users_seen g.U.LocalConstraint.user_name g.U.LocalConstraint.user_rule c.args.users.items) c.args.seed c.args.fuel c.args.text.items =
    c.begin.ensures ∙ ap (λ us. start_with us c.args.seed c.args.fuel c.args.text.items) c.in-Ok.ensures in
    subst (λ s. (c.run_from.result.cause ≡ cause_of (run (program_of c.args.program.now) s).end) × Appends (g.O.Sink.bytes c.args.out.now) (g.O.Sink.bytes c.run_from.new.out) (run (program_of c.args.program.now) s).printed) begun
    (c.run_from.ensures.exact decides)

pub returns-in-Ok-clause-front : goal.returns-in-Ok-clause-front
returns-in-Ok-clause-front g c =
    let begun : standing_seen c.begin.result [] ≡ start_with (users_seen g.U.LocalConstraint.user_name g.U.LocalConstraint.user_rule c.args.users.items) c.args.seed c.args.fuel c.args.text.items =
    c.begin.ensures ∙ ap (λ us. start_with us c.args.seed c.args.fuel c.args.text.items) c.in-Ok.ensures in
    subst (λ s. AppendsFront (g.O.Sink.bytes c.args.out.now) (g.O.Sink.bytes c.run_from.new.out) (run (program_of c.args.program.now) s).printed) begun c.run_from.ensures.front

pub returns-in-Err-clause-front : goal.returns-in-Err-clause-front
returns-in-Err-clause-front g c = ([], _, refl, appends_nothing _)
