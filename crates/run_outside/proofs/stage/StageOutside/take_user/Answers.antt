-- What is found is taken.
use Rattle.std.proofs.Common.{◌≡◌, ◌∙◌, ap, subst, sym}
use Rattle.std.specs.Prelude.{Some, None}
use Rattle.run_solvers.specs.OfCometMeaning.Outcome.{Faulted, Halted, Went}
use Rattle.run_solvers.specs.OfCometMeaning.State.{left}
use Rattle.run_solvers.specs.OfCometMeaning.Users.{first_free, is_known}
use Rattle.run_outside.specs.HandedIn.{refusal_of}
use Rattle.run_outside.specs.Told.{beside, told_of}
use Rattle.run_outside.proofs.TakingLaws.{refused, taken}
use Rattle.run_outside.proofs.stage.StageOutside.take_user.Goals as goal

pub returns-clause-did : goal.returns-clause-did
returns-clause-did g c = λ s.
    let printed = g.O.Out.taken c.args.self.now.out in
    let found = subst (λ us. first_free c.args.name.now us ≡ Some c.in-Some.number) c.as_slice-users.ensures.value (sym c.first_free.ensures ∙ c.in-Some.is) in
    taken c.args.at c.args.name.now (beside (told_of printed c.args.self.now.solvers c.args.self.now.users.items) s) c.in-Some.number found
    ∙ ap (λ us. Went c.in-Some.number (beside (told_of printed c.args.self.now.solvers us) s)) (sym c.take.ensures)

pub returns-in_default-clause-did : goal.returns-in_default-clause-did
returns-in_default-clause-did g c = λ s.
    let printed = g.O.Out.taken c.args.self.now.out in
    let users = c.args.self.now.users.items in
    let none = subst (λ us. first_free c.args.name.now us ≡ None) c.as_slice-users.ensures.value (sym c.first_free.ensures ∙ c.in_default.is) in
    let why = subst (λ us. c.refusal.result ≡ refusal_of (is_known c.args.name.now us)) c.as_slice-users.ensures.value c.refusal.ensures in
    refused c.args.at c.args.name.now (beside (told_of printed c.args.self.now.solvers users) s) none
    ∙ ap (λ f. Halted (Faulted c.args.at f) (left (beside (told_of printed c.args.self.now.solvers users) s))) (sym why)
