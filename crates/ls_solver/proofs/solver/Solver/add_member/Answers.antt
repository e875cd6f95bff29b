use Rattle.std.proofs.Common.{◌≡◌, true, None, Some, OnErr, OnOk, subst, sym}
use Rattle.cbl_base.specs.Inputs.{number_kind}
use Rattle.solver_models.specs.Adding.{Adds, early_member_refusal}
use Rattle.solver_models.specs.Defining.{distinct_with}
use Rattle.solver_models.specs.State.{IsUnchanged, SolverState}
use Rattle.term_count.specs.Counting.{Counts}
use Rattle.term_model.specs.Kinds.{kind_of_term, kinds_in}
use Rattle.term_model.specs.Subterms.{distinct_subterms}
use Rattle.ls_solver.specs.Answers.{Answers}
use Rattle.ls_solver.proofs.AdmitLaws.{own_member}
use Rattle.ls_solver.proofs.solver.Solver.add_member.Goals as goal

pub put_member-requires-clause-usable : goal.put_member-requires-clause-usable
put_member-requires-clause-usable g c = subst (λ (t : SolverState). t.usable ≡ true) (sym c.admit.ensures.same) c.requires.usable

pub put_member-requires-clause-early : goal.put_member-requires-clause-early
put_member-requires-clause-early g c = subst (λ (t : SolverState). early_member_refusal t c.args.k c.args.member.term c.args.member.weight ≡ None) (sym c.admit.ensures.same) c.in-Ok.ensures.early

pub put_member-requires-clause-shallow : goal.put_member-requires-clause-shallow
put_member-requires-clause-shallow g c = c.in-Ok.ensures.shallow

pub put_member-requires-clause-kind : goal.put_member-requires-clause-kind
put_member-requires-clause-kind g c =
    subst (λ (t : SolverState). kind_of_term (kinds_in t.model.vars.items) c.args.member.term ≡ Some number_kind) (sym c.admit.ensures.same)
    (c.requires.kind (own_member c.args.self.now c.args.k c.args.member.term c.args.member.weight c.in-Ok.ensures.early))

pub put_member-requires-clause-users : goal.put_member-requires-clause-users
put_member-requires-clause-users g c = c.requires.users

pub put_member-requires-clause-counted : goal.put_member-requires-clause-counted
put_member-requires-clause-counted g c = subst (λ (t : SolverState). Counts c.in-Ok.counted (distinct_with (distinct_subterms t.model) c.args.member.term)) (sym c.admit.ensures.same) c.in-Ok.ensures.counted

pub returns-in-Ok-clause-answer : goal.returns-in-Ok-clause-answer
returns-in-Ok-clause-answer g c = subst (λ refusal. Answers refusal c.put_member.result) (sym c.in-Ok.ensures.answer) c.put_member.ensures.answer

pub returns-in-Ok-clause-added : goal.returns-in-Ok-clause-added
returns-in-Ok-clause-added g c = subst (λ (t : SolverState). OnOk c.put_member.result (Adds t c.put_member.new.self c.args.k c.args.member)) c.admit.ensures.same c.put_member.ensures.added

pub returns-in-Ok-clause-kept : goal.returns-in-Ok-clause-kept
returns-in-Ok-clause-kept g c = subst (λ (t : SolverState). OnErr c.put_member.result (IsUnchanged t c.put_member.new.self)) c.admit.ensures.same c.put_member.ensures.kept
