use Rattle.std.proofs.Common.{◌≡◌, ◌∷◌, [], true, None, Some, OnErr, OnOk, length, subst, sym}
use Rattle.cbl_base.specs.Inputs.{number_kind}
use Rattle.posted_users.specs.KeptRule.{kept}
use Rattle.solver_models.specs.Adding.{early_member_refusal}
use Rattle.solver_models.specs.Defining.{distinct_with}
use Rattle.solver_models.specs.State.{IsUnchanged, SolverState}
use Rattle.solver_models.specs.UserPosting.{AddsUser}
use Rattle.term_count.specs.Counting.{Counts}
use Rattle.term_model.specs.Kinds.{kind_of_term, kinds_in}
use Rattle.term_model.specs.Naming.{users_of}
use Rattle.term_model.specs.Subterms.{distinct_subterms}
use Rattle.ls_solver.specs.Answers.{AnswersBack}
use Rattle.ls_solver.proofs.AdmitLaws.{own_member}
use Rattle.ls_solver.proofs.user_posting.Solver+KindOf+U.post_user_member.Goals as goal

pub returns-in-Ok-clause-posted : goal.returns-in-Ok-clause-posted
returns-in-Ok-clause-posted g c =
    subst (λ (t : SolverState). OnOk c.put_user.result (AddsUser t c.put_user.new.self c.args.k c.args.member (kept (g.U.LocalConstraint.user_rule c.args.user)))) c.admit.ensures.same c.put_user.ensures.posted

pub put_user-requires-clause-usable : goal.put_user-requires-clause-usable
put_user-requires-clause-usable g c = subst (λ (t : SolverState). t.usable ≡ true) (sym c.admit.ensures.same) c.requires.usable

pub put_user-requires-clause-early : goal.put_user-requires-clause-early
put_user-requires-clause-early g c = subst (λ (t : SolverState). early_member_refusal t c.args.k c.args.member.term c.args.member.weight ≡ None) (sym c.admit.ensures.same) c.in-Ok.ensures.early

pub put_user-requires-clause-shallow : goal.put_user-requires-clause-shallow
put_user-requires-clause-shallow g c = c.in-Ok.ensures.shallow

pub put_user-requires-clause-kind : goal.put_user-requires-clause-kind
put_user-requires-clause-kind g c =
    subst (λ (t : SolverState). kind_of_term (kinds_in t.model.vars.items) c.args.member.term ≡ Some number_kind) (sym c.admit.ensures.same)
    (c.requires.kind (own_member c.args.self.now c.args.k c.args.member.term c.args.member.weight c.in-Ok.ensures.early))

pub put_user-requires-clause-users : goal.put_user-requires-clause-users
put_user-requires-clause-users g c = subst (λ (t : SolverState). users_of c.args.member.term ≡ length t.rules ∷ []) (sym c.admit.ensures.same) c.requires.users

pub put_user-requires-clause-counted : goal.put_user-requires-clause-counted
put_user-requires-clause-counted g c = subst (λ (t : SolverState). Counts c.in-Ok.counted (distinct_with (distinct_subterms t.model) c.args.member.term)) (sym c.admit.ensures.same) c.in-Ok.ensures.counted

pub returns-in-Ok-clause-answer : goal.returns-in-Ok-clause-answer
returns-in-Ok-clause-answer g c = subst (λ refusal. AnswersBack refusal c.put_user.result) (sym c.in-Ok.ensures.answer) c.put_user.ensures.answer

pub returns-in-Ok-clause-kept : goal.returns-in-Ok-clause-kept
returns-in-Ok-clause-kept g c = subst (λ (t : SolverState). OnErr c.put_user.result (IsUnchanged t c.put_user.new.self)) c.admit.ensures.same c.put_user.ensures.kept
