use Rattle.std.proofs.Common.{◌≡◌, ◌∷◌, [], true, None, Some, OnErr, OnOk, length, subst, sym}
use Rattle.cbl_base.specs.Inputs.{number_kind}
use Rattle.posted_users.specs.KeptOf.{kept_of}
use Rattle.solver_models.specs.Adding.{early_member_refusal}
use Rattle.solver_models.specs.Defining.{distinct_with}
use Rattle.solver_models.specs.State.{IsUnchanged, SolverState}
use Rattle.solver_models.specs.UserPosting.{AddsUser}
use Rattle.term_count.specs.Counting.{Counts}
use Rattle.term_model.specs.Kinds.{kind_of_term, kinds_in}
use Rattle.term_model.specs.Naming.{users_of}
use Rattle.term_model.specs.Subterms.{distinct_subterms}
use Rattle.ls_solver.specs.Answers.{AnswersBack}
use Rattle.ls_solver.proofs.AdmitLaws.{own_member}
use Rattle.ls_solver.proofs.solver.Solver.post_member.Goals as goal

pub returns-in-Ok-clause-posted : goal.returns-in-Ok-clause-posted
returns-in-Ok-clause-posted g c =
    subst (λ (t : SolverState). OnOk c.put_node.result (AddsUser t c.put_node.new.self c.args.k c.args.member (kept_of (g.N.NodeRule.rule c.args.node)))) c.admit.ensures.same c.put_node.ensures.posted

pub put_node-requires-clause-usable : goal.put_node-requires-clause-usable
put_node-requires-clause-usable g c = subst (λ (t : SolverState). t.usable ≡ true) (sym c.admit.ensures.same) c.requires.usable

pub put_node-requires-clause-early : goal.put_node-requires-clause-early
put_node-requires-clause-early g c = subst (λ (t : SolverState). early_member_refusal t c.args.k c.args.member.term c.args.member.weight ≡ None) (sym c.admit.ensures.same) c.in-Ok.ensures.early

pub put_node-requires-clause-shallow : goal.put_node-requires-clause-shallow
put_node-requires-clause-shallow g c = c.in-Ok.ensures.shallow

pub put_node-requires-clause-kind : goal.put_node-requires-clause-kind
put_node-requires-clause-kind g c =
    subst (λ (t : SolverState). kind_of_term (kinds_in t.model.vars.items) c.args.member.term ≡ Some number_kind) (sym c.admit.ensures.same)
    (c.requires.kind (own_member c.args.self.now c.args.k c.args.member.term c.args.member.weight c.in-Ok.ensures.early))

pub put_node-requires-clause-users : goal.put_node-requires-clause-users
put_node-requires-clause-users g c = subst (λ (t : SolverState). users_of c.args.member.term ≡ length t.rules ∷ []) (sym c.admit.ensures.same) c.requires.users

pub put_node-requires-clause-counted : goal.put_node-requires-clause-counted
put_node-requires-clause-counted g c = subst (λ (t : SolverState). Counts c.in-Ok.counted (distinct_with (distinct_subterms t.model) c.args.member.term)) (sym c.admit.ensures.same) c.in-Ok.ensures.counted

pub returns-in-Ok-clause-answer : goal.returns-in-Ok-clause-answer
returns-in-Ok-clause-answer g c = subst (λ refusal. AnswersBack refusal c.put_node.result) (sym c.in-Ok.ensures.answer) c.put_node.ensures.answer

pub returns-in-Ok-clause-kept : goal.returns-in-Ok-clause-kept
returns-in-Ok-clause-kept g c = subst (λ (t : SolverState). OnErr c.put_node.result (IsUnchanged t c.put_node.new.self)) c.admit.ensures.same c.put_node.ensures.kept
