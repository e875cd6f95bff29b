use Rattle.std.proofs.Common.{◌≡◌, true, None, OnErr, OnOk, subst, sym}
use Rattle.solver_models.specs.Defining.{Defines, distinct_with, early_refusal}
use Rattle.solver_models.specs.State.{IsUnchanged, SolverState}
use Rattle.term_count.specs.Counting.{Counts}
use Rattle.term_model.specs.Kinds.{kind_of_term, kinds_in}
use Rattle.term_model.specs.Subterms.{distinct_subterms}
use Rattle.ls_solver.specs.Answers.{Answers}
use Rattle.ls_solver.proofs.AdmitLaws.{own_definition}
use Rattle.ls_solver.proofs.solver.Solver.define.Goals as goal

pub put_definition-requires-clause-usable : goal.put_definition-requires-clause-usable
put_definition-requires-clause-usable g c = subst (λ (t : SolverState). t.usable ≡ true) (sym c.admit_definition.ensures.same) c.requires.usable

pub put_definition-requires-clause-early : goal.put_definition-requires-clause-early
put_definition-requires-clause-early g c = subst (λ (t : SolverState). early_refusal t c.args.x c.args.term ≡ None) (sym c.admit_definition.ensures.same) c.in-Ok.ensures.early

pub put_definition-requires-clause-shallow : goal.put_definition-requires-clause-shallow
put_definition-requires-clause-shallow g c = c.in-Ok.ensures.shallow

pub put_definition-requires-clause-kind : goal.put_definition-requires-clause-kind
put_definition-requires-clause-kind g c =
    subst (λ (t : SolverState). kind_of_term (kinds_in t.model.vars.items) c.args.term ≡ kinds_in t.model.vars.items c.args.x.index) (sym c.admit_definition.ensures.same)
    (c.requires.kind (own_definition c.args.self.now c.args.x c.args.term c.in-Ok.ensures.early))

pub put_definition-requires-clause-users : goal.put_definition-requires-clause-users
put_definition-requires-clause-users g c = c.requires.users

pub put_definition-requires-clause-counted : goal.put_definition-requires-clause-counted
put_definition-requires-clause-counted g c = subst (λ (t : SolverState). Counts c.in-Ok.counted (distinct_with (distinct_subterms t.model) c.args.term)) (sym c.admit_definition.ensures.same) c.in-Ok.ensures.counted

pub returns-in-Ok-clause-answer : goal.returns-in-Ok-clause-answer
returns-in-Ok-clause-answer g c = subst (λ refusal. Answers refusal c.put_definition.result) (sym c.in-Ok.ensures.answer) c.put_definition.ensures.answer

pub returns-in-Ok-clause-defined : goal.returns-in-Ok-clause-defined
returns-in-Ok-clause-defined g c = subst (λ (t : SolverState). OnOk c.put_definition.result (Defines t c.put_definition.new.self (record { var = c.args.x; term = c.args.term }))) c.admit_definition.ensures.same c.put_definition.ensures.defined

pub returns-in-Ok-clause-kept : goal.returns-in-Ok-clause-kept
returns-in-Ok-clause-kept g c = subst (λ (t : SolverState). OnErr c.put_definition.result (IsUnchanged t c.put_definition.new.self)) c.admit_definition.ensures.same c.put_definition.ensures.kept
