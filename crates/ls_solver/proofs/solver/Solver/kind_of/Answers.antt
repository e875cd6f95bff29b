-- The kind is told of the model's variables.
use Rattle.std.proofs.Common.{◌≡◌, IfOk, subst}
use Rattle.std.specs.Prelude.{option_map}
use Rattle.solver_models.specs.State.{SolverState}
use Rattle.term_model.specs.Kinds.{kind_of_term, kind_of_var, kinds_in}
use Rattle.ls_solver.proofs.solver.Solver.kind_of.Goals as goal

pub returns : goal.returns
returns g c =
    subst (λ (s : SolverState). IfOk c.term_kind.result (λ kind. option_map kind_of_var kind ≡ kind_of_term (kinds_in s.model.vars.items) c.args.term.now)) c.self.view_is
    (subst (λ vars. IfOk c.term_kind.result (λ kind. option_map kind_of_var kind ≡ kind_of_term (kinds_in vars) c.args.term.now)) c.deref.ensures.value c.term_kind.ensures)
