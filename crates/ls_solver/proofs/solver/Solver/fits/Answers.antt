use Rattle.std.proofs.Common.{◌≡◌, IfOk, subst}
use Rattle.std.specs.Bool.{OnTrue}
use Rattle.solver_models.specs.State.{SolverState}
use Rattle.term_model.specs.Kinds.{kind_of_term, kinds_in}
use Rattle.ls_solver.proofs.solver.Solver.fits.Goals as goal

pub returns-clause-kind : goal.returns-clause-kind
returns-clause-kind g c =
    subst (λ (s : SolverState). IfOk c.is_of_kind.result (λ fits. OnTrue fits (kind_of_term (kinds_in s.model.vars.items) c.args.term.now ≡ kinds_in s.model.vars.items c.args.x.index))) c.self.view_is
    (subst (λ vars. IfOk c.is_of_kind.result (λ fits. OnTrue fits (kind_of_term (kinds_in vars) c.args.term.now ≡ kinds_in vars c.args.x.index))) c.deref.ensures.value c.is_of_kind.ensures)
