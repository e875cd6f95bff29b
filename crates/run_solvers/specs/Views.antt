-- The code's solvers, as the meaning of programs has them. A rule of this project.
use Rattle.std.specs.Prelude.{ℕ, ℤ, List, Option, option_map}
use Rattle.ls_solver.specs.State as solvers
use Rattle.model_view.specs.Plain.{plain_model}
use Rattle.comet_meaning.specs.Solvers.{SolverState}
use Rattle.comet_meaning.specs.Variables as meaning
use Rattle.run_solvers.specs.Waiting.{overlaid}
use Rattle.run_solvers.specs.declared.beginning.Beginning.{Beginning}
use Rattle.run_solvers.specs.declared.beginning.Beginning.TheVariants.{Free, Defined}
use Rattle.run_solvers.specs.declared.held.Held.{Held}

-- a solver with the names of its variables, and what waits
abbrev pub solver_seen : solvers.SolverState → List (List ℕ) → Option (List (Option ℤ)) → SolverState
solver_seen S names waiting = record {
  model = plain_model S.model;
  assignment = S.assignment;
  closed = S.closed;
  rules = S.rules;
  names = names;
  waiting = option_map (overlaid S.assignment) waiting;
}

abbrev pub waits : {N : Type 0} → Held N → Option (List (Option ℤ))
waits h = option_map (λ w. w.items) h.waiting

abbrev pub held_seen : {N : Type 0} → Held N → SolverState
held_seen h = solver_seen h.solver h.names (waits h)

abbrev pub beginning_seen : Beginning → meaning.Beginning
beginning_seen (Free z) = meaning.free z
beginning_seen (Defined t) = meaning.defined t
