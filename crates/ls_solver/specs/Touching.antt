-- What a commit and a delta touch: of the model's variables, weights, distinct subterms, totals and repeats. A rule of this
-- project.
use Rattle.std.specs.Prelude.{ℕ, ℤ, Bool, false, nat_eq, List}
use Rattle.cbl_base.specs.declared.ids.VarId.{VarId}
use Rattle.inc_store.specs.Moves.{is_moved}
use Rattle.model_values.specs.Delta.{moved}
use Rattle.model_values.specs.declared.deltas.Move.{Move}
use Rattle.model_values.specs.declared.deltas.Move.TheVariants.{Assign, Swap}
use Rattle.posted_users.specs.KeptRule.{users_of}
use Rattle.solver_models.specs.Moves.{after_moves}
use Rattle.solver_models.specs.State.{SolverState}
use Rattle.solver_store.specs.Asking.{moves_by}
use Rattle.store_laws.specs.ModelTouch.{model_touch}

abbrev pub touch_of : SolverState → List (VarId × ℤ) → ℕ
touch_of s moves = model_touch (users_of s.rules) s.model s.assignment s.model (after_moves s.assignment moves) (is_moved moves)

abbrev pub touch_of_move : SolverState → Move → ℕ
touch_of_move s change = model_touch (users_of s.rules) s.model s.assignment s.model (moved s.assignment change) (is_moved (moves_by s.assignment change))

-- whether a move exchanges a variable with itself
abbrev pub is_idle : Move → Bool
is_idle (Assign var value) = false
is_idle (Swap left right) = nat_eq left right
