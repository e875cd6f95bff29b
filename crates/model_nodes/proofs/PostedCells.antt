-- Each variable in a posted term has a cell.
use Rattle.std.proofs.Common.{ℕ, ◌<◌, ◌≤◌, IsSome, length, sym, arith}
use Rattle.std.proofs.lemmas.List.Elements.{All-weaker}
use Rattle.term_model.specs.Definitions.{vars_of}
use Rattle.term_model.specs.Kinds.{kinds_in}
use Rattle.term_model.specs.Wellformed.{IsWellFormed}
use Rattle.term_model.specs.declared.model.Model.{Model}
use Rattle.term_model.proofs.Rounds.{names_kinded, some_within}
use Rattle.model_values.proofs.FailureLaws.{posted_kinded}
use Rattle.model_nodes.specs.PostedIds.{HasPostedCells}

pub posted_cells : (M : Model) → IsWellFormed M → (cells : ℕ) → length M.vars.items ≤ cells → HasPostedCells M cells
posted_cells M formed cells le p t is =
    All-weaker (λ i. IsSome (kinds_in M.vars.items i)) (λ i. i < cells) (λ i some. (let lt = some_within M.vars.items i some in omega (arith, lt, le))) (vars_of t)
    (names_kinded (kinds_in M.vars.items) t (posted_kinded M formed t p (sym is)))
