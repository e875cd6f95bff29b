-- One more solver, which has the next number.
use Rattle.std.proofs.Common.{◌≡◌, ℕ, List, [], ◌∷◌, ◌++◌, length, map, sym, ◌∙◌, ap, arith, rules}
use Rattle.comet_meaning.specs.Outcome.{Went}
use Rattle.comet_meaning.specs.Values.{Solver}
use Rattle.run_solvers.specs.Views.{held_seen}
use Rattle.run_solvers.specs.declared.held.Held.{Held}
use Rattle.run_solvers.proofs.FoundSolvers.{made_solver, pushed_kept}
use Rattle.run_solvers.proofs.solvers.Solvers.make.Goals as goal

pub invariant_of-self-2 : goal.invariant_of-self-2
invariant_of-self-2 g c =
    let same : c.in-Ok.own ≡ c.len-number.result = search rules in
    let number : c.new.result.number ≡ length c.self.inside.held.items = omega (arith, same) in
    rw c.in_ok-push.ensures.items (pushed_kept c.self.inside.held.items c.self.invariant c.len-number.result c.new.result number c.new.ensures.kept)

pub returns-clause-did : goal.returns-clause-did
returns-clause-did g c = λ s is.
    let held = c.self.inside.held.items in
    let number : length held ≡ c.len-number.result = omega arith in
    made_solver s held c.new.result (is ∙ sym c.self.view_is) c.new.ensures.seen
    ∙ ap (λ (k : ℕ). Went (Solver k) (record s { solvers = map held_seen (held ++ c.new.result ∷ []) })) number
    ∙ ap (λ (hs : List (Held g.row.N.Denot)). Went (Solver c.len-number.result) (record s { solvers = map held_seen hs })) (sym {A = List (Held g.row.N.Denot)} c.in_ok-push.ensures.items)
