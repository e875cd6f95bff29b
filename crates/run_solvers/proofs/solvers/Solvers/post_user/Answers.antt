-- The value is a system or an objective, or nothing is posted.
use Rattle.std.proofs.Common.{◌≡◌, ℤ, None, Some, List, sym, ◌∙◌, ap, subst, w64, to_z, of_z, rules}
use Rattle.ls_solver.specs.Totals.{whole_of}
use Rattle.comet_meaning.specs.Outcome.{Outcome, Went}
use Rattle.comet_meaning.specs.Solvers.{SolverState}
use Rattle.comet_meaning.specs.Systems.{post_user_to}
use Rattle.comet_meaning.specs.Values as values
use Rattle.posted_users.specs.KeptOf.{kept_of}
use Rattle.run_values.specs.Did.{Did}
use Rattle.run_values.specs.Views.{value_seen}
use Rattle.run_solvers.proofs.AskingLaws.{done_so}
use Rattle.run_solvers.proofs.solvers.Solvers.post_user.Goals as goal

pub returns-in-None-clause-did : goal.returns-in-None-clause-did
returns-in-None-clause-did g c = λ s is.
    done_so (post_user_to c.args.at (kept_of (g.N.NodeRule.rule c.args.node)) c.args.places.items c.args.weight) (value_seen c.args.whole.now) None s (sym c.in-None.is ∙ c.total_of.ensures)
    ∙ ap (λ (ms : List SolverState). Went values.Nothing (record s { solvers = ms })) is

pub returns-in-Some-clause-did : goal.returns-in-Some-clause-did
returns-in-Some-clause-did g c = λ s is.
    let same : to_z w64 (of_z w64 c.args.weight) ≡ c.args.weight = search rules in
    subst (λ (o : Outcome values.Value). Did (λ _. values.Nothing) c.post_user_to.result (record s { solvers = c.post_user_to.new.self }) o)
    (sym (done_so (post_user_to c.args.at (kept_of (g.N.NodeRule.rule c.args.node)) c.args.places.items c.args.weight) (value_seen c.args.whole.now) (Some c.in-Some.total) s (sym c.in-Some.is ∙ c.total_of.ensures)))
    (subst (λ (z : ℤ). Did (λ _. values.Nothing) c.post_user_to.result (record s { solvers = c.post_user_to.new.self }) (post_user_to c.args.at (kept_of (g.N.NodeRule.rule c.args.node)) c.args.places.items z c.in-Some.total.solver (whole_of c.in-Some.total) s)) same (c.post_user_to.ensures.did s is))
