use Rattle.run_solvers.proofs.TotalActs.{makes_objective, makes_sum, makes_system, posts, posts_user}
use Rattle.run_solvers.proofs.laws.totals_of_one_solver.Goals as goal

pub returns-clause-systems : goal.returns-clause-systems
returns-clause-systems c = λ at k s. makes_system at k s

pub returns-clause-sums : goal.returns-clause-sums
returns-clause-sums c = λ at k s. makes_sum at k s

pub returns-clause-posts : goal.returns-clause-posts
returns-clause-posts c = λ at t weight k w s. posts at t weight k w s

pub returns-clause-objectives : goal.returns-clause-objectives
returns-clause-objectives c = λ at k t m s. makes_objective at k t m s

pub returns-clause-users : goal.returns-clause-users
returns-clause-users c = λ at rule ts weight k w s. posts_user at rule ts weight k w s
