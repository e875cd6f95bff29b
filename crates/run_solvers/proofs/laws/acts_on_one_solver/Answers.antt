use Rattle.run_solvers.proofs.Acts.{closes, assigns, swaps, defines, adds, commits}
use Rattle.run_solvers.proofs.laws.acts_on_one_solver.Goals as goal

pub returns-clause-closes : goal.returns-clause-closes
returns-clause-closes c = λ at k s. closes at k s

pub returns-clause-assigns : goal.returns-clause-assigns
returns-clause-assigns c = λ at x z s. assigns at x z s

pub returns-clause-swaps : goal.returns-clause-swaps
returns-clause-swaps c = λ at x y s. swaps at x y s

pub returns-clause-defines : goal.returns-clause-defines
returns-clause-defines c = λ at x t s. defines at x t s

pub returns-clause-adds : goal.returns-clause-adds
returns-clause-adds c = λ at k d name b s. adds at k d name b s

pub returns-clause-commits : goal.returns-clause-commits
returns-clause-commits c = λ k s. commits k s
