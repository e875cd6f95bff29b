use Rattle.std.proofs.Common.{◌≡◌, ◌++◌, List, map, take}
use Rattle.std.specs.Prelude.{filter}
use Rattle.model_values.specs.Failing.{AreFailing}
use Rattle.model_values.specs.Failures.{fails}
use Rattle.model_values.specs.Outcomes.{AreKinds, env_of, gathered, listed, outcome_of}
use Rattle.term_model.specs.Depth.{depth_of}
use Rattle.term_model.specs.Kinds.{all_kinds, kind_of_term, kinds_in}
use Rattle.term_model.specs.Subterms.{joined_terms, subterms}
use Rattle.term_model.specs.Users.{user_rules}
use Rattle.term_model.specs.declared.term.Term.{Term}
use Rattle.model_values.proofs.evaluation.+evaluate.Given as goal

abbrev pub invariant-loop-arg : goal.invariant-loop-arg
invariant-loop-arg g l =
    let users = user_rules (g.U.UserValues.viol_of l.setting.users.now) (g.U.UserValues.viol_at l.setting.users.now) in
    let env = env_of l.setting.cells.now in
    (listed l.so_far ≡ gathered (map (outcome_of users env) (take l.arg-index l.arg-items)))
    × AreKinds (listed l.so_far) (all_kinds (map (kind_of_term (kinds_in l.setting.model.now.vars.items)) (take l.arg-index l.arg-items)))
    × ((before : List Term) → AreFailing users env l.fn.failing.items before → AreFailing users env l.failing.items (before ++ filter (fails users env) (joined_terms (map subterms (take l.arg-index l.arg-items)))))

abbrev pub decreases-evaluate : goal.decreases-evaluate
decreases-evaluate g l = depth_of l.term.now
