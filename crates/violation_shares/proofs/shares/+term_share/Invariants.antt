use Rattle.std.proofs.Common.{◌≡◌, map, take}
use Rattle.term_model.specs.Depth.{depth_of}
use Rattle.model_values.specs.Dependence.{marked}
use Rattle.term_model.specs.Kinds.{kinds_in, kind_of_term, all_kinds}
use Rattle.model_values.specs.Outcomes.{AreKinds, gathered, listed, env_of}
use Rattle.term_model.specs.Users.{user_rules}
use Rattle.violation_shares.specs.VariableViolations.{arguments_of, seen_arguments, share_of}
use Rattle.violation_shares.proofs.shares.+term_share.Given as goal

abbrev pub invariant-loop-arg : goal.invariant-loop-arg
invariant-loop-arg g l =
    (listed l.so_far ≡ gathered (map (λ t. (share_of (user_rules (g.U.UserValues.viol_of l.setting.users.now) (g.U.UserValues.viol_at l.setting.users.now)) (env_of l.setting.cells.now) (marked l.marks) t).outcome) (take l.arg-index l.arg-items)))
    × AreKinds (listed l.so_far) (all_kinds (map (kind_of_term (kinds_in l.setting.model.now.vars.items)) (take l.arg-index l.arg-items)))
    × (seen_arguments l.held ≡ arguments_of (map (share_of (user_rules (g.U.UserValues.viol_of l.setting.users.now) (g.U.UserValues.viol_at l.setting.users.now)) (env_of l.setting.cells.now) (marked l.marks)) (take l.arg-index l.arg-items)))

abbrev pub decreases-term_share : goal.decreases-term_share
decreases-term_share g l = depth_of l.term.now
