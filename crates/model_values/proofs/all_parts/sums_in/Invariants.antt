use Rattle.std.proofs.Common.{◌≡◌, take}
use Rattle.std.specs.List.{enumerate_from}
use Rattle.model_values.specs.Fresh.{listed_sums, sums_in}
use Rattle.term_model.specs.Posting.{totals_by}
use Rattle.model_values.specs.Outcomes.{env_of}
use Rattle.term_model.specs.Users.{user_rules}
use Rattle.model_values.proofs.all_parts.sums_in.Given as goal

abbrev pub invariant-loop-number : goal.invariant-loop-number
invariant-loop-number g l =
    listed_sums l.so_far ≡ sums_in (user_rules (g.U.UserValues.viol_of l.setting.users.now) (g.U.UserValues.viol_at l.setting.users.now)) l.setting.model.now (env_of l.setting.cells.now) l.side (take l.number (enumerate_from 0 (totals_by l.setting.model.now l.side)))
