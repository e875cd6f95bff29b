use Rattle.std.proofs.Common.{rules}
use Rattle.trial.proofs.settling.keep_value.Goals as goal

pub returns-in_ok-change-clause-change : goal.returns-in_ok-change-clause-change
returns-in_ok-change-clause-change g c = record {
  here = search rules;
  elsewhere = search rules;
}
