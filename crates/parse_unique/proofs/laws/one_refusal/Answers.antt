use Rattle.parse_unique.proofs.Refusals.{one_refusal, not_spelled}
use Rattle.parse_unique.proofs.laws.one_refusal.Goals as goal

pub returns : goal.returns
returns c = record {
  one = λ limit tokens before rest before' rest' cause cause' r r'. one_refusal limit tokens before rest before' rest' cause cause' r r';
  none = λ limit tokens before rest cause program r s. not_spelled limit tokens before rest cause program r s;
}
