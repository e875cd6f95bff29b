use Rattle.comet_syntax.proofs.TokenFaults.{list_one}
use Rattle.comet_syntax.proofs.laws.one_token_list.Goals as goal

pub returns : goal.returns
returns c = λ text tokens others list other. list_one list other
