use Rattle.comet_syntax.proofs.TokenFaults.{fault_one, list_no_fault}
use Rattle.comet_syntax.proofs.laws.one_token_fault.Goals as goal

pub returns-clause-one : goal.returns-clause-one
returns-clause-one c = λ text place other cause another x y. fault_one x y

pub returns-clause-no_list : goal.returns-clause-no_list
returns-clause-no_list c = λ text place cause tokens x list. list_no_fault list x
