use Rattle.comet_words.proofs.Forming.{asked_in_form, one_cut}
use Rattle.comet_words.proofs.laws.in_form.Goals as goal

pub returns-clause-rules : goal.returns-clause-rules
returns-clause-rules c = asked_in_form

pub returns-clause-one : goal.returns-clause-one
returns-clause-one c = one_cut
