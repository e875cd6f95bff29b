use Rattle.comet_front.proofs.OneReading.{one_program, one_refusal_of, not_both, one_typing, not_typed_program, not_formed}
use Rattle.comet_front.proofs.laws.one_reading.Goals as goal

pub returns-clause-program : goal.returns-clause-program
returns-clause-program c = λ text program other x y. one_program text program other x y

pub returns-clause-refusal : goal.returns-clause-refusal
returns-clause-refusal c = λ text place other cause another x y. one_refusal_of text place other cause another x y

pub returns-clause-either : goal.returns-clause-either
returns-clause-either c = λ text program place cause x y. not_both text program place cause x y

pub returns-clause-typing : goal.returns-clause-typing
returns-clause-typing c = λ text place other code another x y. one_typing text place other code another x y

pub returns-clause-typed : goal.returns-clause-typed
returns-clause-typed c = λ text program place code x y. not_typed_program text program place code x y

pub returns-clause-formed : goal.returns-clause-formed
returns-clause-formed c = λ text place other cause code x y. not_formed text place other cause code x y
