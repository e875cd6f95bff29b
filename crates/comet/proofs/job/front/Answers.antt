use Rattle.std.proofs.lemmas.Result.{IfErr-weaker}
use Rattle.comet_words.specs.View.{asked_for}
use Rattle.comet.proofs.Stopping.{files_stop}
use Rattle.comet.proofs.job.front.Goals as goal

pub returns-clause-refused : goal.returns-clause-refused
returns-clause-refused g c = IfErr-weaker c.load.result _ _
    (λ cause stop. files_stop _ _ _ _ (asked_for c.in-Some.words) c.in-Some-program_name.name.now cause c.in-Some.ensures.exact c.in-Some-program_name.ensures stop) c.load.ensures.refused
