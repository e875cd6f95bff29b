use Rattle.std.proofs.lemmas.Result.{IfOk-weaker}
use Rattle.comet.proofs.Stopping.{read_data}
use Rattle.comet.proofs.files.load_data.Goals as goal

pub returns-in-Some-clause-loaded : goal.returns-in-Some-clause-loaded
returns-in-Some-clause-loaded g c = rw c.in-Some.is (IfOk-weaker c.read_file.result _ _ (λ text read. read_data _ c.in-Some.file.now text.items read) c.read_file.ensures.read)
