-- A failed read keeps the name.
use Rattle.std.proofs.Common.{rules, ◌≡◌, ◌++◌, ◌∷◌, [], arith, inl}
use Rattle.cbl_io.specs.RealFiles.{failed_names}
use Rattle.cbl_io.proofs.TimesLemmas.{times_of-push_same, times_of-push_other}
use Rattle.cbl_io.proofs.real_files.RealFilesFiles.read.Goals as goal

pub returns-in-Err-2-clause-failed : goal.returns-in-Err-2-clause-failed
returns-in-Err-2-clause-failed g c =
    let more = times_of-push_same c.args.name.now (failed_names c.args.self.now) in
    let kept : c.push_reserved.new.self.items ≡ failed_names c.args.self.now ++ c.args.name.now ∷ [] = search rules in
    λ _. inl (rw (kept, more) (omega arith))

pub returns-in-Err-2-clause-others : goal.returns-in-Err-2-clause-others
returns-in-Err-2-clause-others g c = λ other differ.
    let same = times_of-push_other other c.args.name.now (failed_names c.args.self.now) differ in
    let kept : c.push_reserved.new.self.items ≡ failed_names c.args.self.now ++ c.args.name.now ∷ [] = search rules in
    rw kept same
