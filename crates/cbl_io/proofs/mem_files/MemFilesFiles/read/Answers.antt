-- A read answers what the first entry of the name has, and a failed one keeps the name.
use Rattle.std.proofs.Common.{rules, ◌≡◌, ◌++◌, ◌∷◌, [], Some, arith, inl}
use Rattle.std.specs.FinMap as finite
use Rattle.cbl_io.specs.MemFilesState.{held_of}
use Rattle.cbl_io.proofs.FindLemmas.{get-from_entries_of}
use Rattle.cbl_io.proofs.TimesLemmas.{times_of-push_same, times_of-push_other}
use Rattle.cbl_io.proofs.mem_files.MemFilesFiles.read.Goals as goal
use Rattle.cbl_io.proofs.mem_files.MemFilesFiles.read.Goals.{then-not-contains+in_default, else-not-contains}

pub returns-in-Some-clause-ok : goal.returns-in-Some-clause-ok
returns-in-Some-clause-ok c =
    let held = get-from_entries_of c.args.self.now.entries c.args.name.now in
    let found : finite.get (held_of c.args.self.now) c.args.name.now ≡ Some c.in-Some.bytes.now = grind (arith, held) in
    (c.in-Some.bytes.now, found, search rules)

pub returns-in-Some-clause-succeeds : goal.returns-in-Some-clause-succeeds
returns-in-Some-clause-succeeds c =
    let held = get-from_entries_of c.args.self.now.entries c.args.name.now in
    let found : finite.get (held_of c.args.self.now) c.args.name.now ≡ Some c.in-Some.bytes.now = grind (arith, held) in
    λ _. grind (arith, found)

pub returns-clause-failed : goal.returns-clause-failed
returns-clause-failed c =
    let more = times_of-push_same c.args.name.now c.args.self.now.failed in
    let kept : c.push_reserved.new.self.items ≡ c.args.self.now.failed ++ c.args.name.now ∷ [] = search rules in
    λ _. inl (rw (kept, more) (omega arith))

pub returns-clause-others : goal.returns-clause-others
returns-clause-others c = λ other differ.
    let same = times_of-push_other other c.args.name.now c.args.self.now.failed differ in
    let kept : c.push_reserved.new.self.items ≡ c.args.self.now.failed ++ c.args.name.now ∷ [] = search rules in
    rw kept same

pub returns-clause-fails : goal.returns-clause-fails
returns-clause-fails c =
    let held = get-from_entries_of c.args.self.now.entries c.args.name.now in
    λ _. elim c.if-not-contains.branch [
      | then-not-contains+in_default w ↦ grind (arith, held)
      | else-not-contains w ↦ grind (arith, held)
    ]
