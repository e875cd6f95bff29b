-- The headline: what is written, and the status, are what the words and the files give by the meaning of programs. Where
-- memory runs out or the output fails a front of it is written, and a fault is answered only where the outside failed. A rule
-- of this project.
use Rattle.std.specs.Prelude.{◌≡◌, ◌⊎◌, ◌↔◌, ℕ, List, Option, Some, None}
use Rattle.std.specs.FinMap as map
use Rattle.cbl_io.specs.Appended.{Appends, AppendsFront}
use Rattle.cbl_io.specs.Faults.{HasRisen}
use Rattle.cbl_io.specs.Held.{Held}
use Rattle.checked_tree.specs.Tasks.{Whole}
use Rattle.comet_front.specs.Reading.{HasProgram}
use Rattle.comet_meaning.specs.Users.{User}
use Rattle.comet_words.specs.Asked.{Asked, asked}
use Rattle.comet.specs.Asking.{program_named, file_for}
use Rattle.comet.specs.Line.{line_of}
use Rattle.comet.specs.Output.{Runs, RunOutput, Decides, EndsAsMeant}
use Rattle.comet.specs.Status.{status_of}
use Rattle.comet.specs.declared.report.Cause.{Cause}
use Rattle.comet.specs.declared.report.Cause.TheVariants as causes
use Rattle.comet.specs.declared.report.FileRole.{FileRole}
use Rattle.comet.specs.declared.report.FileRole.TheVariants.{Program, Data}
use Rattle.comet.specs.declared.report.Report.{Report}

-- a sink: the bytes that it has taken, where it tells them, and how often it has failed
pub record Taken : Type 0 where
  pub bytes : Option (List ℕ)
  pub faults : ℕ

abbrev pub taken : Option (List ℕ) → ℕ → Taken
taken bytes faults = record { bytes = bytes; faults = faults }

-- A run, where this is told of the outside, and what each outside gives is known. `Wordless` says that the words aren't in
-- form, `Blamed` that a file of a role couldn't be read, and `Calm` that no file failed.
pub record Headline {Outside : Type 0} (told : Option Outside) (Given : Outside → Cause → List ℕ → Type 0) (Wordless : Type 0) (Blamed : FileRole → Type 0) (Calm : Type 0)
    (report : Report) (out out_after err err_after : Taken) : Type 0 where
  pub status : report.status ≡ status_of report.cause
  pub words : (report.status ≡ 1) ↔ Wordless
  pub unwritten : (report.status ≡ 1) ⊎ (report.status ≡ 8) → out_after.bytes ≡ out.bytes
  -- what is written, and the cause, where no memory was wanted and nothing outside failed
  pub exact : (outside : Outside) → told ≡ Some outside → Decides report.status → EndsAsMeant (Given outside) report.cause out.bytes out_after.bytes
  -- a front of it, in any case
  pub front : (outside : Outside) → told ≡ Some outside → (cause : Cause) (printed : List ℕ) → Given outside cause printed → AppendsFront out.bytes out_after.bytes printed
  -- when the outside is to blame
  pub read : (role : FileRole) → report.cause ≡ causes.Read role → Blamed role
  pub write : report.status ≡ 9 → HasRisen out.faults out_after.faults
  -- where nothing outside failed, only want of memory keeps the run from its end
  pub complete : (outside : Outside) → told ≡ Some outside → Calm → ¬ HasRisen out.faults out_after.faults →
      (report.status ≡ 7) ⊎ EndsAsMeant (Given outside) report.cause out.bytes out_after.bytes
  -- the line that tells why the run ended
  pub said : ¬ HasRisen err.faults err_after.faults → Appends err.bytes err_after.bytes (line_of report.cause)
  pub said_front : AppendsFront err.bytes err_after.bytes (line_of report.cause)

-- a file holds this program
pub record IsHeldProgram (name : List ℕ) (held : Held) (program : Whole) : Type 0 where
  pub text : List ℕ
  pub found : map.get held name ≡ Some text
  pub has : HasProgram text program

-- the words' program is one
pub record HasJobProgram (asks : Asked) (held : Held) : Type 0 where
  pub name : List ℕ
  pub named : program_named asks ≡ Some name
  pub program : Whole
  pub holds : IsHeldProgram name held program

-- the file of this role is read: the data only where the program isn't refused
abbrev pub IsReached : FileRole → Asked → Held → Type 0
IsReached Program asks held = Unit {0}
IsReached Data asks held = HasJobProgram asks held

-- reading the file that the words name for this role failed
pub record IsBlamed (words : List (List ℕ)) (told : Option Held) (faults faults_after : List ℕ → ℕ) (role : FileRole) : Type 0 where
  pub asks : Asked
  pub asked_is : asked words ≡ Some asks
  pub name : List ℕ
  pub named : file_for role asks ≡ Some name
  pub risen : HasRisen (faults name) (faults_after name)
  pub reached : (held : Held) → told ≡ Some held → IsReached role asks held

-- reading failed for no file that the words name
abbrev pub IsCalm : List (List ℕ) → (List ℕ → ℕ) → (List ℕ → ℕ) → Type 0
IsCalm words faults faults_after = (asks : Asked) (role : FileRole) (name : List ℕ) → asked words ≡ Some asks → file_for role asks ≡ Some name → ¬ HasRisen (faults name) (faults_after name)

-- the headline of a run from words and files
abbrev pub RunHeadline : (users : List User) → List (List ℕ) → Option Held → (List ℕ → ℕ) → (List ℕ → ℕ) → Report → Taken → Taken → Taken → Taken → Type 0
RunHeadline users words told faults faults_after =
    Headline told (RunOutput users words) (asked words ≡ None) (IsBlamed words told faults faults_after) (IsCalm words faults faults_after)

-- the headline of a run from a program, its seed, its fuel and its data: nothing of it depends on words or files
abbrev pub JobHeadline : (users : List User) → Whole → ℕ → ℕ → List ℕ → Report → Taken → Taken → Taken → Taken → Type 0
JobHeadline users program seed fuel text = Headline (Some tt) (λ (outside : Unit {0}). Runs users program seed fuel text) ⊥ (λ role. ⊥) (Unit {0})
