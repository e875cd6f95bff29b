-- What is known of a job, and why words and files give none. A rule of this project.
use Rattle.std.specs.Prelude.{◌≡◌, ◌≢◌, ◌↔◌, ℕ, List, [], Option, Some, None}
use Rattle.std.specs.FinMap as map
use Rattle.cbl_io.specs.Faults.{HasRisen}
use Rattle.cbl_io.specs.Held.{Held}
use Rattle.checked_tree.specs.Tasks.{Whole}
use Rattle.comet_front.specs.Reading.{IsIllFormed, IsIllTyped}
use Rattle.comet_meaning.specs.Users.{User}
use Rattle.comet_words.specs.Asked.{Asked, asked}
use Rattle.comet.specs.Asking.{program_named}
use Rattle.comet.specs.Headline.{IsHeldProgram, IsBlamed}
use Rattle.comet.specs.Output.{RunOutput, Decides, data_of}
use Rattle.comet.specs.Status.{status_of}
use Rattle.comet.specs.declared.report.Cause.{Cause}
use Rattle.comet.specs.declared.report.Cause.TheVariants as causes
use Rattle.comet.specs.declared.report.FileRole.{FileRole}
use Rattle.comet.specs.declared.report.FileRole.TheVariants as roles

-- a program and its data are those of these files
pub record IsLoaded (name : List ℕ) (data_file : Option (List ℕ)) (held : Held) (program : Whole) (text : List ℕ) : Type 0 where
  pub holds : IsHeldProgram name held program
  pub data_is : data_of data_file held ≡ Some text

-- a job is what the words ask for: the program of the file, the seed, the fuel and the data
pub record IsJob (words : List (List ℕ)) (held : Held) (program : Whole) (seed fuel : ℕ) (text : List ℕ) : Type 0 where
  pub asks : Asked
  pub asked_is : asked words ≡ Some asks
  pub name : List ℕ
  pub named : program_named asks ≡ Some name
  pub loaded : IsLoaded name asks.data_file held program text
  pub seed_is : seed ≡ asks.seed
  pub fuel_is : fuel ≡ asks.fuel

-- why there is no job: the words aren't in form, what they ask for isn't built, or it is refused; a file can't be read; or
-- there is no memory
pub record IsFrontStop (words : List (List ℕ)) (told : Option Held) (faults faults_after : List ℕ → ℕ) (cause : Cause) : Type 0 where
  pub wordless : (status_of cause ≡ 1) ↔ (asked words ≡ None)
  pub given : (users : List User) (held : Held) → told ≡ Some held → Decides (status_of cause) → RunOutput users words held cause []
  pub read : (role : FileRole) → cause ≡ causes.Read role → IsBlamed words told faults faults_after role
  pub reads_only : status_of cause ≢ 9

-- why a text has no program: it is refused, or there is no memory
abbrev pub IsTextStop : List ℕ → Cause → Type 0
IsTextStop text (causes.IllFormed place form) = IsIllFormed text place form
IsTextStop text (causes.IllTyped place code) = IsIllTyped text place code
IsTextStop text causes.NoMemory = Unit {0}
IsTextStop text causes.Done = ⊥
IsTextStop text causes.Words = ⊥
IsTextStop text (causes.Cyclic place names) = ⊥
IsTextStop text (causes.Run place fault) = ⊥
IsTextStop text (causes.Spent place) = ⊥
IsTextStop text (causes.Read role) = ⊥
IsTextStop text causes.Write = ⊥

-- a file holds a text that is refused for this cause
pub record IsRefused (name : List ℕ) (held : Held) (cause : Cause) : Type 0 where
  pub text : List ℕ
  pub found : map.get held name ≡ Some text
  pub stop : IsTextStop text cause

-- why a program can't be loaded: its text is refused, its file can't be read, or there is no memory
abbrev pub IsLoadStop : List ℕ → Option Held → ℕ → ℕ → Cause → Type 0
IsLoadStop name told old new (causes.IllFormed place form) = (held : Held) → told ≡ Some held → IsRefused name held (causes.IllFormed place form)
IsLoadStop name told old new (causes.IllTyped place code) = (held : Held) → told ≡ Some held → IsRefused name held (causes.IllTyped place code)
IsLoadStop name told old new causes.NoMemory = Unit {0}
IsLoadStop name told old new (causes.Read roles.Program) = HasRisen old new
IsLoadStop name told old new (causes.Read roles.Data) = ⊥
IsLoadStop name told old new causes.Done = ⊥
IsLoadStop name told old new causes.Words = ⊥
IsLoadStop name told old new (causes.Cyclic place names) = ⊥
IsLoadStop name told old new (causes.Run place fault) = ⊥
IsLoadStop name told old new (causes.Spent place) = ⊥
IsLoadStop name told old new causes.Write = ⊥

-- why a file's bytes aren't there: it can't be read for this role, or there is no memory
abbrev pub IsReadStop : FileRole → ℕ → ℕ → Cause → Type 0
IsReadStop role old new (causes.Read other) = (other ≡ role) × HasRisen old new
IsReadStop role old new causes.NoMemory = Unit {0}
IsReadStop role old new (causes.IllFormed place form) = ⊥
IsReadStop role old new (causes.IllTyped place code) = ⊥
IsReadStop role old new causes.Done = ⊥
IsReadStop role old new causes.Words = ⊥
IsReadStop role old new (causes.Cyclic place names) = ⊥
IsReadStop role old new (causes.Run place fault) = ⊥
IsReadStop role old new (causes.Spent place) = ⊥
IsReadStop role old new causes.Write = ⊥

-- reading the named data failed
pub record IsDataFault (name : Option (List ℕ)) (faults faults_after : List ℕ → ℕ) : Type 0 where
  pub file : List ℕ
  pub named : name ≡ Some file
  pub risen : HasRisen (faults file) (faults_after file)

-- why there is no data: its file can't be read, or there is no memory
abbrev pub IsDataStop : Option (List ℕ) → (List ℕ → ℕ) → (List ℕ → ℕ) → Cause → Type 0
IsDataStop name faults faults_after (causes.Read roles.Data) = IsDataFault name faults faults_after
IsDataStop name faults faults_after (causes.Read roles.Program) = ⊥
IsDataStop name faults faults_after causes.NoMemory = Unit {0}
IsDataStop name faults faults_after (causes.IllFormed place form) = ⊥
IsDataStop name faults faults_after (causes.IllTyped place code) = ⊥
IsDataStop name faults faults_after causes.Done = ⊥
IsDataStop name faults faults_after causes.Words = ⊥
IsDataStop name faults faults_after (causes.Cyclic place names) = ⊥
IsDataStop name faults faults_after (causes.Run place fault) = ⊥
IsDataStop name faults faults_after (causes.Spent place) = ⊥
IsDataStop name faults faults_after causes.Write = ⊥

-- the data's file can't be read, and the program's isn't refused
pub record IsDataBlamed (name : List ℕ) (data_file : Option (List ℕ)) (told : Option Held) (faults faults_after : List ℕ → ℕ) : Type 0 where
  pub fault : IsDataFault data_file faults faults_after
  pub holds : (held : Held) → told ≡ Some held → (program : Whole) × IsHeldProgram name held program

-- why these files give no job
abbrev pub IsFilesStop : List ℕ → Option (List ℕ) → Option Held → (List ℕ → ℕ) → (List ℕ → ℕ) → Cause → Type 0
IsFilesStop name data_file told faults faults_after (causes.IllFormed place form) = (held : Held) → told ≡ Some held → IsRefused name held (causes.IllFormed place form)
IsFilesStop name data_file told faults faults_after (causes.IllTyped place code) = (held : Held) → told ≡ Some held → IsRefused name held (causes.IllTyped place code)
IsFilesStop name data_file told faults faults_after causes.NoMemory = Unit {0}
IsFilesStop name data_file told faults faults_after (causes.Read roles.Program) = HasRisen (faults name) (faults_after name)
IsFilesStop name data_file told faults faults_after (causes.Read roles.Data) = IsDataBlamed name data_file told faults faults_after
IsFilesStop name data_file told faults faults_after causes.Done = ⊥
IsFilesStop name data_file told faults faults_after causes.Words = ⊥
IsFilesStop name data_file told faults faults_after (causes.Cyclic place names) = ⊥
IsFilesStop name data_file told faults faults_after (causes.Run place fault) = ⊥
IsFilesStop name data_file told faults faults_after (causes.Spent place) = ⊥
IsFilesStop name data_file told faults faults_after causes.Write = ⊥
