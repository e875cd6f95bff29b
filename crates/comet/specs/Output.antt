-- The output of a whole run: the words ask for files, the program's text is at most one checked program, and that program's
-- meaning, with the seed, the fuel and the data that the words ask for, says what is printed and how the run ends. Every other text is
-- refused at one place. A rule of this project.
use Rattle.std.specs.Prelude.{◌≡◌, ◌≢◌, ◌+◌, ℕ, List, [], Option, Some, None, option_map, take}
use Rattle.std.specs.FinMap as map
use Rattle.cbl_base.specs.declared.place.Place.{Place}
use Rattle.cbl_io.specs.Appended.{Appends}
use Rattle.cbl_io.specs.Held.{Held}
use Rattle.checked_tree.specs.Tasks.{Whole}
use Rattle.comet_front.specs.Reading.{HasProgram, IsIllFormed, IsIllTyped}
use Rattle.comet_meaning.specs.Limits.{most_data}
use Rattle.comet_meaning.specs.Program.{Meant, run}
use Rattle.comet_meaning.specs.State.{State, first_state}
use Rattle.comet_meaning.specs.Users.{User}
use Rattle.comet_syntax.specs.Place.{first_place}
use Rattle.comet_syntax.specs.declared.stop.FormCause.{FormCause}
use Rattle.comet_syntax.specs.declared.stop.FormCause.TheVariants.{NotBuilt}
use Rattle.comet_words.specs.Asked.{Asked, asked}
use Rattle.comet.specs.Asking.{program_named}
use Rattle.comet.specs.Status.{cause_of}
use Rattle.comet.specs.declared.report.Cause.{Cause}
use Rattle.comet.specs.declared.report.Cause.TheVariants as causes
use Rattle.comet.specs.declared.report.FileRole.TheVariants.{Program, Data}

-- the data of a run: none, or the named file's first 16 MiB and one byte more, which tells that there is too much
abbrev pub data_of : Option (List ℕ) → Held → Option (List ℕ)
data_of None held = Some []
data_of (Some name) held = option_map (take (most_data + 1)) (map.get held name)

-- the state at the start of a run with this seed, this fuel, this data and these users' constraints
unfoldable pub start_with : (users : List User) → ℕ → ℕ → List ℕ → State
start_with users seed fuel text = first_state seed fuel text users

-- what a program does from there
abbrev pub meant_with : (users : List User) → Whole → ℕ → ℕ → List ℕ → Meant
meant_with users program seed fuel text = run program (start_with users seed fuel text)

-- what a program gives with these
abbrev pub Runs : (users : List User) → Whole → ℕ → ℕ → List ℕ → Cause → List ℕ → Type 0
Runs users program seed fuel text cause printed = (cause ≡ cause_of (meant_with users program seed fuel text).end) × (printed ≡ (meant_with users program seed fuel text).printed)

-- the same, where the data may not be there
abbrev pub RunsWith : (users : List User) → Whole → ℕ → ℕ → Option (List ℕ) → Cause → List ℕ → Type 0
RunsWith users program seed fuel None cause printed = (cause ≡ causes.Read Data) × (printed ≡ [])
RunsWith users program seed fuel (Some text) cause printed = Runs users program seed fuel text cause printed

-- what a text gives that is a checked program
pub record Accepts (users : List User) (text : List ℕ) (seed fuel : ℕ) (data_text : Option (List ℕ)) (cause : Cause) (printed : List ℕ) : Type 0 where
  pub program : Whole
  pub has : HasProgram text program
  pub runs : RunsWith users program seed fuel data_text cause printed

-- what a text gives that is refused
pub record Refuses (text : List ℕ) (cause : Cause) (printed : List ℕ) : Type 0 where
  pub place : Place
  pub form : FormCause
  pub refused : IsIllFormed text place form
  pub ends : cause ≡ causes.IllFormed place form
  pub prints : printed ≡ []

-- what a text gives whose tree is refused by the rules of types and effects
pub record RefusesType (text : List ℕ) (cause : Cause) (printed : List ℕ) : Type 0 where
  pub place : Place
  pub code : ℕ
  pub refused : IsIllTyped text place code
  pub ends : cause ≡ causes.IllTyped place code
  pub prints : printed ≡ []

pub data Gives (users : List User) (text : List ℕ) (seed fuel : ℕ) (data_text : Option (List ℕ)) (cause : Cause) (printed : List ℕ) : Type 0 where
  accepted : Accepts users text seed fuel data_text cause printed → Gives users text seed fuel data_text cause printed
  ill_formed : Refuses text cause printed → Gives users text seed fuel data_text cause printed
  ill_typed : RefusesType text cause printed → Gives users text seed fuel data_text cause printed

-- what a program's file gives, by what it holds
abbrev pub GivesHeld : (users : List User) → Option (List ℕ) → ℕ → ℕ → Option (List ℕ) → Cause → List ℕ → Type 0
GivesHeld users None seed fuel data_text cause printed = (cause ≡ causes.Read Program) × (printed ≡ [])
GivesHeld users (Some text) seed fuel data_text cause printed = Gives users text seed fuel data_text cause printed

-- what words give, by the program's file, where all that they ask for is built
abbrev pub GivesNamed : (users : List User) → Option (List ℕ) → Asked → Held → Cause → List ℕ → Type 0
GivesNamed users None asks held cause printed = (cause ≡ causes.IllFormed first_place NotBuilt) × (printed ≡ [])
GivesNamed users (Some name) asks held cause printed = GivesHeld users (map.get held name) asks.seed asks.fuel (data_of asks.data_file held) cause printed

-- what words give, by what they ask for, where they are in form
abbrev pub GivesAsked : (users : List User) → Option Asked → Held → Cause → List ℕ → Type 0
GivesAsked users None held cause printed = (cause ≡ causes.Words) × (printed ≡ [])
GivesAsked users (Some asks) held cause printed = GivesNamed users (program_named asks) asks held cause printed

-- the output of a whole run
abbrev pub RunOutput : (users : List User) → List (List ℕ) → Held → Cause → List ℕ → Type 0
RunOutput users words = GivesAsked users (asked words)

-- the statuses that the words and the files alone decide: not want of memory, nor a fault outside
abbrev pub Decides : ℕ → Type 0
Decides status = (status ≢ 7) × (status ≢ 8) × (status ≢ 9)

-- the run ended with a cause that is given, and the sink has the bytes that are given with it behind those that it had
pub record EndsAsMeant (Given : Cause → List ℕ → Type 0) (cause : Cause) (old new : Option (List ℕ)) : Type 0 where
  pub printed : List ℕ
  pub given : Given cause printed
  pub written : Appends old new printed
