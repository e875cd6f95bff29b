-- Why files give no job, and why words give none.
use Rattle.std.proofs.Common.{◌≡◌, ◌≢◌, ◌≤◌, ◌↔◌, ℕ, List, [], Option, Some, None, option_map, take, ◌+◌, refl, sym, ◌∙◌, ap, subst}
use Rattle.std.specs.FinMap as map
use Rattle.cbl_io.specs.Held.{Held, IsRead}
use Rattle.checked_tree.specs.Tasks.{Whole}
use Rattle.comet_meaning.specs.Limits.{most_data}
use Rattle.comet_meaning.specs.Users.{User}
use Rattle.comet_words.specs.Asked.{Asked, asked}
use Rattle.comet.specs.Asking.{program_named}
use Rattle.comet.specs.Headline.{IsHeldProgram, IsBlamed}
use Rattle.comet.specs.Loading.{IsTextStop, IsRefused, IsLoadStop, IsDataStop, IsFilesStop, IsFrontStop}
use Rattle.comet.specs.Output.{GivesAsked, GivesNamed, GivesHeld, Gives, ill_formed, ill_typed, RunOutput, data_of}
use Rattle.comet.specs.declared.report.Cause.{Cause}
use Rattle.comet.specs.declared.report.Cause.TheVariants as causes
use Rattle.comet.specs.declared.report.FileRole.{FileRole}
use Rattle.comet.specs.declared.report.FileRole.TheVariants as roles
use Rattle.comet.proofs.Faulty.{risen_before}

-- data that is read
pub read_data : (told : Option Held) (file text : List ℕ) → IsRead told file most_data text → (held : Held) → told ≡ Some held → data_of (Some file) held ≡ Some text
read_data told file text read held is_told =
    let r : IsRead (Some held) file most_data text = subst (λ o. IsRead o file most_data text) is_told read in
    ap (option_map (take (most_data + 1))) r.1 ∙ ap Some (sym r.2)

-- a program that can't be loaded gives no job
pub program_stops : (name : List ℕ) (data_file : Option (List ℕ)) (told : Option Held) (old new : List ℕ → ℕ) (cause : Cause) → IsLoadStop name told (old name) (new name) cause → IsFilesStop name data_file told old new cause
program_stops name data_file told old new (causes.IllFormed place form) stop = stop
program_stops name data_file told old new (causes.IllTyped place code) stop = stop
program_stops name data_file told old new causes.NoMemory stop = tt
program_stops name data_file told old new (causes.Read roles.Program) stop = stop
program_stops name data_file told old new (causes.Read roles.Data) stop = absurd stop
program_stops name data_file told old new causes.Done stop = absurd stop
program_stops name data_file told old new causes.Words stop = absurd stop
program_stops name data_file told old new (causes.Cyclic place names) stop = absurd stop
program_stops name data_file told old new (causes.Run place fault) stop = absurd stop
program_stops name data_file told old new (causes.Spent place) stop = absurd stop
program_stops name data_file told old new causes.Write stop = absurd stop

-- nor does data that can't be read behind a program
pub data_stops_files : (name : List ℕ) (data_file : Option (List ℕ)) (told : Option Held) (old middle new : List ℕ → ℕ) (program : Whole) (cause : Cause) →
    ((other : List ℕ) → old other ≤ middle other) → ((held : Held) → told ≡ Some held → IsHeldProgram name held program) →
    IsDataStop data_file middle new cause → IsFilesStop name data_file told old new cause
data_stops_files name data_file told old middle new program (causes.Read roles.Data) low holds stop = record {
  fault = record { file = stop.file; named = stop.named; risen = risen_before _ _ _ (low stop.file) stop.risen };
  holds = λ held is_told. (program, holds held is_told);
}
data_stops_files name data_file told old middle new program (causes.Read roles.Program) low holds stop = absurd stop
data_stops_files name data_file told old middle new program causes.NoMemory low holds stop = tt
data_stops_files name data_file told old middle new program (causes.IllFormed place form) low holds stop = absurd stop
data_stops_files name data_file told old middle new program (causes.IllTyped place code) low holds stop = absurd stop
data_stops_files name data_file told old middle new program causes.Done low holds stop = absurd stop
data_stops_files name data_file told old middle new program causes.Words low holds stop = absurd stop
data_stops_files name data_file told old middle new program (causes.Cyclic place names) low holds stop = absurd stop
data_stops_files name data_file told old middle new program (causes.Run place fault) low holds stop = absurd stop
data_stops_files name data_file told old middle new program (causes.Spent place) low holds stop = absurd stop
data_stops_files name data_file told old middle new program causes.Write low holds stop = absurd stop

-- what the program's file gives is what the words give
pub gives_words : (users : List User) (words : List (List ℕ)) (asks : Asked) (name : List ℕ) (held : Held) (cause : Cause) (printed : List ℕ) → Some asks ≡ asked words → Some name ≡ program_named asks →
    GivesHeld users (map.get held name) asks.seed asks.fuel (data_of asks.data_file held) cause printed → RunOutput users words held cause printed
gives_words users words asks name held cause printed is_asked named given =
    subst (λ o. GivesAsked users o held cause printed) is_asked (subst (λ o. GivesNamed users o asks held cause printed) named given)

pub words_give : (users : List User) (words : List (List ℕ)) (asks : Asked) (name : List ℕ) (held : Held) (cause : Cause) (printed : List ℕ) → Some asks ≡ asked words → Some name ≡ program_named asks →
    RunOutput users words held cause printed → GivesHeld users (map.get held name) asks.seed asks.fuel (data_of asks.data_file held) cause printed
words_give users words asks name held cause printed is_asked named given =
    subst (λ o. GivesNamed users o asks held cause printed) (sym named) (subst (λ o. GivesAsked users o held cause printed) (sym is_asked) given)

-- words that ask for something are in form
in_form : (words : List (List ℕ)) (asks : Asked) → Some asks ≡ asked words → asked words ≢ None
in_form words asks is_asked e = let same : Some asks ≡ None = is_asked ∙ e in absurd cc

never : (words : List (List ℕ)) (asks : Asked) (status : ℕ) → Some asks ≡ asked words → status ≢ 1 → (status ≡ 1) ↔ (asked words ≡ None)
never words asks status is_asked other = (λ e. absurd (other e), λ e. absurd (in_form words asks is_asked e))

abbrev role_or : FileRole → Cause → FileRole
role_or other (causes.Read role) = role
role_or other cause = other

blamed : (words : List (List ℕ)) (told : Option Held) (old new : List ℕ → ℕ) (mine : FileRole) → IsBlamed words told old new mine →
    (role : FileRole) → causes.Read mine ≡ causes.Read role → IsBlamed words told old new role
blamed words told old new mine b role e = subst (λ r. IsBlamed words told old new r) (ap (role_or mine) e) b

refused_gives : (users : List User) (name : List ℕ) (held : Held) (seed fuel : ℕ) (text : Option (List ℕ)) (cause : Cause) → IsRefused name held cause → ((found : List ℕ) → IsTextStop found cause → Gives users found seed fuel text cause []) →
    GivesHeld users (map.get held name) seed fuel text cause []
refused_gives users name held seed fuel text cause r gives = subst (λ o. GivesHeld users o seed fuel text cause []) (sym r.found) (gives r.text r.stop)

pub files_stop : (words : List (List ℕ)) (told : Option Held) (old new : List ℕ → ℕ) (asks : Asked) (name : List ℕ) (cause : Cause) → Some asks ≡ asked words → Some name ≡ program_named asks →
    IsFilesStop name asks.data_file told old new cause → IsFrontStop words told old new cause
files_stop words told old new asks name (causes.IllFormed place form) is_asked named stop = record {
  wordless = never words asks 2 is_asked (λ e. absurd cc);
  given = λ users held is_told decides. gives_words users words asks name held _ [] is_asked named
      (refused_gives users name held _ _ _ _ (stop held is_told) (λ found s. ill_formed (record { place = place; form = form; refused = s; ends = refl; prints = refl })));
  read = λ role e. absurd cc;
  reads_only = λ e. absurd cc;
}
files_stop words told old new asks name (causes.IllTyped place code) is_asked named stop = record {
  wordless = never words asks 3 is_asked (λ e. absurd cc);
  given = λ users held is_told decides. gives_words users words asks name held _ [] is_asked named
      (refused_gives users name held _ _ _ _ (stop held is_told) (λ found s. ill_typed (record { place = place; code = code; refused = s; ends = refl; prints = refl })));
  read = λ role e. absurd cc;
  reads_only = λ e. absurd cc;
}
files_stop words told old new asks name causes.NoMemory is_asked named stop = record {
  wordless = never words asks 7 is_asked (λ e. absurd cc);
  given = λ users held is_told decides. absurd (decides.0 refl);
  read = λ role e. absurd cc;
  reads_only = λ e. absurd cc;
}
files_stop words told old new asks name (causes.Read roles.Program) is_asked named stop = record {
  wordless = never words asks 8 is_asked (λ e. absurd cc);
  given = λ users held is_told decides. absurd (decides.1 refl);
  read = blamed words told old new roles.Program (record { asks = asks; asked_is = sym is_asked; name = name; named = sym named; risen = stop; reached = λ held is_told. tt });
  reads_only = λ e. absurd cc;
}
files_stop words told old new asks name (causes.Read roles.Data) is_asked named stop = record {
  wordless = never words asks 8 is_asked (λ e. absurd cc);
  given = λ users held is_told decides. absurd (decides.1 refl);
  read = blamed words told old new roles.Data (record {
    asks = asks;
    asked_is = sym is_asked;
    name = stop.fault.file;
    named = stop.fault.named;
    risen = stop.fault.risen;
    reached = λ held is_told. record { name = name; named = sym named; program = (stop.holds held is_told).0; holds = (stop.holds held is_told).1 };
  });
  reads_only = λ e. absurd cc;
}
files_stop words told old new asks name causes.Done is_asked named stop = absurd stop
files_stop words told old new asks name causes.Words is_asked named stop = absurd stop
files_stop words told old new asks name (causes.Cyclic place names) is_asked named stop = absurd stop
files_stop words told old new asks name (causes.Run place fault) is_asked named stop = absurd stop
files_stop words told old new asks name (causes.Spent place) is_asked named stop = absurd stop
files_stop words told old new asks name causes.Write is_asked named stop = absurd stop
