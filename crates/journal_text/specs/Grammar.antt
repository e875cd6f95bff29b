-- The grammar of journals. A journal is its version's header, then for each loop its line and a line for each of its
-- entries, then `end`; a line feed ends each line, and nothing follows. A rule of this project.
use Rattle.std.specs.Prelude.{◌≡◌, ℕ, ℤ, ◌<◌, ◌≤◌, ◌^◌, ◌==◌, Bool, true, false, List, [], ◌∷◌, ◌++◌, length, map, codes, nat_abs, if◌then◌else◌}
use Rattle.std.specs.List.{flat_map, AllByRecursion}
use Rattle.std.specs.Fmt.{decimal}
use Rattle.std.specs.Int.{w64}
use Rattle.std.specs.Int.RustNames.{FitsSigned}
use Rattle.cbl_base.specs.declared.limits.TheConstants.{MAX_ITERATIONS, MAX_JOURNAL_UNITS}
use Rattle.best_turn.specs.declared.replays.Entry.{Entry}
use Rattle.best_monitor.specs.declared.request.Request.{Request}
use Rattle.best_monitor.specs.declared.request.Request.TheVariants.{Report, Value, Second, Has, Copy, Stop, Stopped}
use Rattle.best_monitor.specs.declared.request.Reply.{Reply}
use Rattle.best_monitor.specs.declared.request.Reply.TheVariants.{Truth, Number, Missing, Long, Done}
use Rattle.best_monitor.specs.declared.request.Reply.TheVariants.{List as Listed}
use Rattle.pool_monitor.specs.declared.journal.LoopHistory.{LoopHistory}
use Rattle.pool_monitor.specs.declared.request.PoolRequest.{PoolRequest}
use Rattle.pool_monitor.specs.declared.request.PoolRequest.TheVariants.{Add, Size, Rank, Take}
use Rattle.pool_monitor.specs.declared.request.DeskRequest.{DeskRequest}
use Rattle.pool_monitor.specs.declared.request.DeskRequest.TheVariants.{Best, Pool}
use Rattle.journal_text.specs.declared.version.Version.{Version}
use Rattle.journal_text.specs.Versions.{IsVersion}
use Rattle.journal_text.specs.Texts.{request_words, reply_words, loop_text, joined}

abbrev pub is_truth : Reply → Bool
is_truth (Truth holds) = true
is_truth _ = false

abbrev pub is_number : Reply → Bool
is_number (Number value) = true
is_number _ = false

abbrev pub is_value : Reply → Bool
is_value (Number value) = true
is_value Missing = true
is_value _ = false

abbrev pub is_copy : Reply → Bool
is_copy (Listed list) = true
is_copy Missing = true
is_copy (Long size) = true
is_copy _ = false

abbrev pub is_done : Reply → Bool
is_done Done = true
is_done _ = false

-- which replies a request to a monitor has. Of a list it isn't asked that it fits the request's room.
abbrev pub best_may_have : Request → Reply → Bool
best_may_have (Report m value second list) reply = is_truth reply
best_may_have (Value m) reply = is_value reply
best_may_have (Second m) reply = is_value reply
best_may_have (Has m) reply = is_truth reply
best_may_have (Copy m room) reply = is_copy reply
best_may_have (Stop m) reply = is_done reply
best_may_have (Stopped m) reply = is_truth reply

-- which replies a request to a pool has
abbrev pub pool_may_have : PoolRequest → Reply → Bool
pool_may_have (Add p value list) reply = is_truth reply
pool_may_have (Size p) reply = is_number reply
pool_may_have (Rank p rank) reply = is_value reply
pool_may_have (Take p rank room) reply = is_copy reply

abbrev pub may_have : DeskRequest → Reply → Bool
may_have (Best request) reply = best_may_have request reply
may_have (Pool request) reply = pool_may_have request reply

-- whether a version has a request to a monitor
abbrev pub has_best : Version → Request → Bool
has_best v (Report m value second list) = if v.has_seconds then true else nat_abs second == 0
has_best v (Value m) = true
has_best v (Second m) = v.has_seconds
has_best v (Has m) = true
has_best v (Copy m room) = true
has_best v (Stop m) = true
has_best v (Stopped m) = true

-- whether a version has a request
abbrev pub has_request : Version → DeskRequest → Bool
has_request v (Best request) = has_best v request
has_request v (Pool request) = v.has_pools

-- the most iterations of a loop, and the most numbers of a list, each of which is a unit of the journal
abbrev pub most_iterations : ℕ
most_iterations = MAX_ITERATIONS

abbrev pub most_numbers : ℕ
most_numbers = MAX_JOURNAL_UNITS

abbrev pub FitsList : List ℤ → Type 0
FitsList list = (length list ≤ most_numbers) × AllByRecursion (FitsSigned w64) list

-- the numbers of a request to a monitor are in their ranges
abbrev pub FitsBest : Request → Type 0
FitsBest (Report m value second list) = (m < 2 ^ 32) × FitsSigned w64 value × FitsSigned w64 second × FitsList list
FitsBest (Value m) = m < 2 ^ 32
FitsBest (Second m) = m < 2 ^ 32
FitsBest (Has m) = m < 2 ^ 32
FitsBest (Copy m room) = (m < 2 ^ 32) × (room < 2 ^ 64)
FitsBest (Stop m) = m < 2 ^ 32
FitsBest (Stopped m) = m < 2 ^ 32

-- and those of a request to a pool
abbrev pub FitsPool : PoolRequest → Type 0
FitsPool (Add p value list) = (p < 2 ^ 32) × FitsSigned w64 value × FitsList list
FitsPool (Size p) = p < 2 ^ 32
FitsPool (Rank p rank) = (p < 2 ^ 32) × FitsSigned w64 rank
FitsPool (Take p rank room) = (p < 2 ^ 32) × FitsSigned w64 rank × (room < 2 ^ 64)

abbrev pub FitsRequest : DeskRequest → Type 0
FitsRequest (Best request) = FitsBest request
FitsRequest (Pool request) = FitsPool request

abbrev pub FitsReply : Reply → Type 0
FitsReply (Truth holds) = Unit {0}
FitsReply (Number value) = FitsSigned w64 value
FitsReply (Listed list) = FitsList list
FitsReply Missing = Unit {0}
FitsReply (Long size) = size < 2 ^ 64
FitsReply Done = Unit {0}

module _ (v : Version) where
  -- an entry of a loop of n iterations
  pub record FitsEntry (n : ℕ) (e : Entry DeskRequest Reply) : Type 0 where
    pub iteration : e.iteration < n
    pub request : FitsRequest e.request
    pub reply : FitsReply e.reply
    pub pair : may_have e.request e.reply ≡ true
    pub version : has_request v e.request ≡ true

  pub record FitsLoop (h : LoopHistory) : Type 0 where
    pub iterations : h.iterations ≤ most_iterations
    pub entries : AllByRecursion (FitsEntry h.iterations) h.entries

  -- a journal within the bounds, of requests that the version has
  abbrev pub IsJournal : List LoopHistory → Type 0
  IsJournal journal = AllByRecursion FitsLoop journal

  abbrev pub entry_words : Entry DeskRequest Reply → List (List ℕ)
  entry_words e = decimal e.iteration ∷ (request_words v e.request ++ codes "->" ∷ reply_words e.reply)

  abbrev pub entry_line : Entry DeskRequest Reply → List ℕ
  entry_line e = joined 32 (entry_words e)

  abbrev pub loop_lines : LoopHistory → List (List ℕ)
  loop_lines h = loop_text h.iterations ∷ map entry_line h.entries

  abbrev pub journal_lines : List LoopHistory → List (List ℕ)
  journal_lines journal = (v.header ∷ flat_map loop_lines journal) ++ codes "end" ∷ []

-- lines, each with a line feed behind it
abbrev pub ended : List (List ℕ) → List ℕ
ended [] = []
ended (line ∷ lines) = line ++ 10 ∷ ended lines

abbrev pub journal_text : Version → List LoopHistory → List ℕ
journal_text v journal = ended (journal_lines v journal)

-- the text is the journal's spelling in one of the versions
pub record Spells (text : List ℕ) (journal : List LoopHistory) : Type 0 where
  pub version : Version
  pub known : IsVersion version
  pub within : IsJournal version journal
  pub spelled : text ≡ journal_text version journal
