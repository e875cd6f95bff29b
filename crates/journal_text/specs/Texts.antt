-- How a journal writes requests, replies and loops: words with a space between them. Numbers are decimal, without
-- leading zeros, and with a minus before a negative one. A rule of this project.
use Rattle.std.specs.Prelude.{ℕ, ℤ, true, false, List, [], ◌∷◌, ◌++◌, map, codes, if◌then◌else◌}
use Rattle.std.specs.Fmt.{decimal, signed_decimal}
use Rattle.best_monitor.specs.declared.request.Request.{Request}
use Rattle.best_monitor.specs.declared.request.Request.TheVariants.{Report, Value, Second, Has, Copy, Stop, Stopped}
use Rattle.best_monitor.specs.declared.request.Reply.{Reply}
use Rattle.best_monitor.specs.declared.request.Reply.TheVariants.{Truth, Number, Missing, Long, Done}
use Rattle.best_monitor.specs.declared.request.Reply.TheVariants.{List as Listed}
use Rattle.pool_monitor.specs.declared.request.PoolRequest.{PoolRequest}
use Rattle.pool_monitor.specs.declared.request.PoolRequest.TheVariants.{Add, Size, Rank, Take}
use Rattle.pool_monitor.specs.declared.request.DeskRequest.{DeskRequest}
use Rattle.pool_monitor.specs.declared.request.DeskRequest.TheVariants.{Best, Pool}
use Rattle.journal_text.specs.declared.version.Version.{Version}
use Rattle.journal_text.specs.Versions.{version_3}

-- parts with this byte between them
abbrev pub joined : ℕ → List (List ℕ) → List ℕ
joined byte [] = []
joined byte (part ∷ []) = part
joined byte (part ∷ next ∷ parts) = part ++ byte ∷ joined byte (next ∷ parts)

-- a list in brackets, with commas between its numbers
abbrev pub list_text : List ℤ → List ℕ
list_text numbers = codes "[" ++ joined 44 (map signed_decimal numbers) ++ codes "]"

-- the word for a second value, in a version that has them
abbrev pub second_words : Version → ℤ → List (List ℕ)
second_words v second = if v.has_seconds then signed_decimal second ∷ [] else []

-- a request to a monitor
abbrev pub best_words : Version → Request → List (List ℕ)
best_words v (Report m value second list) = codes "report" ∷ decimal m ∷ signed_decimal value ∷ (second_words v second ++ list_text list ∷ [])
best_words v (Value m) = codes "value" ∷ decimal m ∷ []
best_words v (Second m) = codes "second" ∷ decimal m ∷ []
best_words v (Has m) = codes "has" ∷ decimal m ∷ []
best_words v (Copy m room) = codes "copy" ∷ decimal m ∷ decimal room ∷ []
best_words v (Stop m) = codes "stop" ∷ decimal m ∷ []
best_words v (Stopped m) = codes "stopped" ∷ decimal m ∷ []

-- a request to a pool
abbrev pub pool_words : PoolRequest → List (List ℕ)
pool_words (Add p value list) = codes "add" ∷ decimal p ∷ signed_decimal value ∷ list_text list ∷ []
pool_words (Size p) = codes "size" ∷ decimal p ∷ []
pool_words (Rank p rank) = codes "rank" ∷ decimal p ∷ signed_decimal rank ∷ []
pool_words (Take p rank room) = codes "take" ∷ decimal p ∷ signed_decimal rank ∷ decimal room ∷ []

abbrev pub request_words : Version → DeskRequest → List (List ℕ)
request_words v (Best request) = best_words v request
request_words v (Pool request) = pool_words request

abbrev pub reply_words : Reply → List (List ℕ)
reply_words (Truth true) = codes "true" ∷ []
reply_words (Truth false) = codes "false" ∷ []
reply_words (Number value) = signed_decimal value ∷ []
reply_words (Listed list) = list_text list ∷ []
reply_words Missing = codes "none" ∷ []
reply_words (Long size) = codes "long" ∷ decimal size ∷ []
reply_words Done = codes "ok" ∷ []

-- a request by itself, as the newest version writes it
abbrev pub request_text : DeskRequest → List ℕ
request_text request = joined 32 (request_words version_3 request)

abbrev pub reply_text : Reply → List ℕ
reply_text reply = joined 32 (reply_words reply)

-- the line with which a loop of n iterations begins
abbrev pub loop_text : ℕ → List ℕ
loop_text n = joined 32 (codes "loop" ∷ decimal n ∷ [])
