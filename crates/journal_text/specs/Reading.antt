-- Reading the words of a line. What is no spelling gives nothing. That this is the grammar's reading is proved of it.
use Rattle.std.specs.Prelude.{◌≡◌, ℕ, ◌+◌, ◌-◌, ◌*◌, ◌==◌, ℤ, pos, negsuc, Bool, true, false, ◌&&◌, nat_lt, nat_le, Option, Some, None, Result, Ok, Err, List, [], ◌∷◌, length, codes, if◌then◌else◌}
use Rattle.std.specs.Char.{is_ascii_digit}
use Rattle.std.specs.Str.{bytes_eq}
use Rattle.best_turn.specs.declared.replays.Entry.{Entry}
use Rattle.best_monitor.specs.declared.request.Request.TheVariants.{Report, Value, Second, Has, Copy, Stop, Stopped}
use Rattle.best_monitor.specs.declared.request.Reply.{Reply}
use Rattle.best_monitor.specs.declared.request.Reply.TheVariants.{Truth, Number, Missing, Long, Done}
use Rattle.best_monitor.specs.declared.request.Reply.TheVariants.{List as Listed}
use Rattle.pool_monitor.specs.declared.request.PoolRequest.TheVariants.{Add, Size, Rank, Take}
use Rattle.pool_monitor.specs.declared.request.DeskRequest.{DeskRequest}
use Rattle.pool_monitor.specs.declared.request.DeskRequest.TheVariants.{Best, Pool}
use Rattle.journal_text.specs.declared.stop.Stop as stop
use Rattle.journal_text.specs.declared.stop.Stop.TheVariants as stops
use Rattle.journal_text.specs.declared.version.Version.{Version}
use Rattle.journal_text.specs.Grammar.{most_numbers, most_iterations, has_request, may_have}
use Rattle.journal_text.specs.Refusal.{split}

infixl 10 ◌>>=◌
abbrev pub ◌>>=◌ : {A B : Type 0} → Option A → (A → Option B) → Option B
(Some x) >>= f = f x
None >>= f = None

-- what a function returned, seen by view, is what reading gives, unless memory ran out
abbrev pub Gives : {X Y : Type 0} → (X → Y) → Result X stop.Stop → Option Y → Type 0
Gives view (Ok x) read = read ≡ Some (view x)
Gives view (Err stops.NoMemory) read = Unit {0}
Gives view (Err stops.Fault) read = read ≡ None

-- the first of some parts, where others follow, and these
abbrev pub next : List (List ℕ) → Option (List ℕ × List (List ℕ))
next [] = None
next (part ∷ []) = None
next (part ∷ other ∷ parts) = Some (part, other ∷ parts)

-- the one part, where there is no other
abbrev pub only : List (List ℕ) → Option (List ℕ)
only [] = None
only (part ∷ []) = Some part
only (part ∷ other ∷ parts) = None

-- the number with one digit more, below 2^64
abbrev pub more_digit : ℕ → ℕ → Option ℕ
more_digit n byte = if is_ascii_digit byte && nat_lt (n * 10 + (byte - 48)) 18446744073709551616 then Some (n * 10 + (byte - 48)) else None

abbrev pub digits_from : ℕ → List ℕ → Option ℕ
digits_from n [] = Some n
digits_from n (byte ∷ bytes) = more_digit n byte >>= λ m. digits_from m bytes

-- a word isn't empty, and has no zero before other digits
abbrev pub is_plain : List ℕ → Bool
is_plain [] = false
is_plain (byte ∷ bytes) = if byte == 48 then length bytes == 0 else true

unfoldable pub number_of : List ℕ → Option ℕ
number_of word = if is_plain word then digits_from 0 word else None

unfoldable pub number_up_to : ℕ → List ℕ → Option ℕ
number_up_to most word = do
  n ← number_of word
  if nat_le n most then Some n else None

unfoldable pub negative_of : List ℕ → Option ℤ
negative_of word = do
  n ← number_of word
  if nat_lt 0 n && nat_le n 9223372036854775808 then Some (negsuc (n - 1)) else None

unfoldable pub positive_of : List ℕ → Option ℤ
positive_of word = do
  n ← number_of word
  if nat_lt n 9223372036854775808 then Some (pos n) else None

abbrev pub signed_of : List ℕ → Option ℤ
signed_of [] = None
signed_of (byte ∷ bytes) = if byte == 45 then negative_of bytes else positive_of (byte ∷ bytes)

abbrev pub numbers_of : List (List ℕ) → Option (List ℤ)
numbers_of [] = Some []
numbers_of (word ∷ words) = signed_of word >>= λ z. numbers_of words >>= λ zs. Some (z ∷ zs)

-- the part before a bracket, where nothing stands behind it
abbrev pub closed : List (List ℕ) → Option (List ℕ)
closed [] = None
closed (part ∷ []) = None
closed (part ∷ behind ∷ []) = if length behind == 0 then Some part else None
closed (part ∷ behind ∷ other ∷ parts) = None

-- what stands in brackets
abbrev pub inside_of : List ℕ → Option (List ℕ)
inside_of [] = None
inside_of (byte ∷ bytes) = if byte == 91 then closed (split 93 bytes) else None

abbrev pub listed_of : List ℕ → Option (List ℤ)
listed_of inside = if length inside == 0 then Some [] else numbers_of (split 44 inside)

unfoldable pub list_of : List ℕ → Option (List ℤ)
list_of word = do
  inside ← inside_of word
  list ← listed_of inside
  if nat_le (length list) most_numbers then Some list else None

-- what the first word says, and the words behind it
unfoldable pub field : {A : Type 0} → (List ℕ → Option A) → List (List ℕ) → Option (A × List (List ℕ))
field part words = do
  word ← next words
  a ← part word.0
  Some (a, word.1)

-- the number of a monitor or of a pool
abbrev pub index_of : List ℕ → Option ℕ
index_of word = number_up_to 4294967295 word

-- a second value, in a version that has them
unfoldable pub second_of : Version → List (List ℕ) → Option (ℤ × List (List ℕ))
second_of v words = if v.has_seconds then field signed_of words else Some (pos 0, words)

-- a request, and the words behind it
unfoldable pub report_of : Version → List (List ℕ) → Option (DeskRequest × List (List ℕ))
report_of v words = do
  m ← field index_of words
  value ← field signed_of m.1
  second ← second_of v value.1
  list ← field list_of second.1
  Some (Best (Report m.0 value.0 second.0 list.0), list.1)

unfoldable pub copy_of : List (List ℕ) → Option (DeskRequest × List (List ℕ))
copy_of words = do
  m ← field index_of words
  room ← field number_of m.1
  Some (Best (Copy m.0 room.0), room.1)

unfoldable pub add_of : List (List ℕ) → Option (DeskRequest × List (List ℕ))
add_of words = do
  p ← field index_of words
  value ← field signed_of p.1
  list ← field list_of value.1
  Some (Pool (Add p.0 value.0 list.0), list.1)

unfoldable pub rank_of : List (List ℕ) → Option (DeskRequest × List (List ℕ))
rank_of words = do
  p ← field index_of words
  rank ← field signed_of p.1
  Some (Pool (Rank p.0 rank.0), rank.1)

unfoldable pub take_of : List (List ℕ) → Option (DeskRequest × List (List ℕ))
take_of words = do
  p ← field index_of words
  rank ← field signed_of p.1
  room ← field number_of rank.1
  Some (Pool (Take p.0 rank.0 room.0), room.1)

-- a request of which only the number is told
unfoldable pub plain_of : (ℕ → DeskRequest) → List (List ℕ) → Option (DeskRequest × List (List ℕ))
plain_of request words = do
  m ← field index_of words
  Some (request m.0, m.1)

-- a request to a pool
abbrev pub pool_of : List ℕ → List (List ℕ) → Option (DeskRequest × List (List ℕ))
pool_of name words =
    if bytes_eq name (codes "add") then add_of words
    else if bytes_eq name (codes "size") then plain_of (λ p. Pool (Size p)) words
    else if bytes_eq name (codes "rank") then rank_of words
    else if bytes_eq name (codes "take") then take_of words
    else None

abbrev pub named_of : Version → List ℕ → List (List ℕ) → Option (DeskRequest × List (List ℕ))
named_of v name words =
    if bytes_eq name (codes "report") then report_of v words
    else if bytes_eq name (codes "value") then plain_of (λ m. Best (Value m)) words
    else if bytes_eq name (codes "second") then plain_of (λ m. Best (Second m)) words
    else if bytes_eq name (codes "has") then plain_of (λ m. Best (Has m)) words
    else if bytes_eq name (codes "copy") then copy_of words
    else if bytes_eq name (codes "stop") then plain_of (λ m. Best (Stop m)) words
    else if bytes_eq name (codes "stopped") then plain_of (λ m. Best (Stopped m)) words
    else pool_of name words

unfoldable pub request_of : Version → List (List ℕ) → Option (DeskRequest × List (List ℕ))
request_of v words = do
  name ← next words
  named_of v name.0 name.1

-- whether a byte begins a number
abbrev pub begins_number : ℕ → Bool
begins_number byte = if byte == 45 then true else is_ascii_digit byte

unfoldable pub number_reply : List ℕ → Option Reply
number_reply word = do
  z ← signed_of word
  Some (Number z)

unfoldable pub list_reply : List ℕ → Option Reply
list_reply word = do
  zs ← list_of word
  Some (Listed zs)

abbrev pub word_reply : List ℕ → Option Reply
word_reply word =
    if bytes_eq word (codes "true") then Some (Truth true)
    else if bytes_eq word (codes "false") then Some (Truth false)
    else if bytes_eq word (codes "none") then Some Missing
    else if bytes_eq word (codes "ok") then Some Done
    else None

-- a reply of one word
abbrev pub short_reply : List ℕ → Option Reply
short_reply [] = None
short_reply (byte ∷ bytes) =
    if begins_number byte then number_reply (byte ∷ bytes)
    else if byte == 91 then list_reply (byte ∷ bytes)
    else word_reply (byte ∷ bytes)

-- a reply of two words
unfoldable pub long_reply : List ℕ → List ℕ → Option Reply
long_reply name word = do
  n ← number_of word
  if bytes_eq name (codes "long") then Some (Long n) else None

-- a reply, whose words are all that are left
abbrev pub reply_of : List (List ℕ) → Option Reply
reply_of [] = None
reply_of (word ∷ []) = short_reply word
reply_of (name ∷ word ∷ []) = long_reply name word
reply_of (name ∷ word ∷ other ∷ words) = None

-- whether these are an entry's arrow, iteration, request and reply, in a loop of n iterations
abbrev pub is_entry : Version → ℕ → List ℕ → ℕ → DeskRequest → Reply → Bool
is_entry v n arrow iteration request reply = bytes_eq arrow (codes "->") && nat_lt iteration n && has_request v request && may_have request reply

-- an entry of a loop of n iterations
unfoldable pub entry_of : Version → ℕ → List (List ℕ) → Option (Entry DeskRequest Reply)
entry_of v n words = do
  iteration ← field index_of words
  request ← request_of v iteration.1
  arrow ← next request.1
  reply ← reply_of arrow.1
  if is_entry v n arrow.0 iteration.0 request.0 reply then Some (record { iteration = iteration.0; request = request.0; reply = reply }) else None

-- how many iterations a loop's line says
unfoldable pub loop_of : List (List ℕ) → Option ℕ
loop_of words = do
  name ← next words
  word ← only name.1
  n ← number_up_to most_iterations word
  if bytes_eq name.0 (codes "loop") then Some n else None
