-- The line on the standard error that tells why a run ended. `Done` has none. From the language, section
-- on texts.
use Rattle.std.specs.Prelude.{ℕ, List, [], ◌∷◌, ◌++◌, ◌==◌, map, codes, decimal, if◌then◌else◌}
use Rattle.cbl_base.specs.declared.place.Place.{Place}
use Rattle.cbl_base.specs.declared.faults.RunFault.{RunFault}
use Rattle.cbl_base.specs.Faults.{code_of, text_of}
use Rattle.comet_syntax.specs.declared.stop.FormCause.{FormCause}
use Rattle.comet_syntax.specs.declared.stop.FormCause.TheVariants.{Encoding, TooLong, BadToken, WideNumber, Unexpected, UnexpectedEnd, TooDeep, NotBuilt}
use Rattle.comet.specs.declared.report.Cause.{Cause}
use Rattle.comet.specs.declared.report.Cause.TheVariants as causes
use Rattle.comet.specs.declared.report.FileRole.{FileRole}
use Rattle.comet.specs.declared.report.FileRole.TheVariants.{Program, Data}

abbrev pub form_text : FormCause → List ℕ
form_text Encoding = codes "not UTF-8"
form_text TooLong = codes "text too long"
form_text BadToken = codes "bad token"
form_text WideNumber = codes "number too wide"
form_text Unexpected = codes "unexpected token"
form_text UnexpectedEnd = codes "unexpected end of text"
form_text TooDeep = codes "nested too deeply"
form_text NotBuilt = codes "not built yet"

-- the text of a typing rule, by its code from 1 to 12
unfoldable pub type_text : ℕ → List ℕ
type_text code =
    if code == 1 then codes "unknown name" else
    (if code == 2 then codes "name declared twice" else
    (if code == 3 then codes "wrong type" else
    (if code == 4 then codes "wrong number of arguments" else
    (if code == 5 then codes "not pure" else
    (if code == 6 then codes "not allowed in a term" else
    (if code == 7 then codes "a parall body writes an outer name" else
    (if code == 8 then codes "not allowed in a parall body" else
    (if code == 9 then codes "misplaced return" else
    (if code == 10 then codes "cannot be assigned" else
    (if code == 11 then codes "unknown method" else
    (if code == 12 then codes "only LS is supported" else
    [])))))))))))

abbrev pub role_text : FileRole → List ℕ
role_text Program = codes "cannot read program"
role_text Data = codes "cannot read data"

abbrev pub usage_text : List ℕ
usage_text = codes "usage: comet [--data FILE] [--seed N] [--workers N] [--fuel N] [--journal] [--replay FILE] (PROGRAM | --gen N)"

-- pieces, one behind the other
abbrev pub joined : List (List ℕ) → List ℕ
joined [] = []
joined (piece ∷ pieces) = piece ++ joined pieces

abbrev pub plain_line : List ℕ → List ℕ
plain_line text = joined (codes "comet: " ∷ text ∷ codes "\n" ∷ [])

-- `L:C: ` and the text
abbrev pub placed_line : Place → List ℕ → List ℕ
placed_line place text = joined (codes "comet: " ∷ decimal place.line ∷ codes ":" ∷ decimal place.col ∷ codes ": " ∷ text ∷ codes "\n" ∷ [])

-- `L:C`, what stands before a code, the code, a space and the text
abbrev pub coded_line : Place → List ℕ → ℕ → List ℕ → List ℕ
coded_line place letter code text =
    joined (codes "comet: " ∷ decimal place.line ∷ codes ":" ∷ decimal place.col ∷ letter ∷ decimal code ∷ codes " " ∷ text ∷ codes "\n" ∷ [])

-- `L:C: F`, the code, a space and the text
abbrev pub fault_line : Place → RunFault → List ℕ
fault_line place fault = coded_line place (codes ": F") (code_of fault) (text_of fault)

-- `L:C: T`, the code, a space and the text
abbrev pub type_line : Place → ℕ → List ℕ
type_line place code = coded_line place (codes ": T") code (type_text code)

-- the line of a cycle: `L:C: cyclic definition: `, and the names with ` -> ` between two, the first again at the end

-- a name with an arrow behind it
abbrev pub arrowed : List ℕ → List ℕ
arrowed name = joined (name ∷ codes " -> " ∷ [])

abbrev pub first_of : List (List ℕ) → List ℕ
first_of [] = []
first_of (name ∷ names) = name

abbrev pub cycle_start : Place → List (List ℕ)
cycle_start place = codes "comet: " ∷ decimal place.line ∷ codes ":" ∷ decimal place.col ∷ codes ": cyclic definition: " ∷ []

abbrev pub cycle_end : List (List ℕ) → List (List ℕ)
cycle_end names = first_of names ∷ codes "\n" ∷ []

abbrev pub cycle_line : Place → List (List ℕ) → List ℕ
cycle_line place names = joined (cycle_start place ++ joined (map arrowed names) ∷ cycle_end names)

abbrev pub line_of : Cause → List ℕ
line_of causes.Done = []
line_of causes.Words = plain_line usage_text
line_of (causes.IllFormed place cause) = placed_line place (form_text cause)
line_of (causes.IllTyped place code) = type_line place code
line_of (causes.Cyclic place names) = cycle_line place names
line_of (causes.Run place fault) = fault_line place fault
line_of (causes.Spent place) = placed_line place (codes "fuel spent")
line_of causes.NoMemory = plain_line (codes "no memory")
line_of (causes.Read role) = plain_line (role_text role)
line_of causes.Write = plain_line (codes "cannot write")
