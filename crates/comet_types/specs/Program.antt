-- The judgement of a program: the checked tree, or the first part in order of checking whose rule has no case. From
-- the language.
use Rattle.std.specs.Prelude.{ℕ, ◌≡◌, List, [], ◌∷◌, ◌++◌, map, Result, Ok, Err}
use Rattle.cbl_base.specs.declared.place.Place.{Place}
use Rattle.comet_syntax.specs.declared.tree.program.Program.{Program}
use Rattle.comet_syntax.specs.declared.tree.program.TopPart.{TopPart}
use Rattle.comet_syntax.specs.declared.tree.program.TopPart.TheVariants as parts
use Rattle.checked_tree.specs.declared.statements.Checked.{Checked}
use Rattle.checked_tree.specs.declared.stop.Cause.{Cause}
use Rattle.checked_tree.specs.declared.stop.Cause.TheVariants as cause
use Rattle.checked_tree.specs.Tasks.{Whole, program_of}
use Rattle.type_scopes.specs.Functions.{nothing_known}
use Rattle.type_scopes.specs.State.{State, Outcome, Went, Refused, Check, give, then_do, ◌>>=◌, each}
use Rattle.comet_types.specs.declared.program.CheckStop.{CheckStop}
use Rattle.comet_types.specs.declared.program.CheckStop.TheVariants as stops
use Rattle.comet_types.specs.Functions.{top, function_form}
use Rattle.type_statements.specs.Statements.{statement_of}

-- a part, behind those before it; imports have no effect
unfoldable pub part_form : TopPart → Whole → Check Whole
part_form (parts.Import n) p = give p
part_form (parts.Include t) p = give p
part_form (parts.Function f) p = function_form f.value >>= λ x. give (record p { functions = p.functions ++ x ∷ [] })
part_form (parts.Statement st) p = statement_of st top >>= λ x. give (record p { tasks = p.tasks ++ x ∷ [] })

abbrev pub next_part : Whole → (Whole → Check Whole) → Check Whole
next_part p part = part p

abbrev pub no_part : Whole
no_part = record { functions = []; tasks = [] }

abbrev pub program_form : Program → Check Whole
program_form p = each next_part (map part_form p.parts.items) no_part

-- the code that a user sees: T1 to T12
abbrev pub code_of : Cause → ℕ
code_of cause.UnknownName = 1
code_of cause.DeclaredTwice = 2
code_of cause.WrongType = 3
code_of cause.WrongCount = 4
code_of cause.NotPure = 5
code_of cause.NotInTerm = 6
code_of cause.WritesOuter = 7
code_of cause.NotInParall = 8
code_of cause.MisplacedReturn = 9
code_of cause.NotAssignable = 10
code_of cause.UnknownMethod = 11
code_of cause.OnlyLs = 12

pub data Verdict : Type 0 where
  accepted : Whole → Verdict
  refused : Place → ℕ → Verdict

abbrev pub verdict_of : Outcome Whole → Verdict
verdict_of (Went w s) = accepted w
verdict_of (Refused place c) = refused place (code_of c)

-- the verdict on a program
abbrev pub judged : Program → Verdict
judged p = verdict_of (program_form p nothing_known)

-- it is the verdict, unless memory ran out
abbrev pub Answers : Result Checked CheckStop → Verdict → Type 0
Answers (Ok c) v = v ≡ accepted (program_of c)
Answers (Err (stops.Fault place code)) v = v ≡ refused place code
Answers (Err stops.NoMemory) v = Unit {0}
