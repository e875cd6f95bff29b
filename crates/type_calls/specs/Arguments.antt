-- What arguments are, and what an expression is as its rule gives it. From the language.
use Rattle.std.specs.Prelude.{ℕ, Bool, true, false, ◌&&◌, ◌||◌, List, [], ◌∷◌, length, nat_lt, Option, Some, None, Ok, Err, if◌then◌else◌}
use Rattle.cbl_base.specs.declared.place.Place.{Place}
use Rattle.checked_tree.specs.declared.kind.Kind.{Kind}
use Rattle.checked_tree.specs.declared.stop.Cause.{Cause}
use Rattle.checked_tree.specs.declared.stop.Cause.TheVariants as cause
use Rattle.checked_tree.specs.Shape.{Shape, Seen}
use Rattle.type_rules.specs.declared.kinds.Asked.{Asked}
use Rattle.type_rules.specs.declared.kinds.Asked.TheVariants as asked
use Rattle.type_rules.specs.declared.kinds.Note.{Note}
use Rattle.type_rules.specs.declared.kinds.Want.{Want}
use Rattle.type_rules.specs.Kinds.{is_number, fits, asked_of}
use Rattle.type_rules.specs.Rules.{Ruling, is_constraint}
use Rattle.type_scopes.specs.State.{Check, give, refuse}

-- what an expression is
abbrev pub note_of : Seen → Note
note_of e = record { kind = e.kind; moving = e.moving }

-- whether all are numbers
abbrev pub all_numbers : List Seen → Bool
all_numbers [] = true
all_numbers (e ∷ es) = is_number e.kind && all_numbers es

-- whether one of them holds incremental variables
abbrev pub any_moving : List Seen → Bool
any_moving [] = false
any_moving (e ∷ es) = e.moving || any_moving es

-- whether an argument is what is asked; a truth value suits where a constraint is asked
abbrev pub suits : Asked → Note → Bool
suits asked.Constraint n = is_constraint n
suits a n = fits a n.kind

-- whether each argument is what is asked there
abbrev pub all_suit : List Want → List Seen → Bool
all_suit ws [] = true
all_suit [] (e ∷ es) = true
all_suit (w ∷ ws) (e ∷ es) = suits w.asked (note_of e) && all_suit ws es

-- an argument that is kept as a field holds an incremental variable
abbrev pub any_unfixed : List Want → List Seen → Bool
any_unfixed ws [] = false
any_unfixed [] (e ∷ es) = false
any_unfixed (w ∷ ws) (e ∷ es) = (w.fixed && e.moving) || any_unfixed ws es

-- why arguments are refused, if they are
abbrev pub arguments_fault : List Want → ℕ → List Seen → Option Cause
arguments_fault wants least es =
    if nat_lt (length es) least || nat_lt (length wants) (length es) then Some cause.WrongCount
    else (if all_suit wants es then None else Some cause.WrongType)

-- whether each argument is of its parameter's kind
abbrev pub all_fit : List Kind → List Seen → Bool
all_fit ks [] = true
all_fit [] (e ∷ es) = true
all_fit (k ∷ ks) (e ∷ es) = fits (asked_of k) e.kind && all_fit ks es

-- an expression, with its first token and its place, as its rule gives it
abbrev pub made : Place → Place → Shape → Ruling → Check Seen
made start place shape (Ok n) = give (record { start = start; place = place; kind = n.kind; moving = n.moving; form = shape })
made start place shape (Err c) = refuse place c
