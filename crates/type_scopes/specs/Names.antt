-- Names: where they are visible, and where their cells lie. Names stand in order of declaration; of equal ones the
-- last is visible. From the language.
use Rattle.std.specs.Prelude.{ℕ, zero, suc, Bool, true, false, not, ◌||◌, ◌-◌, ◌+◌, List, [], ◌∷◌, ◌++◌, length, take, slice_get, Option, Some, None, nat_lt, if◌then◌else◌}
use Rattle.std.specs.Str.{bytes_eq}
use Rattle.checked_tree.specs.declared.kind.Kind.{Kind}
use Rattle.checked_tree.specs.declared.expressions.Slot.{Slot}
use Rattle.checked_tree.specs.declared.expressions.Slot.TheVariants.{Global, Local}
use Rattle.type_rules.specs.declared.context.Context.{Context}
use Rattle.type_scopes.specs.declared.names.Binding.{Binding}
use Rattle.type_scopes.specs.declared.names.Found.{Found}
use Rattle.type_scopes.specs.declared.scope.Scope.{Scope}
use Rattle.type_scopes.specs.State.{State, Outcome, Went, Refused, Check, give, then_do}

-- whether the name is spelled so
abbrev pub is_named : List ℕ → Binding → Bool
is_named name b = bytes_eq b.name name

-- a name further on is one later; where there is none, the first one counts if it is spelled so
abbrev pub later_or : ℕ → Bool → ℕ
later_or zero here = if here then 1 else 0
later_or (suc n) here = suc (suc n)

-- the number, from 1, of the last name that is spelled so, and 0 where there is none
abbrev pub newest : List ℕ → List Binding → ℕ
newest name [] = 0
newest name (b ∷ bs) = later_or (newest name bs) (is_named name b)

-- what is known of the name with this number, if there is one
abbrev pub found_in : ℕ → Option Binding → Option Found
found_in i None = None
found_in i (Some b) = Some (record { index = i; kind = b.kind; function = b.function })

-- the same by a number from 1, where 0 is no name
abbrev pub found_at : ℕ → List Binding → Option Found
found_at zero names = None
found_at (suc i) names = found_in i (slice_get names i)

-- the visible name that is spelled so
abbrev pub look : List ℕ → List Binding → Option Found
look name names = found_at (newest name names) names

-- whether no name of the innermost block, which begins behind so many names, is spelled so
abbrev pub is_new : List ℕ → ℕ → List Binding → Bool
is_new name block names = not (nat_lt block (newest name names))

-- where the cell of the name with this number lies
abbrev pub slot_of : Scope → ℕ → Slot
slot_of scope i = if scope.at_top || nat_lt i scope.globals then Global i else Local (i - scope.globals)

-- the number of the name whose cell lies there
abbrev pub index_of : Scope → Slot → ℕ
index_of scope (Global i) = i
index_of scope (Local j) = scope.globals + j

-- the cells of the solvers of a name, if there is one
abbrev pub solvers_in : Option Binding → List Slot
solvers_in None = []
solvers_in (Some b) = b.solvers

-- the cells of the solvers that a solution may belong to, by the number of its name
abbrev pub solvers_at : List Binding → ℕ → List Slot
solvers_at names i = solvers_in (slice_get names i)

-- the same of all names whose cells are these
abbrev pub solvers_of : Scope → List Binding → List Slot → List Slot
solvers_of scope names [] = []
solvers_of scope names (s ∷ ss) = solvers_at names (index_of scope s) ++ solvers_of scope names ss

-- whether a cell lies outside what has so many local names around it; nothing lies outside where there is none
abbrev pub is_outside_of : Option ℕ → Slot → Bool
is_outside_of None s = false
is_outside_of (Some n) (Global i) = true
is_outside_of (Some n) (Local j) = nat_lt j n

-- whether a cell lies outside the `parall` around it
abbrev pub is_outside : Scope → Slot → Bool
is_outside scope s = is_outside_of scope.parall s

-- a block begins
abbrev pub opened : Scope → ℕ → Scope
opened scope n = record scope { block = n; at_top = false; globals = if scope.at_top then n else scope.globals }

-- the same scope, where this is asked
abbrev pub within : Context → Scope → Scope
within c scope = record scope { context = c }

-- a name is declared; of a solution, with the cells of its solver
abbrev pub declare_with : List ℕ → Kind → ℕ → List Slot → Check (Unit {0})
declare_with name k f solvers s = Went tt (record s { names = s.names ++ record { name = name; kind = k; function = f; solvers = solvers } ∷ [] })

-- a name is declared that is neither a function nor a solution
abbrev pub declare : List ℕ → Kind → Check (Unit {0})
declare name k = declare_with name k 0 []

-- the names of a block end with it
abbrev pub closed : {A : Type 0} → ℕ → A → Check A
closed n x s = Went x (record s { names = take n s.names })

-- it goes, with this value and what is known then
abbrev pub went : {A : Type 0} → A → State → Outcome A
went x s = Went x s

-- a term names an incremental variable
abbrev pub named_in_term : Slot → Check (Unit {0})
named_in_term slot s = Went tt (record s { terms = s.terms ++ slot ∷ [] })
