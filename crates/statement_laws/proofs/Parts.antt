-- The parts of declarations and simple statements behave.
use Rattle.std.specs.Prelude.{refl, ℕ, Bool, true, false, List, [], ◌∷◌, ◌++◌, length, map, take, Option, None, Some, option_map, if◌then◌else◌}
use Rattle.cbl_base.specs.declared.place.Place.{Place}
use Rattle.comet_syntax.specs.declared.tree.expressions.Name.{Name}
use Rattle.comet_syntax.specs.declared.tree.expressions.Expression.{Expression}
use Rattle.comet_syntax.specs.declared.tree.expressions.Argument.{Argument}
use Rattle.comet_syntax.specs.declared.tree.declarations.Dimension.{Dimension}
use Rattle.comet_syntax.specs.declared.tree.declarations.Dimensions.{Dimensions}
use Rattle.checked_tree.specs.declared.expressions.Slot.{Slot}
use Rattle.checked_tree.specs.declared.kind.Kind.{Kind}
use Rattle.checked_tree.specs.declared.kind.Kind.TheVariants as kind
use Rattle.checked_tree.specs.declared.statements.Way.TheVariants as ways
use Rattle.checked_tree.specs.declared.stop.Cause.{Cause}
use Rattle.checked_tree.specs.Shape.{Seen}
use Rattle.checked_tree.specs.Actions.{Started, Sized}
use Rattle.type_rules.specs.declared.context.Context.TheVariants as context
use Rattle.type_scopes.specs.declared.scope.Scope.{Scope}
use Rattle.type_scopes.specs.Names.{opened, within, declare_with, closed, slot_of}
use Rattle.type_scopes.specs.State.{State, Check, give, ◌>>=◌}
use Rattle.type_expressions.specs.Expressions.{Judge, judge, judge_argument, some_form}
use Rattle.type_declarations.specs.Parts as parts
use Rattle.type_declarations.specs.Parts.{ruled, Starting, Ranged, Celled}
use Rattle.type_laws.specs.Behaves.{Behaves}
use Rattle.type_laws.proofs.Allowed.{AllOf, behaves_then, behaves_give, behaves_known, behaves_refuse, behaves_at, behaves_where}
use Rattle.type_laws.proofs.Forms.{Good}
use Rattle.type_laws.proofs.Trees.{expression_good}

pub ruled_good : (scope : Scope) (place : Place) (c : Option Cause) → Behaves scope (ruled place c)
ruled_good scope place None = behaves_give scope tt
ruled_good scope place (Some c) = behaves_refuse scope place c

pub declare_good : (scope : Scope) (name : List ℕ) (k : Kind) (f : ℕ) (solvers : List Slot) → Behaves scope (declare_with name k f solvers)
declare_good scope name k f solvers s x t h =
    behaves_known scope tt (λ (s : State). record s { names = s.names ++ record { name = name; kind = k; function = f; solvers = solvers } ∷ [] }) (λ s. refl) s x t h

pub close_good : {A : Type 0} (scope : Scope) (n : ℕ) (x : A) → Behaves scope (closed n x)
close_good scope n x s y t h = behaves_known scope x (λ (s : State). record s { names = take n s.names }) (λ s. refl) s y t h

abbrev pub GoodStart : Option Judge → Type 0
GoodStart None = Unit {0}
GoodStart (Some j) = Good j

pub judged_start : (e : Option Expression) → GoodStart (option_map judge e)
judged_start None = tt
judged_start (Some e) = expression_good e

pub start_good : (scope : Scope) (j : Option Judge) → GoodStart j → Behaves scope (parts.start_form j scope)
unfolding parts.start_form some_form
start_good scope None h = behaves_give scope None
start_good scope (Some j) h = behaves_then scope _ _ (h scope) (λ e. behaves_give scope _)

dimension_good : (clash : Bool) (d : Dimension) (scope : Scope) → Behaves scope (parts.dimension_form clash d scope)
unfolding parts.dimension_form
dimension_good clash d scope = behaves_then scope _ _ (expression_good d.range scope) (λ e. behaves_then scope _ _ (ruled_good scope _ _) (λ _. behaves_give scope e))

second_good : (first : Option Name) (d : Option Dimension) (scope : Scope) → Behaves scope (parts.second_form first d scope)
unfolding parts.second_form
second_good first None scope = behaves_give scope None
second_good first (Some d) scope = behaves_then scope _ _ (dimension_good (parts.clashes first d.name) d scope) (λ e. behaves_give scope _)

pub ranges_good : (ds : Dimensions) (scope : Scope) → Behaves scope (parts.ranges_form ds scope)
unfolding parts.ranges_form
ranges_good ds scope = behaves_then scope _ _ (dimension_good false ds.first scope) (λ a. behaves_then scope _ _ (second_good ds.first.name ds.second scope) (λ b. behaves_give scope _))

sized_good : (n : Option Name) (e : Seen) (scope : Scope) → Behaves scope (parts.sized_form n e scope)
unfolding parts.sized_form
sized_good None e scope = behaves_give scope _
sized_good (Some n) e scope =
    behaves_at scope (λ s. declare_with n.text kind.Int 0 [] >>= λ _. give (record { slot = Some (slot_of scope (length s.names)); range = e }))
    (λ s. behaves_then scope _ _ (declare_good scope n.text kind.Int 0 []) (λ _. behaves_give {A = Sized} scope (record { slot = Some (slot_of scope (length s.names)); range = e })))

sized_second_good : (d : Option Dimension) (e : Option Seen) (scope : Scope) → Behaves scope (parts.sized_second d e scope)
unfolding parts.sized_second
sized_second_good d None scope = behaves_give scope _
sized_second_good d (Some e) scope = behaves_then scope _ _ (sized_good (parts.second_name d) e scope) (λ x. behaves_give scope _)

sizes_good : (ds : Dimensions) (r : Ranged) (scope : Scope) → Behaves scope (parts.sizes_form ds r scope)
unfolding parts.sizes_form
sizes_good ds r scope = behaves_then scope _ _ (sized_good ds.first.name r.first scope) (λ a. behaves_then scope _ _ (sized_second_good ds.second r.second scope) (λ b. behaves_give scope _))

abbrev pub GoodStarting : Starting → Type 0
GoodStarting parts.nothing = Unit {0}
GoodStarting (parts.each_cell j) = Good j
GoodStarting (parts.defined j) = Good j

pub in_term : {A : Type 0} (scope : Scope) (m : Check A) → Behaves (within context.Term scope) m → Behaves scope m
in_term scope m h = behaves_where scope (within context.Term scope) m refl (λ p. refl) h

pub starting_good : (x : Starting) → GoodStarting x → (scope : Scope) → Behaves scope (parts.starting_form x scope)
unfolding parts.starting_form
starting_good parts.nothing h scope = behaves_give scope None
starting_good (parts.each_cell j) h scope = behaves_then scope _ _ (h scope) (λ e. behaves_give scope _)
starting_good (parts.defined j) h scope = behaves_then scope _ _ (in_term scope (j (within context.Term scope)) (h (within context.Term scope))) (λ e. behaves_give scope _)

listed_at : (j : Judge) → Good j → (scope : Scope) (x : Option Started) (b : Bool) → Behaves scope (if b then (j scope >>= λ e. give (parts.started ways.List e)) else give x)
listed_at j h scope x true = behaves_then scope _ _ (h scope) (λ e. behaves_give scope _)
listed_at j h scope x false = behaves_give scope x

listed_good : (x : Starting) → GoodStarting x → (scope : Scope) (y : Option Started) → Behaves scope (parts.listed x scope y)
listed_good parts.nothing h scope y = behaves_give scope y
listed_good (parts.each_cell j) h scope y = listed_at j h scope y (parts.is_list y)
listed_good (parts.defined j) h scope y = behaves_give scope y

cells_within_good : (ds : Dimensions) (r : Ranged) (x : Starting) → GoodStarting x → (scope : Scope) → Behaves scope (parts.cells_within ds r x scope)
unfolding parts.cells_within
cells_within_good ds r x h scope = behaves_then scope _ _ (sizes_good ds r scope) (λ sizes. behaves_then scope _ _ (starting_good x h scope) (λ y. behaves_give scope _))

-- a part in a block of its own
pub inside_block : {A : Type 0} (scope : Scope) (n : ℕ) (m : Check A) → Behaves (opened scope n) m → Behaves scope (m >>= closed n)
inside_block scope n m h = behaves_then scope m (closed n) (behaves_where scope (opened scope n) m refl (λ p. p) h) (λ x. close_good scope n x)

pub cells_good : (ds : Dimensions) (r : Ranged) (x : Starting) → GoodStarting x → (scope : Scope) → Behaves scope (parts.cells_form ds r x scope)
unfolding parts.cells_form
cells_good ds r x h scope =
    behaves_at scope (λ s. (parts.cells_within ds r x (opened scope (length s.names)) >>= closed (length s.names)) >>= λ c. parts.listed x scope c.start >>= λ y. give (record { sizes = c.sizes; start = y }))
    (λ s. behaves_then scope _ _ (inside_block scope (length s.names) _ (cells_within_good ds r x h (opened scope (length s.names))))
    (λ c. behaves_then scope _ _ (listed_good x h scope c.start) (λ y. behaves_give scope _)))

pub arguments_judged : (args : List Argument) → ((a : Argument) → Good (judge_argument a)) → AllOf Good (map judge_argument args)
arguments_judged [] h = tt
arguments_judged (a ∷ args) h = (h a, arguments_judged args h)
