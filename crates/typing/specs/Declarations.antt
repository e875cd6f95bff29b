-- Typing rules: what makes each declaration well typed. The expressions in it are typed first, and then its own rule
-- holds; its name is visible behind it.
use Rattle.std.specs.Prelude.{◌≡◌, ℕ, Bool, true, false, ◌&&◌, List, [], ◌∷◌, ◌++◌, length, drop, Option, Some, None}
use Rattle.comet_syntax.specs.declared.tree.expressions.Name.{Name}
use Rattle.comet_syntax.specs.declared.tree.expressions.Expression.{Expression}
use Rattle.comet_syntax.specs.declared.tree.declarations.Class.{Class}
use Rattle.comet_syntax.specs.declared.tree.declarations.Dimension.{Dimension}
use Rattle.comet_syntax.specs.declared.tree.declarations.Dimensions.{Dimensions}
use Rattle.comet_syntax.specs.declared.tree.declarations.Incremental.{Incremental}
use Rattle.comet_syntax.specs.declared.tree.declarations.Maker.{Maker}
use Rattle.comet_syntax.specs.declared.tree.declarations.Declaration.{Declaration}
use Rattle.comet_syntax.specs.declared.tree.declarations.Declaration.TheVariants as declarations
use Rattle.comet_syntax.specs.declared.tree.declarations.VariableStart.{VariableStart}
use Rattle.comet_syntax.specs.declared.tree.declarations.VariableStart.TheVariants as starts
use Rattle.cbl_base.specs.declared.place.Place.{Place}
use Rattle.checked_tree.specs.declared.expressions.Slot.{Slot}
use Rattle.checked_tree.specs.declared.kind.Kind.{Kind}
use Rattle.checked_tree.specs.declared.kind.Kind.TheVariants as kind
use Rattle.checked_tree.specs.declared.statements.Way.TheVariants as ways
use Rattle.checked_tree.specs.Shape.{Seen}
use Rattle.checked_tree.specs.Actions as deeds
use Rattle.checked_tree.specs.Actions.{Deed, Started, Sized}
use Rattle.type_rules.specs.declared.context.Context.TheVariants as context
use Rattle.type_rules.specs.Kinds.{is_same}
use Rattle.type_rules.specs.Classes.{class_kind, class_is_ls}
use Rattle.type_scopes.specs.declared.names.Found.{Found}
use Rattle.type_scopes.specs.declared.scope.Scope.{Scope}
use Rattle.type_scopes.specs.Names.{look, is_new, slot_of, opened, within}
use Rattle.type_scopes.specs.State.{State}
use Rattle.type_calls.specs.Doing.{doing_fault}
use Rattle.type_declarations.specs.Parts.{Ranged, Celled, dimension_fault, clashes, second_name, started, is_list, start_fits, sized_kind}
use Rattle.type_declarations.specs.Objects.{Handed, made_kind, is_made_ls, maker_arguments, making_context, making_roots, kept_solvers, object_doing, object_fault, ls_fault}
use Rattle.type_declarations.specs.Declarations.{declaring_fault, scalar_fits, making_doing, domain_fits, variable_deed}
use Rattle.typing.specs.Calls.{having_done}
use Rattle.typing.specs.Rules.{IsTyped, ArgumentsAreTyped, having_closed}

-- what is known when a name of this kind is declared; of a solution, with the cells of its solver
abbrev pub having_declared_as : List ℕ → Kind → List Slot → State → State
having_declared_as name k solvers s = record s { names = s.names ++ record { name = name; kind = k; function = 0; solvers = solvers } ∷ [] }

-- an expression that may be left out
pub data OptionalIsTyped (scope : Scope) (s : State) : Option Expression → Option Seen → State → Type 0 where
  left_out : OptionalIsTyped scope s None None s
  stated : {e : Expression} {x : Seen} {t : State}
      → IsTyped scope s e x t
      → OptionalIsTyped scope s (Some e) (Some x) t

-- what is written of first values: nothing, an expression that gives each cell its value, or a definition
pub data FirstValues : Type 0 where
  no_values : FirstValues
  a_value : Expression → FirstValues
  a_definition : Expression → FirstValues

-- first values are typed where they stand, and a definition as a term
pub data StartIsTyped (scope : Scope) (s : State) : FirstValues → Option Started → State → Type 0 where
  starts_without : StartIsTyped scope s no_values None s
  starts_with : {e : Expression} {x : Seen} {t : State}
      → IsTyped scope s e x t
      → StartIsTyped scope s (a_value e) (started ways.Each x) t
  starts_defined : {e : Expression} {x : Seen} {t : State}
      → IsTyped (within context.Term scope) s e x t
      → StartIsTyped scope s (a_definition e) (started ways.Define x) t

-- a dimension is a range, and two of one list have different names
pub data DimensionIsTyped (clash : Bool) (scope : Scope) (s : State) (d : Dimension) : Seen → State → Type 0 where
  a_dimension : {x : Seen} {t : State}
      → IsTyped scope s d.range x t
      → dimension_fault clash x.kind ≡ None
      → DimensionIsTyped clash scope s d x t

-- a second dimension, if there is one, behind the first one's name
pub data SecondIsTyped (first : Option Name) (scope : Scope) (s : State) : Option Dimension → Option Seen → State → Type 0 where
  no_second : SecondIsTyped first scope s None None s
  a_second : {d : Dimension} {x : Seen} {t : State}
      → DimensionIsTyped (clashes first d.name) scope s d x t
      → SecondIsTyped first scope s (Some d) (Some x) t

-- the ranges of all dimensions, before any of their names is declared
pub data RangesAreTyped (scope : Scope) (s : State) (ds : Dimensions) : Ranged → State → Type 0 where
  ranges : {u t : State} {a : Seen} {b : Option Seen}
      → DimensionIsTyped false scope s ds.first a u
      → SecondIsTyped ds.first.name scope u ds.second b t
      → RangesAreTyped scope s ds (record { first = a; second = b }) t

-- a dimension's name, if it has one, is declared
pub data IsSized (scope : Scope) (s : State) (e : Seen) : Option Name → Sized → State → Type 0 where
  without_name : IsSized scope s e None (record { slot = None; range = e }) s
  with_name : {n : Name}
      → IsSized scope s e (Some n) (record { slot = Some (slot_of scope (length s.names)); range = e }) (having_declared_as n.text kind.Int [] s)

-- the second dimension, if there is one, as a list
pub data SecondIsSized (scope : Scope) (s : State) (d : Option Dimension) : Option Seen → List Sized → State → Type 0 where
  no_second_size : SecondIsSized scope s d None [] s
  a_second_size : {e : Seen} {x : Sized} {t : State}
      → IsSized scope s e (second_name d) x t
      → SecondIsSized scope s d (Some e) (x ∷ []) t

-- what lists the cells' values is typed again, in this scope; anything else stays
pub data IsListed (scope : Scope) (s : State) : FirstValues → Option Started → Option Started → State → Type 0 where
  nothing_listed : {x : Option Started} → IsListed scope s no_values x x s
  definition_stays : {e : Expression} {x : Option Started} → IsListed scope s (a_definition e) x x s
  value_stays : {e : Expression} {x : Option Started}
      → is_list x ≡ false
      → IsListed scope s (a_value e) x x s
  a_listing : {e : Expression} {x : Option Started} {y : Seen} {t : State}
      → is_list x ≡ true
      → IsTyped scope s e y t
      → IsListed scope s (a_value e) x (started ways.List y) t

-- the cells of an array: in a block of their own the dimensions' names and the first values, which see them; and a
-- list of the cells' values where these names aren't visible
pub data CellsAreTyped (scope : Scope) (s : State) (ds : Dimensions) (r : Ranged) (w : FirstValues) : Celled → State → Type 0 where
  cells : {u v q t : State} {a : Sized} {b : List Sized} {x y : Option Started}
      → IsSized (opened scope (length s.names)) s r.first ds.first.name a u
      → SecondIsSized (opened scope (length s.names)) u ds.second r.second b v
      → StartIsTyped (opened scope (length s.names)) v w x q
      → IsListed scope (having_closed (length s.names) q) w x y t
      → CellsAreTyped scope s ds r w (record { sizes = a ∷ b; start = y }) t

-- a name of one value: its first value, which doesn't see it, and then the name, which is new
pub data ScalarIsTyped (scope : Scope) (s : State) (n : Name) (k : Kind) (e : Option Expression) : Deed → State → Type 0 where
  a_scalar : {x : Option Seen} {t : State}
      → OptionalIsTyped scope s e x t
      → declaring_fault (is_new n.text scope.block t.names) (scalar_fits k x) ≡ None
      → ScalarIsTyped scope s n k e (deeds.declaring (slot_of scope (length t.names)) k x) (having_declared_as n.text k [] t)

-- an array of numbers
pub data ArrayIsTyped (scope : Scope) (s : State) (n : Name) (ds : Dimensions) (w : FirstValues) : Deed → State → Type 0 where
  an_array : {r : Ranged} {c : Celled} {u t : State}
      → RangesAreTyped scope s ds r u
      → CellsAreTyped scope u ds r w c t
      → declaring_fault (is_new n.text scope.block t.names) (start_fits kind.Int c.start) ≡ None
      → ArrayIsTyped scope s n ds w (deeds.declaring_array (slot_of scope (length t.names)) (sized_kind kind.Int ds) c.sizes c.start) (having_declared_as n.text (sized_kind kind.Int ds) [] t)

-- a variable's own rule: its solver is one, and is written; its name is new; its domain and its first values fit
pub data VariableIsDeclared (scope : Scope) (s : State) (n : Name) (k : Kind) (fit : Bool) (d : Option Seen) (c : Celled) (solver : Name) : Deed → State → Type 0 where
  declares : {f : Found}
      → look solver.text s.names ≡ Some f
      → declaring_fault (is_new n.text scope.block s.names) (is_same f.kind kind.Solver && (domain_fits d && fit)) ≡ None
      → doing_fault scope making_doing (slot_of scope f.index ∷ []) ≡ None
      → VariableIsDeclared scope s n k fit d c solver (variable_deed n (slot_of scope (length s.names)) (slot_of scope f.index) k d c)
      (having_declared_as n.text k [] (having_done making_doing (slot_of scope f.index ∷ []) s))

-- a variable: its domain, its first value, and then its own rule
pub data VariableIsTyped (scope : Scope) (s : State) (n : Name) (k : Kind) (solver : Name) (domain : Option Expression) (w : FirstValues) : Deed → State → Type 0 where
  a_variable : {u v t : State} {d : Option Seen} {x : Option Started} {made : Deed}
      → OptionalIsTyped scope s domain d u
      → StartIsTyped scope u w x v
      → VariableIsDeclared scope v n k (start_fits k x) d (record { sizes = []; start = x }) solver made t
      → VariableIsTyped scope s n k solver domain w made t

-- an array of variables: its ranges, its domain, which doesn't see their names, its first values, and then its own rule
pub data VariablesAreTyped (scope : Scope) (s : State) (n : Name) (k : Kind) (ds : Dimensions) (solver : Name) (domain : Option Expression) (w : FirstValues) : Deed → State → Type 0 where
  some_variables : {u v q t : State} {r : Ranged} {d : Option Seen} {c : Celled} {made : Deed}
      → RangesAreTyped scope s ds r u
      → OptionalIsTyped scope u domain d v
      → CellsAreTyped scope v ds r w c q
      → VariableIsDeclared scope q n (sized_kind k ds) (start_fits k c.start) d c solver made t
      → VariablesAreTyped scope s n k ds solver domain w made t

-- what is made of arguments, and of the terms that they name
abbrev pub handed : State → List Seen → State → Handed
handed s es t = record { arguments = es; terms = drop (length s.terms) t.terms }

-- an object: its arguments, its own rule, what its making writes, and its technology
pub data ObjectIsTyped (scope : Scope) (s : State) (c : Class) (n : Name) (m : Maker) : Deed → State → Type 0 where
  an_object : {es : List Seen} {t : State}
      → ArgumentsAreTyped (making_context (class_kind c.kind) scope.context) scope [] s (maker_arguments m) es t
      → object_fault (is_new n.text scope.block t.names) (class_kind c.kind) (made_kind c m) es ≡ None
      → doing_fault scope (object_doing (class_kind c.kind)) (making_roots (class_kind c.kind) (handed s es t)) ≡ None
      → ls_fault (class_is_ls c.kind && is_made_ls m) ≡ None
      → ObjectIsTyped scope s c n m (deeds.making (slot_of scope (length t.names)) (class_kind c.kind) es)
      (having_declared_as n.text (class_kind c.kind) (kept_solvers (class_kind c.kind) (handed s es t)) (having_done (object_doing (class_kind c.kind)) (making_roots (class_kind c.kind) (handed s es t)) t))

-- a first value that may be left out
abbrev pub values_of : Option Expression → FirstValues
values_of None = no_values
values_of (Some e) = a_value e

-- a variable's first value, or its definition
abbrev pub values_in : Option VariableStart → FirstValues
values_in None = no_values
values_in (Some (starts.Assign e)) = a_value e
values_in (Some (starts.Define e)) = a_definition e

-- a declaration
pub data DeclarationIsTyped (scope : Scope) (s : State) : Declaration → Deed → State → Type 0 where
  an_int : {place : Place} {n : Name} {e : Option Expression} {made : Deed} {t : State}
      → ScalarIsTyped scope s n kind.Int e made t
      → DeclarationIsTyped scope s (declarations.Int place n None e) made t
  ints : {place : Place} {n : Name} {ds : Dimensions} {e : Option Expression} {made : Deed} {t : State}
      → ArrayIsTyped scope s n ds (values_of e) made t
      → DeclarationIsTyped scope s (declarations.Int place n (Some ds) e) made t
  an_int_array : {place : Place} {n : Name} {e : Expression} {made : Deed} {t : State}
      → ScalarIsTyped scope s n kind.Array (Some e) made t
      → DeclarationIsTyped scope s (declarations.IntArray place n e) made t
  a_bool : {place : Place} {n : Name} {e : Option Expression} {made : Deed} {t : State}
      → ScalarIsTyped scope s n kind.Bool e made t
      → DeclarationIsTyped scope s (declarations.Bool place n e) made t
  a_range_name : {place : Place} {n : Name} {e : Expression} {made : Deed} {t : State}
      → ScalarIsTyped scope s n kind.Range (Some e) made t
      → DeclarationIsTyped scope s (declarations.Range place n e) made t
  a_set_name : {place : Place} {n : Name} {e : Option Expression} {made : Deed} {t : State}
      → ScalarIsTyped scope s n kind.Set e made t
      → DeclarationIsTyped scope s (declarations.Set place n e) made t
  an_int_variable : {place : Place} {w : Incremental} {n solver : Name} {d : Option Expression} {x : Option VariableStart} {made : Deed} {t : State}
      → VariableIsTyped scope s n kind.Variable solver d (values_in x) made t
      → DeclarationIsTyped scope s (declarations.Variable place w n None solver d x) made t
  int_variables : {place : Place} {w : Incremental} {n solver : Name} {ds : Dimensions} {d : Option Expression} {x : Option VariableStart} {made : Deed} {t : State}
      → VariablesAreTyped scope s n kind.Variable ds solver d (values_in x) made t
      → DeclarationIsTyped scope s (declarations.Variable place w n (Some ds) solver d x) made t
  a_set_variable : {place : Place} {w : Incremental} {n solver : Name} {e : Expression} {made : Deed} {t : State}
      → VariableIsTyped scope s n kind.SetVariable solver None (a_definition e) made t
      → DeclarationIsTyped scope s (declarations.SetVariable place w n None solver e) made t
  set_variables : {place : Place} {w : Incremental} {n solver : Name} {ds : Dimensions} {e : Expression} {made : Deed} {t : State}
      → VariablesAreTyped scope s n kind.SetVariable ds solver None (a_definition e) made t
      → DeclarationIsTyped scope s (declarations.SetVariable place w n (Some ds) solver e) made t
  object : {c : Class} {n : Name} {m : Maker} {made : Deed} {t : State}
      → ObjectIsTyped scope s c n m made t
      → DeclarationIsTyped scope s (declarations.Object c n m) made t
