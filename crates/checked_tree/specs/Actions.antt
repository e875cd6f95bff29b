-- A checked statement that holds no statement, without its pointers.
use Rattle.std.specs.Prelude.{ℕ, List, map, Option, option_map}
use Rattle.comet_syntax.specs.declared.tree.statements.WriteOperator.{WriteOperator}
use Rattle.comet_syntax.specs.declared.tree.statements.Step.{Step}
use Rattle.checked_tree.specs.declared.kind.Kind.{Kind}
use Rattle.checked_tree.specs.declared.expressions.Slot.{Slot}
use Rattle.checked_tree.specs.declared.statements.Way.{Way}
use Rattle.checked_tree.specs.declared.statements.Start.{Start}
use Rattle.checked_tree.specs.declared.statements.Dimension.{Dimension}
use Rattle.checked_tree.specs.declared.statements.Printed.{Printed}
use Rattle.checked_tree.specs.declared.statements.Printed.TheVariants as printed
use Rattle.checked_tree.specs.declared.statements.Variable.{Variable}
use Rattle.checked_tree.specs.declared.statements.Action.{Action}
use Rattle.checked_tree.specs.declared.statements.Action.TheVariants as actions
use Rattle.checked_tree.specs.Shape.{Seen, seen}

-- first values, and how cells get them
pub record Started : Type 0 where
  pub way : Way
  pub value : Seen

-- a dimension, with the cell of its name
pub record Sized : Type 0 where
  pub slot : Option Slot
  pub range : Seen

-- what `cout` prints
pub data Shown : Type 0 where
  value : Seen → Shown
  text : List ℕ → Shown
  end_line : Shown

-- a variable, or an array of variables
pub record Varying : Type 0 where
  pub slot : Slot
  pub name : List ℕ
  pub kind : Kind
  pub dimensions : List Sized
  pub solver : Slot
  pub domain : Option Seen
  pub start : Option Started

-- what a statement does that holds no statement
pub data Deed : Type 0 where
  nothing : Deed
  declaring : Slot → Kind → Option Seen → Deed
  declaring_array : Slot → Kind → List Sized → Option Started → Deed
  declaring_variable : Varying → Deed
  making : Slot → Kind → List Seen → Deed
  writing : WriteOperator → Seen → Seen → Deed
  swapping : Seen → Seen → Deed
  stepping : Step → Seen → Deed
  doing : Seen → Deed
  choosing : Seen → Deed
  printing : List Shown → Deed
  returning : Option Seen → Deed

-- first values as a statement has them
abbrev pub start_of : Start → Started
start_of s = record { way = s.way; value = seen s.value }

-- a dimension as a statement has it
abbrev pub dimension_of : Dimension → Sized
dimension_of d = record { slot = d.slot; range = seen d.range }

-- what `cout` prints, as a statement has it
abbrev pub printed_of : Printed → Shown
printed_of (printed.Value e) = value (seen e)
printed_of (printed.Text t) = text t
printed_of printed.EndLine = end_line

-- a variable as a statement has it
abbrev pub variable_of : Variable → Varying
variable_of v = record {
  slot = v.slot;
  name = v.name;
  kind = v.kind;
  dimensions = map dimension_of v.dimensions.items;
  solver = v.solver;
  domain = option_map seen v.domain;
  start = option_map start_of v.start;
}

-- what a statement of the tree does, without its pointers
unfoldable pub deed_of : Action → Deed
deed_of actions.Empty = nothing
deed_of (actions.Declare s k e) = declaring s k (option_map (λ x. seen x.value) e)
deed_of (actions.DeclareArray s k ds e) = declaring_array s k (map dimension_of ds.items) (option_map (λ x. start_of x.value) e)
deed_of (actions.DeclareVariable v) = declaring_variable (variable_of v.value)
deed_of (actions.Make s k es) = making s k (map seen es.items)
deed_of (actions.Write t o v) = writing o (seen t.value) (seen v.value)
deed_of (actions.Swap a b) = swapping (seen a.value) (seen b.value)
deed_of (actions.Step t x) = stepping x (seen t)
deed_of (actions.Do e) = doing (seen e)
deed_of (actions.Choose e) = choosing (seen e)
deed_of (actions.Print xs) = printing (map printed_of xs.items)
deed_of (actions.Return e) = returning (option_map seen e)
