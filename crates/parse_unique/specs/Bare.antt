-- A tree without its pointers: each constructor of a tree with the same names, numbers, texts, places and parts, where what a box points to is a part itself, and a vector is the list of its items.
-- Two trees are the same where they are the same without their pointers.
-- A rule of this project.
use Rattle.std.specs.Prelude.{ℕ, ℤ, Bool, List, [], ◌∷◌, Option, None, Some, map, ◌≡◌}
use Rattle.cbl_base.specs.declared.place.Place.{Place}
use Rattle.comet_syntax.specs.declared.tree.expressions.Name.{Name}
use Rattle.comet_syntax.specs.declared.tree.expressions.ChainOperator.{ChainOperator}
use Rattle.comet_syntax.specs.declared.tree.expressions.Comparison.{Comparison}
use Rattle.comet_syntax.specs.declared.tree.expressions.UnaryOperator.{UnaryOperator}
use Rattle.comet_syntax.specs.declared.tree.expressions.Extreme.{Extreme}
use Rattle.comet_syntax.specs.declared.tree.expressions.Aggregate.{Aggregate}
use Rattle.comet_syntax.specs.declared.tree.expressions.Argument.{Argument}
use Rattle.comet_syntax.specs.declared.tree.expressions.Expression.{Expression}
use Rattle.comet_syntax.specs.declared.tree.expressions.Suffix.{Suffix}
use Rattle.comet_syntax.specs.declared.tree.expressions.Generator.{Generator, fold-Generator}
use Rattle.comet_syntax.specs.declared.tree.expressions.Generators.{Generators, fold-Generators}
use Rattle.comet_syntax.specs.declared.tree.expressions.Link.{Link, fold-Link}
use Rattle.comet_syntax.specs.declared.tree.expressions.Argument.TheOpen as layers
use Rattle.comet_syntax.specs.declared.tree.expressions.Argument.TheFolds.{fold-Expression, fold-Argument, fold-Suffix}
use Rattle.comet_syntax.specs.declared.tree.declarations.Class.{Class}
use Rattle.comet_syntax.specs.declared.tree.declarations.Dimension.{Dimension}
use Rattle.comet_syntax.specs.declared.tree.declarations.Dimensions.{Dimensions}
use Rattle.comet_syntax.specs.declared.tree.declarations.Incremental.{Incremental}
use Rattle.comet_syntax.specs.declared.tree.declarations.Maker.{Maker}
use Rattle.comet_syntax.specs.declared.tree.declarations.Maker.TheVariants as makers
use Rattle.comet_syntax.specs.declared.tree.declarations.VariableStart.{VariableStart}
use Rattle.comet_syntax.specs.declared.tree.declarations.VariableStart.TheVariants as starts
use Rattle.comet_syntax.specs.declared.tree.declarations.Declaration.{Declaration}
use Rattle.comet_syntax.specs.declared.tree.declarations.Declaration.TheVariants as declarations
use Rattle.comet_syntax.specs.declared.tree.statements.Events.{Events}
use Rattle.comet_syntax.specs.declared.tree.statements.ForHead.{ForHead}
use Rattle.comet_syntax.specs.declared.tree.statements.ForStart.{ForStart}
use Rattle.comet_syntax.specs.declared.tree.statements.Item.{Item}
use Rattle.comet_syntax.specs.declared.tree.statements.Item.TheVariants as items
use Rattle.comet_syntax.specs.declared.tree.statements.NewObject.{NewObject}
use Rattle.comet_syntax.specs.declared.tree.statements.Simple.{Simple}
use Rattle.comet_syntax.specs.declared.tree.statements.Simple.TheVariants as simples
use Rattle.comet_syntax.specs.declared.tree.statements.Statement.{Statement}
use Rattle.comet_syntax.specs.declared.tree.statements.Statement.TheOpen as statements
use Rattle.comet_syntax.specs.declared.tree.statements.Statement.TheFolds.{fold-Statement}
use Rattle.comet_syntax.specs.declared.tree.statements.Block.{Block, fold-Block}
use Rattle.comet_syntax.specs.declared.tree.statements.Step.{Step}
use Rattle.comet_syntax.specs.declared.tree.statements.Watched.{Watched}
use Rattle.comet_syntax.specs.declared.tree.statements.WithMode.{WithMode}
use Rattle.comet_syntax.specs.declared.tree.statements.WriteOperator.{WriteOperator}
use Rattle.comet_syntax.specs.declared.tree.program.Function.{Function}
use Rattle.comet_syntax.specs.declared.tree.program.Parameter.{Parameter}
use Rattle.comet_syntax.specs.declared.tree.program.Program.{Program}
use Rattle.comet_syntax.specs.declared.tree.program.ResultKind.{ResultKind}
use Rattle.comet_syntax.specs.declared.tree.program.TopPart.{TopPart}
use Rattle.comet_syntax.specs.declared.tree.program.TopPart.TheVariants as tops
use Rattle.comet_syntax.specs.Written.Statements.{unboxed}

pub data Bare : Type 0 where
  -- a list
  no_more : Bare
  more : Bare → Bare → Bare
  -- what may be left out
  left_out : Bare
  given : Bare → Bare
  -- expressions
  conditional : Bare → Bare → Bare → Bare
  chain : Bare → Bare → Bare
  comparison : Bare → Comparison → Place → Bare → Bare
  range : Bare → Place → Bare → Bare
  unary : UnaryOperator → Place → Bare → Bare
  aggregate : Aggregate → Place → Bare → Bare → Bare
  postfix : Bare → Bare → Bare
  number : ℤ → Place → Bare
  truth : Bool → Place → Bare
  name : Name → Bare
  call : Name → Bare → Bare
  extreme : Extreme → Place → Bare → Bare → Bare
  parentheses : Place → Bare → Bare
  list : Place → Bare → Bare
  set : Place → Bare → Bare
  link : ChainOperator → Place → Bare → Bare
  index : Place → Bare → Bare
  cell : Place → Bare → Bare → Bare
  method : Name → Bare → Bare
  -- an argument or an item: an expression, a string, or `endl`
  value : Bare → Bare
  text : List ℕ → Bare
  end_line : Bare
  generator : Name → Bare → Bare
  generators : Bare → Bare → Bare
  -- declarations
  dimension : Option Name → Bare → Bare
  dimensions : Bare → Bare → Bare
  assigned : Bare → Bare
  defined : Bare → Bare
  direct : Bare → Bare
  made : Class → Bare → Bare
  int_variable : Place → Name → Bare → Bare → Bare
  int_array : Place → Name → Bare → Bare
  bool_variable : Place → Name → Bare → Bare
  range_variable : Place → Name → Bare → Bare
  set_variable : Place → Name → Bare → Bare
  incremental_int : Place → Incremental → Name → Bare → Name → Bare → Bare → Bare
  incremental_set : Place → Incremental → Name → Bare → Name → Bare → Bare
  object : Class → Name → Bare → Bare
  -- simple statements
  write : Bare → WriteOperator → Bare → Bare
  swap : Bare → Bare → Bare
  step : Bare → Step → Bare
  alone : Bare → Bare
  new : Name → Class → Bare → Bare
  print : Place → Bare → Bare
  call_chosen : Place → Bare → Bare
  -- statements
  for_start : Name → Bare → Bare
  block : Place → Bare → Bare
  block_statement : Bare → Bare
  empty : Place → Bare
  declaration : Bare → Bare
  simple : Bare → Bare
  return_value : Place → Bare → Bare
  when : Place → Bare → Bare → Bare → Bare
  while_true : Place → Bare → Bare → Bare
  for_each_step : Place → Bare → Bare → Bare → Bare → Bare
  for_all : Place → Bare → Bare → Bare
  select : Place → Bare → Bare → Bare
  select_by : Place → Extreme → Bare → Bare → Bare → Bare
  neighbor : Place → Bare → Name → Bare → Bare
  whenever : Place → Bare → Name → Option Events → Bare → Bare
  with_mode : Place → WithMode → Name → Bare → Bare
  parall : Place → Name → Bare → Bare → Bare
  -- programs
  import : Name → Bare
  include : List ℕ → Bare
  function : Place → ResultKind → Name → List Parameter → Bare → Bare
  top_statement : Bare → Bare

abbrev pub listed : List Bare → Bare
listed [] = no_more
listed (x ∷ xs) = more x (listed xs)

abbrev pub optional : {A : Type 0} → (A → Bare) → Option A → Bare
optional f None = left_out
optional f (Some x) = given (f x)

-- one layer of an expression
abbrev pub expression_layer : layers.Expression-F Bare Bare Bare Bare Bare Bare → Bare
expression_layer (layers.Conditional test yes_part no_part) = conditional test.value yes_part.value no_part.value
expression_layer (layers.Chain first links) = chain first.value (listed links.items)
expression_layer (layers.Comparison left c place right) = comparison left.value c place right.value
expression_layer (layers.Range low place high) = range low.value place high.value
expression_layer (layers.Unary operator place e) = unary operator place e.value
expression_layer (layers.Aggregate a place g body) = aggregate a place g.value body.value
expression_layer (layers.Postfix primary all) = postfix primary.value (listed all.items)
expression_layer (layers.Number n place) = number n place
expression_layer (layers.Truth b place) = truth b place
expression_layer (layers.Name n) = name n
expression_layer (layers.Call n a) = call n.value (listed a.items)
expression_layer (layers.Extreme e place left right) = extreme e place left.value right.value
expression_layer (layers.Parentheses place inner) = parentheses place inner.value
expression_layer (layers.List place a) = list place (listed a.items)
expression_layer (layers.Set place a) = set place (listed a.items)

abbrev pub argument_layer : layers.Argument-F Bare Bare Bare Bare Bare Bare → Bare
argument_layer (layers.Expression e) = value e
argument_layer (layers.Str t) = text t

abbrev pub suffix_layer : layers.Suffix-F Bare Bare Bare Bare Bare Bare → Bare
suffix_layer (layers.Index place e) = index place e
suffix_layer (layers.Cell place a b) = cell place a b
suffix_layer (layers.Method n a) = method n (listed a.items)

abbrev pub generator_layer : layers.Generator-F Bare Bare Bare Bare Bare Bare → Bare
generator_layer g = generator g.name g.domain

abbrev pub generators_layer : layers.Generators-F Bare Bare Bare Bare Bare Bare → Bare
generators_layer g = generators (listed g.generators.items) (optional (λ b. b.value) g.condition)

abbrev pub link_layer : layers.Link-F Bare Bare Bare Bare Bare Bare → Bare
link_layer l = link l.operator l.place l.operand

unfoldable pub bare_expression : Expression → Bare
bare_expression = fold-Expression Bare Bare Bare Bare Bare Bare argument_layer expression_layer suffix_layer generator_layer generators_layer link_layer

unfoldable pub bare_argument : Argument → Bare
bare_argument = fold-Argument Bare Bare Bare Bare Bare Bare argument_layer expression_layer suffix_layer generator_layer generators_layer link_layer

unfoldable pub bare_suffix : Suffix → Bare
bare_suffix = fold-Suffix Bare Bare Bare Bare Bare Bare argument_layer expression_layer suffix_layer generator_layer generators_layer link_layer

unfoldable pub bare_generator : Generator → Bare
bare_generator = fold-Generator Bare Bare Bare Bare Bare Bare argument_layer expression_layer suffix_layer generator_layer generators_layer link_layer

unfoldable pub bare_generators : Generators → Bare
bare_generators = fold-Generators Bare Bare Bare Bare Bare Bare argument_layer expression_layer suffix_layer generator_layer generators_layer link_layer

unfoldable pub bare_link : Link → Bare
bare_link = fold-Link Bare Bare Bare Bare Bare Bare argument_layer expression_layer suffix_layer generator_layer generators_layer link_layer

abbrev pub bare_arguments : List Argument → Bare
bare_arguments a = listed (map bare_argument a)

abbrev pub bare_dimension : Dimension → Bare
bare_dimension d = dimension d.name (bare_expression d.range)

abbrev pub bare_dimensions : Dimensions → Bare
bare_dimensions d = dimensions (bare_dimension d.first) (optional bare_dimension d.second)

abbrev pub bare_start : VariableStart → Bare
bare_start (starts.Assign e) = assigned (bare_expression e)
bare_start (starts.Define e) = defined (bare_expression e)

abbrev pub bare_maker : Maker → Bare
bare_maker (makers.Direct a) = direct (bare_arguments a.items)
bare_maker (makers.New c a) = made c (bare_arguments a.items)

abbrev pub bare_declaration : Declaration → Bare
bare_declaration (declarations.Int place n d e) = int_variable place n (optional bare_dimensions d) (optional bare_expression e)
bare_declaration (declarations.IntArray place n e) = int_array place n (bare_expression e)
bare_declaration (declarations.Bool place n e) = bool_variable place n (optional bare_expression e)
bare_declaration (declarations.Range place n e) = range_variable place n (bare_expression e)
bare_declaration (declarations.Set place n e) = set_variable place n (optional bare_expression e)
bare_declaration (declarations.Variable place w n d s e v) = incremental_int place w n (optional bare_dimensions d) s (optional bare_expression e) (optional bare_start v)
bare_declaration (declarations.SetVariable place w n d s e) = incremental_set place w n (optional bare_dimensions d) s (bare_expression e)
bare_declaration (declarations.Object c n m) = object c n (bare_maker m)

abbrev pub bare_item : Item → Bare
bare_item (items.Expression e) = value (bare_expression e)
bare_item (items.Str t) = text t
bare_item items.EndLine = end_line

abbrev pub bare_new : NewObject → Bare
bare_new n = new n.name n.class (bare_arguments n.arguments.items)

abbrev pub bare_simple : Simple → Bare
bare_simple (simples.Write target operator e) = write (bare_expression target.value) operator (bare_expression e.value)
bare_simple (simples.Swap left right) = swap (bare_expression left.value) (bare_expression right.value)
bare_simple (simples.Step target s) = step (bare_expression target.value) s
bare_simple (simples.Postfix e) = alone (bare_expression e)
bare_simple (simples.New n) = bare_new n.value
bare_simple (simples.Print place i) = print place (listed (map bare_item i.items))
bare_simple (simples.Call place e) = call_chosen place (bare_expression e.value)

abbrev pub bare_for_start : ForStart → Bare
bare_for_start s = for_start s.name (bare_expression s.value)

abbrev pub bare_for : Place → ForHead → Bare → Bare
bare_for place head body = for_each_step place (optional bare_for_start head.start) (optional bare_expression head.test) (optional bare_simple head.step) body

abbrev pub bare_watched : Place → Watched → Bare → Bare
bare_watched place w body = whenever place (bare_expression w.variable) w.event w.names body

-- one layer of a statement
abbrev pub statement_layer : statements.Statement-F Bare Bare → Bare
statement_layer (statements.Block b) = block_statement b
statement_layer (statements.Empty place) = empty place
statement_layer (statements.Declaration d) = declaration (bare_declaration d.value)
statement_layer (statements.Simple s) = simple (bare_simple s)
statement_layer (statements.Return place e) = return_value place (optional bare_expression (unboxed e))
statement_layer (statements.If place test yes_part no_part) = when place (bare_expression test.value) yes_part.value (optional (λ b. b.value) no_part)
statement_layer (statements.While place test body) = while_true place (bare_expression test.value) body.value
statement_layer (statements.For place head body) = bare_for place head.value body.value
statement_layer (statements.ForAll place all body) = for_all place (bare_generators all.value) body.value
statement_layer (statements.Select place all body) = select place (bare_generators all.value) body.value
statement_layer (statements.SelectBy place e all key body) = select_by place e (bare_generators all.value) (bare_expression key.value) body.value
statement_layer (statements.Neighbor place key n body) = neighbor place (bare_expression key.value) n body.value
statement_layer (statements.Whenever place watched body) = bare_watched place watched.value body.value
statement_layer (statements.With place mode n body) = with_mode place mode n body.value
statement_layer (statements.Parall place n all body) = parall place n (bare_expression all.value) body.value

abbrev pub block_layer : statements.Block-F Bare Bare → Bare
block_layer b = block b.place (listed b.statements.items)

unfoldable pub bare_statement : Statement → Bare
bare_statement = fold-Statement Bare Bare statement_layer block_layer

unfoldable pub bare_block : Block → Bare
bare_block = fold-Block Bare Bare statement_layer block_layer

abbrev pub bare_function : Function → Bare
bare_function f = function f.place f.result f.name f.parameters.items (bare_block f.body)

abbrev pub bare_top : TopPart → Bare
bare_top (tops.Import n) = import n
bare_top (tops.Include t) = include t
bare_top (tops.Function f) = bare_function f.value
bare_top (tops.Statement s) = top_statement (bare_statement s)

abbrev pub bare_program : Program → Bare
bare_program p = listed (map bare_top p.parts.items)

abbrev pub SameProgram : Program → Program → Type 0
SameProgram p q = bare_program p ≡ bare_program q
