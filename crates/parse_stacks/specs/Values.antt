-- The value that each part of a program has, and the stacks on which values stand, each seen with its top first.
-- Definitions of this project.
use Rattle.std.specs.Prelude.{ℕ, Bool, List, [], Option, reverse}
use Rattle.std.specs.declared.alloc.Global.{Global}
use Rattle.std.specs.declared.vec.Vec.{Vec}
use Rattle.cbl_base.specs.declared.place.Place.{Place}
use Rattle.comet_syntax.specs.declared.tree.expressions.Argument.{Argument}
use Rattle.comet_syntax.specs.declared.tree.statements.Block.{Block}
use Rattle.comet_syntax.specs.declared.tree.declarations.Class.{Class}
use Rattle.comet_syntax.specs.declared.tree.declarations.Declaration.{Declaration}
use Rattle.comet_syntax.specs.declared.tree.declarations.Dimension.{Dimension}
use Rattle.comet_syntax.specs.declared.tree.declarations.Dimensions.{Dimensions}
use Rattle.comet_syntax.specs.declared.tree.statements.Events.{Events}
use Rattle.comet_syntax.specs.declared.tree.expressions.Expression.{Expression}
use Rattle.comet_syntax.specs.declared.tree.statements.ForStart.{ForStart}
use Rattle.comet_syntax.specs.declared.tree.expressions.Generator.{Generator}
use Rattle.comet_syntax.specs.declared.tree.expressions.Generators.{Generators}
use Rattle.comet_syntax.specs.declared.tree.statements.Item.{Item}
use Rattle.comet_syntax.specs.declared.tree.expressions.Link.{Link}
use Rattle.comet_syntax.specs.declared.tree.declarations.Maker.{Maker}
use Rattle.comet_syntax.specs.declared.tree.expressions.Name.{Name}
use Rattle.comet_syntax.specs.declared.tree.program.Parameter.{Parameter}
use Rattle.comet_syntax.specs.declared.tree.program.ResultKind.{ResultKind}
use Rattle.comet_syntax.specs.declared.tree.statements.Simple.{Simple}
use Rattle.comet_syntax.specs.declared.tree.statements.Statement.{Statement}
use Rattle.comet_syntax.specs.declared.tree.expressions.Suffix.{Suffix}
use Rattle.comet_syntax.specs.declared.tree.program.TopPart.{TopPart}
use Rattle.comet_syntax.specs.declared.tree.declarations.VariableStart.{VariableStart}
use Rattle.comet_syntax.specs.declared.tree.statements.WithMode.{WithMode}
use Rattle.comet_syntax.specs.Grammar.Symbols as grammar
use Rattle.comet_syntax.specs.Grammar.Symbols.{Part}
use Rattle.parse_stacks.specs.declared.stacks.Stacks.{Stacks}
use Rattle.parse_stacks.specs.declared.tails.Branches.{Branches}
use Rattle.parse_stacks.specs.declared.tails.Compared.{Compared}
use Rattle.parse_stacks.specs.declared.tails.DimensionRest.{DimensionRest}
use Rattle.parse_stacks.specs.declared.tails.IntRest.{IntRest}
use Rattle.parse_stacks.specs.declared.tails.NamedRest.{NamedRest}
use Rattle.parse_stacks.specs.declared.tails.NewValue.{NewValue}
use Rattle.parse_stacks.specs.declared.tails.Pair.{Pair}
use Rattle.parse_stacks.specs.declared.tails.PairRest.{PairRest}
use Rattle.parse_stacks.specs.declared.tails.ParameterType.{ParameterType}
use Rattle.parse_stacks.specs.declared.tails.UpTo.{UpTo}
use Rattle.parse_stacks.specs.declared.tails.VariableRest.{VariableRest}
use Rattle.parse_stacks.specs.declared.tails.WriteRest.{WriteRest}

pub record State : Type 0 where
  pub places : List Place
  pub names : List Name
  pub texts : List (List ℕ)
  pub expressions : List Expression
  pub optional : List (Option Expression)
  pub links : List (Vec Link Global)
  pub compared : List (Option Compared)
  pub up_to : List (Option UpTo)
  pub branches : List (Option Branches)
  pub called : List (Option (Vec Argument Global))
  pub suffixes : List (Vec Suffix Global)
  pub lists : List (Vec Argument Global)
  pub arguments : List Argument
  pub pairs : List Pair
  pub pair_rests : List PairRest
  pub all_generators : List Generators
  pub generator_lists : List (Vec Generator Global)
  pub generators : List Generator
  pub templates : List (Option Name)
  pub classes : List Class
  pub declarations : List Declaration
  pub int_rests : List IntRest
  pub variable_rests : List VariableRest
  pub variable_starts : List (Option VariableStart)
  pub makers : List Maker
  pub all_dimensions : List (Option Dimensions)
  pub second_dimensions : List (Option Dimension)
  pub dimensions : List Dimension
  pub dimension_rests : List DimensionRest
  pub programs : List (Vec TopPart Global)
  pub tops : List TopPart
  pub results : List ResultKind
  pub parameter_lists : List (Vec Parameter Global)
  pub parameters : List Parameter
  pub parameter_types : List ParameterType
  pub brackets : List Bool
  pub blocks : List Block
  pub statement_lists : List (Vec Statement Global)
  pub statements : List Statement
  pub otherwise : List (Option Statement)
  pub for_starts : List (Option ForStart)
  pub for_steps : List (Option Simple)
  pub events : List (Option Events)
  pub modes : List WithMode
  pub simples : List Simple
  pub named_rests : List NamedRest
  pub new_values : List NewValue
  pub writes : List WriteRest
  pub items : List Item
  pub item_lists : List (Vec Item Global)

-- what stands on the stacks
abbrev pub state : Stacks → State
state s = record {
  places = reverse s.places.items;
  names = reverse s.names.items;
  texts = reverse s.texts.items;
  expressions = reverse s.expressions.items;
  optional = reverse s.optional.items;
  links = reverse s.links.items;
  compared = reverse s.compared.items;
  up_to = reverse s.up_to.items;
  branches = reverse s.branches.items;
  called = reverse s.called.items;
  suffixes = reverse s.suffixes.items;
  lists = reverse s.lists.items;
  arguments = reverse s.arguments.items;
  pairs = reverse s.pairs.items;
  pair_rests = reverse s.pair_rests.items;
  all_generators = reverse s.all_generators.items;
  generator_lists = reverse s.generator_lists.items;
  generators = reverse s.generators.items;
  templates = reverse s.templates.items;
  classes = reverse s.classes.items;
  declarations = reverse s.declarations.items;
  int_rests = reverse s.int_rests.items;
  variable_rests = reverse s.variable_rests.items;
  variable_starts = reverse s.variable_starts.items;
  makers = reverse s.makers.items;
  all_dimensions = reverse s.all_dimensions.items;
  second_dimensions = reverse s.second_dimensions.items;
  dimensions = reverse s.dimensions.items;
  dimension_rests = reverse s.dimension_rests.items;
  programs = reverse s.programs.items;
  tops = reverse s.tops.items;
  results = reverse s.results.items;
  parameter_lists = reverse s.parameter_lists.items;
  parameters = reverse s.parameters.items;
  parameter_types = reverse s.parameter_types.items;
  brackets = reverse s.brackets.items;
  blocks = reverse s.blocks.items;
  statement_lists = reverse s.statement_lists.items;
  statements = reverse s.statements.items;
  otherwise = reverse s.otherwise.items;
  for_starts = reverse s.for_starts.items;
  for_steps = reverse s.for_steps.items;
  events = reverse s.events.items;
  modes = reverse s.modes.items;
  simples = reverse s.simples.items;
  named_rests = reverse s.named_rests.items;
  new_values = reverse s.new_values.items;
  writes = reverse s.writes.items;
  items = reverse s.items.items;
  item_lists = reverse s.item_lists.items;
}

-- stacks on which nothing stands
abbrev pub empty_stacks : State
empty_stacks = record {
  places = [];
  names = [];
  texts = [];
  expressions = [];
  optional = [];
  links = [];
  compared = [];
  up_to = [];
  branches = [];
  called = [];
  suffixes = [];
  lists = [];
  arguments = [];
  pairs = [];
  pair_rests = [];
  all_generators = [];
  generator_lists = [];
  generators = [];
  templates = [];
  classes = [];
  declarations = [];
  int_rests = [];
  variable_rests = [];
  variable_starts = [];
  makers = [];
  all_dimensions = [];
  second_dimensions = [];
  dimensions = [];
  dimension_rests = [];
  programs = [];
  tops = [];
  results = [];
  parameter_lists = [];
  parameters = [];
  parameter_types = [];
  brackets = [];
  blocks = [];
  statement_lists = [];
  statements = [];
  otherwise = [];
  for_starts = [];
  for_steps = [];
  events = [];
  modes = [];
  simples = [];
  named_rests = [];
  new_values = [];
  writes = [];
  items = [];
  item_lists = [];
}

-- the value of a part
abbrev pub Value : Part → Type 0
Value grammar.program = Vec TopPart Global
Value grammar.top = TopPart
Value grammar.result_kind = ResultKind
Value grammar.parameters = Vec Parameter Global
Value grammar.parameters_tail = Vec Parameter Global
Value grammar.parameter = Parameter
Value grammar.parameter_kind = ParameterType
Value grammar.brackets = Bool
Value grammar.template = Option Name
Value grammar.class_name = Class
Value grammar.block = Block
Value grammar.statements = Vec Statement Global
Value grammar.statement = Statement
Value grammar.otherwise = Option Statement
Value grammar.optional_value = Option Expression
Value grammar.for_start = Option ForStart
Value grammar.for_step = Option Simple
Value grammar.events = Option Events
Value grammar.with_mode = WithMode
Value grammar.generators = Generators
Value grammar.generators_tail = Vec Generator Global
Value grammar.condition = Option Expression
Value grammar.generator = Generator
Value grammar.simple = Simple
Value grammar.named_simple = NamedRest
Value grammar.new_value = NewValue
Value grammar.write = WriteRest
Value grammar.first_name = Name
Value grammar.item = Item
Value grammar.items_tail = Vec Item Global
Value grammar.declaration = Declaration
Value grammar.int_rest = IntRest
Value grammar.start_value = Option Expression
Value grammar.variable_rest = VariableRest
Value grammar.domain = Option Expression
Value grammar.variable_start = Option VariableStart
Value grammar.maker = Maker
Value grammar.dimensions = Option Dimensions
Value grammar.dimensions_tail = Option Dimension
Value grammar.dimension = Dimension
Value grammar.dimension_rest = DimensionRest
Value grammar.expression = Expression
Value grammar.branches = Option Branches
Value grammar.or_tail = Vec Link Global
Value grammar.and_tail = Vec Link Global
Value grammar.comparison_tail = Option Compared
Value grammar.range_tail = Option UpTo
Value grammar.total_tail = Vec Link Global
Value grammar.product_tail = Vec Link Global
Value grammar.operand = Expression
Value grammar.unnamed = Expression
Value grammar.pair = Pair
Value grammar.pair_named = PairRest
Value grammar.literal = Expression
Value grammar.extreme = Expression
Value grammar.postfix = Expression
Value grammar.called = Option (Vec Argument Global)
Value grammar.suffixes = Vec Suffix Global
Value grammar.second = Option Expression
Value grammar.arguments = Vec Argument Global
Value grammar.listed = Vec Argument Global
Value grammar.arguments_tail = Vec Argument Global
Value grammar.argument = Argument

-- the stack on which the value of a part stands
abbrev pub stack : (n : Part) → State → List (Value n)
stack grammar.program s = s.programs
stack grammar.top s = s.tops
stack grammar.result_kind s = s.results
stack grammar.parameters s = s.parameter_lists
stack grammar.parameters_tail s = s.parameter_lists
stack grammar.parameter s = s.parameters
stack grammar.parameter_kind s = s.parameter_types
stack grammar.brackets s = s.brackets
stack grammar.template s = s.templates
stack grammar.class_name s = s.classes
stack grammar.block s = s.blocks
stack grammar.statements s = s.statement_lists
stack grammar.statement s = s.statements
stack grammar.otherwise s = s.otherwise
stack grammar.optional_value s = s.optional
stack grammar.for_start s = s.for_starts
stack grammar.for_step s = s.for_steps
stack grammar.events s = s.events
stack grammar.with_mode s = s.modes
stack grammar.generators s = s.all_generators
stack grammar.generators_tail s = s.generator_lists
stack grammar.condition s = s.optional
stack grammar.generator s = s.generators
stack grammar.simple s = s.simples
stack grammar.named_simple s = s.named_rests
stack grammar.new_value s = s.new_values
stack grammar.write s = s.writes
stack grammar.first_name s = s.names
stack grammar.item s = s.items
stack grammar.items_tail s = s.item_lists
stack grammar.declaration s = s.declarations
stack grammar.int_rest s = s.int_rests
stack grammar.start_value s = s.optional
stack grammar.variable_rest s = s.variable_rests
stack grammar.domain s = s.optional
stack grammar.variable_start s = s.variable_starts
stack grammar.maker s = s.makers
stack grammar.dimensions s = s.all_dimensions
stack grammar.dimensions_tail s = s.second_dimensions
stack grammar.dimension s = s.dimensions
stack grammar.dimension_rest s = s.dimension_rests
stack grammar.expression s = s.expressions
stack grammar.branches s = s.branches
stack grammar.or_tail s = s.links
stack grammar.and_tail s = s.links
stack grammar.comparison_tail s = s.compared
stack grammar.range_tail s = s.up_to
stack grammar.total_tail s = s.links
stack grammar.product_tail s = s.links
stack grammar.operand s = s.expressions
stack grammar.unnamed s = s.expressions
stack grammar.pair s = s.pairs
stack grammar.pair_named s = s.pair_rests
stack grammar.literal s = s.expressions
stack grammar.extreme s = s.expressions
stack grammar.postfix s = s.expressions
stack grammar.called s = s.called
stack grammar.suffixes s = s.suffixes
stack grammar.second s = s.optional
stack grammar.arguments s = s.lists
stack grammar.listed s = s.lists
stack grammar.arguments_tail s = s.lists
stack grammar.argument s = s.arguments

-- the same stacks, but for that of a part
abbrev pub with_stack : (n : Part) → State → List (Value n) → State
with_stack grammar.program s all = record s { programs = all }
with_stack grammar.top s all = record s { tops = all }
with_stack grammar.result_kind s all = record s { results = all }
with_stack grammar.parameters s all = record s { parameter_lists = all }
with_stack grammar.parameters_tail s all = record s { parameter_lists = all }
with_stack grammar.parameter s all = record s { parameters = all }
with_stack grammar.parameter_kind s all = record s { parameter_types = all }
with_stack grammar.brackets s all = record s { brackets = all }
with_stack grammar.template s all = record s { templates = all }
with_stack grammar.class_name s all = record s { classes = all }
with_stack grammar.block s all = record s { blocks = all }
with_stack grammar.statements s all = record s { statement_lists = all }
with_stack grammar.statement s all = record s { statements = all }
with_stack grammar.otherwise s all = record s { otherwise = all }
with_stack grammar.optional_value s all = record s { optional = all }
with_stack grammar.for_start s all = record s { for_starts = all }
with_stack grammar.for_step s all = record s { for_steps = all }
with_stack grammar.events s all = record s { events = all }
with_stack grammar.with_mode s all = record s { modes = all }
with_stack grammar.generators s all = record s { all_generators = all }
with_stack grammar.generators_tail s all = record s { generator_lists = all }
with_stack grammar.condition s all = record s { optional = all }
with_stack grammar.generator s all = record s { generators = all }
with_stack grammar.simple s all = record s { simples = all }
with_stack grammar.named_simple s all = record s { named_rests = all }
with_stack grammar.new_value s all = record s { new_values = all }
with_stack grammar.write s all = record s { writes = all }
with_stack grammar.first_name s all = record s { names = all }
with_stack grammar.item s all = record s { items = all }
with_stack grammar.items_tail s all = record s { item_lists = all }
with_stack grammar.declaration s all = record s { declarations = all }
with_stack grammar.int_rest s all = record s { int_rests = all }
with_stack grammar.start_value s all = record s { optional = all }
with_stack grammar.variable_rest s all = record s { variable_rests = all }
with_stack grammar.domain s all = record s { optional = all }
with_stack grammar.variable_start s all = record s { variable_starts = all }
with_stack grammar.maker s all = record s { makers = all }
with_stack grammar.dimensions s all = record s { all_dimensions = all }
with_stack grammar.dimensions_tail s all = record s { second_dimensions = all }
with_stack grammar.dimension s all = record s { dimensions = all }
with_stack grammar.dimension_rest s all = record s { dimension_rests = all }
with_stack grammar.expression s all = record s { expressions = all }
with_stack grammar.branches s all = record s { branches = all }
with_stack grammar.or_tail s all = record s { links = all }
with_stack grammar.and_tail s all = record s { links = all }
with_stack grammar.comparison_tail s all = record s { compared = all }
with_stack grammar.range_tail s all = record s { up_to = all }
with_stack grammar.total_tail s all = record s { links = all }
with_stack grammar.product_tail s all = record s { links = all }
with_stack grammar.operand s all = record s { expressions = all }
with_stack grammar.unnamed s all = record s { expressions = all }
with_stack grammar.pair s all = record s { pairs = all }
with_stack grammar.pair_named s all = record s { pair_rests = all }
with_stack grammar.literal s all = record s { expressions = all }
with_stack grammar.extreme s all = record s { expressions = all }
with_stack grammar.postfix s all = record s { expressions = all }
with_stack grammar.called s all = record s { called = all }
with_stack grammar.suffixes s all = record s { suffixes = all }
with_stack grammar.second s all = record s { optional = all }
with_stack grammar.arguments s all = record s { lists = all }
with_stack grammar.listed s all = record s { lists = all }
with_stack grammar.arguments_tail s all = record s { lists = all }
with_stack grammar.argument s all = record s { arguments = all }
