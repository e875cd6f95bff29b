-- Which part, symbol and kind of the grammar's definitions the table's words stand for.
-- Definitions of this project.
use Rattle.comet_syntax.specs.Grammar.Kinds.{Kind, a_name, a_number, a_string, a_word}
use Rattle.comet_syntax.specs.Grammar.Symbols as grammar
use Rattle.comet_syntax.specs.Grammar.Symbols.{Symbol, Part, same, deeper, onward, onward_deeper, word, mark, named, numbered, quoted}
use Rattle.parse_machine.specs.declared.grammar.Kind.{Kind as KindCode}
use Rattle.parse_machine.specs.declared.grammar.Kind.TheVariants as kinds
use Rattle.parse_machine.specs.declared.grammar.Part.{Part as PartCode}
use Rattle.parse_machine.specs.declared.grammar.Part.TheVariants as parts
use Rattle.parse_machine.specs.declared.grammar.Symbol.{Symbol as SymbolCode}
use Rattle.parse_machine.specs.declared.grammar.Symbol.TheVariants as symbols

abbrev pub kind_in : KindCode → Kind
kind_in kinds.Name = a_name
kind_in kinds.Number = a_number
kind_in kinds.Str = a_string
kind_in (kinds.Word w) = a_word w

abbrev pub part_of : PartCode → Part
part_of parts.Program = grammar.program
part_of parts.Top = grammar.top
part_of parts.ResultKind = grammar.result_kind
part_of parts.Parameters = grammar.parameters
part_of parts.ParametersTail = grammar.parameters_tail
part_of parts.Parameter = grammar.parameter
part_of parts.ParameterKind = grammar.parameter_kind
part_of parts.Brackets = grammar.brackets
part_of parts.Template = grammar.template
part_of parts.ClassName = grammar.class_name
part_of parts.Block = grammar.block
part_of parts.Statements = grammar.statements
part_of parts.Statement = grammar.statement
part_of parts.Otherwise = grammar.otherwise
part_of parts.OptionalValue = grammar.optional_value
part_of parts.ForStart = grammar.for_start
part_of parts.ForStep = grammar.for_step
part_of parts.Events = grammar.events
part_of parts.WithMode = grammar.with_mode
part_of parts.Generators = grammar.generators
part_of parts.GeneratorsTail = grammar.generators_tail
part_of parts.Condition = grammar.condition
part_of parts.Generator = grammar.generator
part_of parts.Simple = grammar.simple
part_of parts.NamedSimple = grammar.named_simple
part_of parts.NewValue = grammar.new_value
part_of parts.Write = grammar.write
part_of parts.FirstName = grammar.first_name
part_of parts.Item = grammar.item
part_of parts.ItemsTail = grammar.items_tail
part_of parts.Declaration = grammar.declaration
part_of parts.IntRest = grammar.int_rest
part_of parts.StartValue = grammar.start_value
part_of parts.VariableRest = grammar.variable_rest
part_of parts.Domain = grammar.domain
part_of parts.VariableStart = grammar.variable_start
part_of parts.Maker = grammar.maker
part_of parts.Dimensions = grammar.dimensions
part_of parts.DimensionsTail = grammar.dimensions_tail
part_of parts.Dimension = grammar.dimension
part_of parts.DimensionRest = grammar.dimension_rest
part_of parts.Expression = grammar.expression
part_of parts.Branches = grammar.branches
part_of parts.OrTail = grammar.or_tail
part_of parts.AndTail = grammar.and_tail
part_of parts.ComparisonTail = grammar.comparison_tail
part_of parts.RangeTail = grammar.range_tail
part_of parts.TotalTail = grammar.total_tail
part_of parts.ProductTail = grammar.product_tail
part_of parts.Operand = grammar.operand
part_of parts.Unnamed = grammar.unnamed
part_of parts.Pair = grammar.pair
part_of parts.PairNamed = grammar.pair_named
part_of parts.Literal = grammar.literal
part_of parts.Extreme = grammar.extreme
part_of parts.Postfix = grammar.postfix
part_of parts.Called = grammar.called
part_of parts.Suffixes = grammar.suffixes
part_of parts.Second = grammar.second
part_of parts.Arguments = grammar.arguments
part_of parts.Listed = grammar.listed
part_of parts.ArgumentsTail = grammar.arguments_tail
part_of parts.Argument = grammar.argument

abbrev pub symbol_of : SymbolCode → Symbol
symbol_of (symbols.Word w) = word w
symbol_of (symbols.Mark w) = mark w
symbol_of symbols.Named = named
symbol_of symbols.Numbered = numbered
symbol_of symbols.Quoted = quoted
symbol_of (symbols.Same n) = same (part_of n)
symbol_of (symbols.Deeper n) = deeper (part_of n)
symbol_of (symbols.Onward n) = onward (part_of n)
symbol_of (symbols.OnwardDeeper n) = onward_deeper (part_of n)
