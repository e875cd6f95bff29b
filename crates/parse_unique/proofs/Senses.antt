-- What each tree without its pointers is written as.
use Rattle.std.specs.Prelude.{ℕ, List, [], ◌∷◌, Option, None, Some}
use Rattle.cbl_base.specs.declared.place.Place.{Place}
use Rattle.comet_syntax.specs.declared.token.TokenKind.TheVariants as kinds
use Rattle.comet_syntax.specs.declared.token.Word.TheVariants as words
use Rattle.comet_syntax.specs.declared.tree.expressions.Name.{Name}
use Rattle.comet_syntax.specs.declared.tree.expressions.ChainOperator.{ChainOperator}
use Rattle.comet_syntax.specs.declared.tree.expressions.ChainOperator.TheVariants as chains
use Rattle.comet_syntax.specs.declared.tree.declarations.Class.{Class}
use Rattle.comet_syntax.specs.declared.tree.declarations.Incremental.{Incremental}
use Rattle.comet_syntax.specs.declared.tree.program.Parameter.{Parameter}
use Rattle.comet_syntax.specs.declared.tree.program.ResultKind.{ResultKind}
use Rattle.comet_syntax.specs.Grammar.Symbols as parts
use Rattle.comet_syntax.specs.Grammar.Symbols.{Part}
use Rattle.comet_syntax.specs.Grammar.Expressions.{suffixes_left_bracket, suffixes_dot, second_comma, argument_expression, argument_string}
use Rattle.comet_syntax.specs.Grammar.Statements.{statement_block, statement_semicolon, statement_declaration, statement_simple, statement_return, statement_for_all, statement_select, optional_value_expression, for_start_int, for_step_simple, simple_cout, simple_call, new_value_new, write_swap, item_expression, item_string, item_endl, items_tail_less_less}
use Rattle.comet_syntax.specs.Grammar.Declarations.{declaration_int, declaration_bool, declaration_range, declaration_set, declaration_class_name, int_rest_left_bracket, int_rest_name, start_value_equal, variable_rest_int, variable_rest_set, domain_comma, variable_start_assign, variable_start_arrow, maker_left_parenthesis, maker_equal, dimensions_left_bracket, dimensions_tail_comma}
use Rattle.comet_syntax.specs.Grammar.Programs.{top_import, top_include, top_function, top_statement}
use Rattle.comet_syntax.specs.Written.Shown.{form, plain, Grows, each, word, mark, name}
use Rattle.comet_syntax.specs.Written.Expressions as texts
use Rattle.comet_syntax.specs.Written.Expressions.{by_name, Writing, LinkText, GeneratorText, GeneratorsText, misplaced, unwritten, whole, at_postfix, parenthesized, generators_text}
use Rattle.comet_syntax.specs.Written.Declarations.{written_class, dimension_by, incremental_text, int_in_braces}
use Rattle.comet_syntax.specs.Written.Statements.{target_text, equal_head, write_text, step_text, events_text, block_text, statement_by, if_text, while_text, for_text, over_text, select_by_text, neighbor_text, whenever_text, with_text, parall_text}
use Rattle.comet_syntax.specs.Written.Programs.{result_text, parameters_text}
use Rattle.parse_unique.specs.Bare.{Bare}

pub record Sense : Type 0 where
  -- of an expression
  pub writing : Writing
  -- of an argument, a suffix, a statement or the like, where it is at that place
  pub text : Grows
  pub item : Grows
  pub texts : List Grows
  pub items : List Grows
  pub link : LinkText
  pub links : List LinkText
  pub part : GeneratorText
  pub parts : List GeneratorText
  pub all : GeneratorsText
  -- of what may be left out: an expression, or anything else
  pub only : Option Writing
  pub perhaps : Option Grows

abbrev pub no_name : Name
no_name = record { text = []; place = record { line = 0; col = 0 } }

abbrev pub link_of : ChainOperator → Grows → LinkText
link_of o t = record { operator = o; text = t }

abbrev pub part_of : Name → Writing → GeneratorText
part_of n e = record { bound = n; domain = e }

abbrev pub all_of : List GeneratorText → Option Writing → GeneratorsText
all_of parts only = record { all = parts; only = only }

abbrev pub blank : Sense
blank = record {
  writing = unwritten;
  text = misplaced;
  item = misplaced;
  texts = [];
  items = [];
  link = record { operator = chains.Or; text = misplaced };
  links = [];
  part = record { bound = no_name; domain = unwritten };
  parts = [];
  all = record { all = []; only = None };
  only = None;
  perhaps = None;
}

abbrev pub in_writing : Writing → Sense
in_writing w = record blank { writing = w }

abbrev pub in_text : Grows → Sense
in_text t = record blank { text = t }

abbrev pub argument_by : Writing → Grows
argument_by e behind = form parts.argument argument_expression ∷ whole e behind

abbrev pub string_by : List ℕ → Grows
string_by t behind = form parts.argument argument_string ∷ plain (kinds.Str t) ∷ behind

abbrev pub item_by : Writing → Grows
item_by e behind = form parts.item item_expression ∷ whole e behind

abbrev pub item_string_by : List ℕ → Grows
item_string_by t behind = form parts.item item_string ∷ plain (kinds.Str t) ∷ behind

abbrev pub end_line_by : Grows
end_line_by behind = form parts.item item_endl ∷ word words.Endl behind

abbrev pub more_item_by : Grows → Grows
more_item_by t behind = form parts.items_tail items_tail_less_less ∷ word words.LessLess (t behind)

abbrev pub items_by : List Grows → Grows
items_by [] behind = misplaced behind
items_by (i ∷ more) behind = word words.LessLess (i (each more_item_by more (form parts.items_tail [] ∷ behind)))

abbrev pub method_by : Name → List Grows → Grows
method_by n a behind = form parts.suffixes suffixes_dot ∷ word words.Dot (name n (parenthesized a behind))

abbrev pub index_by : Place → Writing → Grows
index_by place e behind = form parts.suffixes suffixes_left_bracket ∷ mark words.LeftBracket place (whole e (form parts.second [] ∷ word words.RightBracket behind))

abbrev pub cell_by : Place → Writing → Writing → Grows
cell_by place a b behind = form parts.suffixes suffixes_left_bracket ∷ mark words.LeftBracket place (whole a (form parts.second second_comma ∷ word words.Comma (whole b (word words.RightBracket behind))))

-- declarations
abbrev pub start_by : Option Writing → Grows
start_by None behind = form parts.start_value [] ∷ behind
start_by (Some e) behind = form parts.start_value start_value_equal ∷ word words.Equal (whole e behind)

abbrev pub domain_by : Option Writing → Grows
domain_by None behind = form parts.domain [] ∷ behind
domain_by (Some e) behind = form parts.domain domain_comma ∷ word words.Comma (whole e behind)

abbrev pub optional_by : Part → Option Grows → Grows
optional_by n None behind = form n [] ∷ behind
optional_by n (Some text) behind = text behind

abbrev pub second_by : Option Grows → Grows
second_by None behind = form parts.dimensions_tail [] ∷ behind
second_by (Some d) behind = form parts.dimensions_tail dimensions_tail_comma ∷ word words.Comma (d behind)

abbrev pub dimensions_by : Grows → Option Grows → Grows
dimensions_by a b behind = form parts.dimensions dimensions_left_bracket ∷ word words.LeftBracket (a (second_by b (word words.RightBracket behind)))

abbrev pub made_by : Class → List Grows → Grows
made_by c a behind = written_class c (parenthesized a behind)

abbrev pub assigned_by : Writing → Grows
assigned_by e behind = form parts.variable_start variable_start_assign ∷ word words.Assign (whole e behind)

abbrev pub defined_by : Writing → Grows
defined_by e behind = form parts.variable_start variable_start_arrow ∷ word words.Arrow (whole e behind)

abbrev pub direct_by : List Grows → Grows
direct_by a behind = form parts.maker maker_left_parenthesis ∷ parenthesized a behind

abbrev pub new_by : Class → List Grows → Grows
new_by c a behind = form parts.maker maker_equal ∷ word words.Equal (word words.New (made_by c a behind))

abbrev pub int_by : Place → Name → Option Grows → Option Writing → Grows
int_by place n d e behind = form parts.declaration declaration_int ∷ mark words.Int place (form parts.int_rest int_rest_name ∷ name n (optional_by parts.dimensions d (start_by e behind)))

abbrev pub int_array_by : Place → Name → Writing → Grows
int_array_by place n e behind = form parts.declaration declaration_int ∷ mark words.Int place (form parts.int_rest int_rest_left_bracket ∷ word words.LeftBracket (word words.RightBracket (name n (word words.Equal (whole e behind)))))

abbrev pub bool_by : Place → Name → Option Writing → Grows
bool_by place n e behind = form parts.declaration declaration_bool ∷ mark words.Bool place (name n (start_by e behind))

abbrev pub range_by : Place → Name → Writing → Grows
range_by place n e behind = form parts.declaration declaration_range ∷ mark words.Range place (name n (word words.Equal (whole e behind)))

abbrev pub set_by : Place → Name → Option Writing → Grows
set_by place n e behind = form parts.declaration declaration_set ∷ mark words.Set place (int_in_braces (name n (start_by e behind)))

-- simple statements and statements
abbrev pub value_by : Option Writing → Grows
value_by None behind = form parts.optional_value [] ∷ behind
value_by (Some e) behind = form parts.optional_value optional_value_expression ∷ whole e behind

abbrev pub for_start_by : Name → Writing → Grows
for_start_by n e behind = form parts.for_start for_start_int ∷ word words.Int (name n (word words.Equal (whole e behind)))

abbrev pub for_step_by : Option Grows → Grows
for_step_by None behind = form parts.for_step [] ∷ behind
for_step_by (Some t) behind = form parts.for_step for_step_simple ∷ t behind

abbrev pub variable_by : Place → Incremental → Name → Option Grows → Name → Option Writing → Option Grows → Grows
variable_by place w n d s e v behind = incremental_text w place (form parts.variable_rest variable_rest_int ∷ word words.Int (word words.RightBrace (name n (optional_by parts.dimensions d
    (word words.LeftParenthesis (name s (domain_by e (word words.RightParenthesis (optional_by parts.variable_start v behind)))))))))

abbrev pub set_variable_by : Place → Incremental → Name → Option Grows → Name → Writing → Grows
set_variable_by place w n d s e behind = incremental_text w place (form parts.variable_rest variable_rest_set ∷ word words.Set (int_in_braces (word words.RightBrace (name n (optional_by parts.dimensions d
    (word words.LeftParenthesis (name s (word words.RightParenthesis (word words.Arrow (whole e behind))))))))))

abbrev pub object_by : Class → Name → Grows → Grows
object_by c n m behind = form parts.declaration declaration_class_name ∷ written_class c (name n (m behind))

abbrev pub swap_by : Writing → Writing → Grows
swap_by l r behind = target_text l (form parts.write write_swap ∷ word words.Swap (at_postfix r behind))

abbrev pub alone_by : Writing → Grows
alone_by e behind = target_text e (form parts.write [] ∷ behind)

abbrev pub new_simple_by : Name → Class → List Grows → Grows
new_simple_by n c a behind = equal_head (by_name n) (form parts.new_value new_value_new ∷ word words.New (made_by c a behind))

abbrev pub print_by : Place → List Grows → Grows
print_by place i behind = form parts.simple simple_cout ∷ mark words.Cout place (items_by i behind)

abbrev pub call_by : Place → Writing → Grows
call_by place e behind = form parts.simple simple_call ∷ mark words.Call place (word words.LeftParenthesis (whole e (word words.RightParenthesis behind)))

abbrev pub block_statement_by : Grows → Grows
block_statement_by b behind = form parts.statement statement_block ∷ b behind

abbrev pub declaration_by : Grows → Grows
declaration_by d behind = form parts.statement statement_declaration ∷ d (word words.Semicolon behind)

abbrev pub simple_by : Grows → Grows
simple_by s behind = form parts.statement statement_simple ∷ s (word words.Semicolon behind)

abbrev pub return_by : Place → Option Writing → Grows
return_by place e behind = statement_by statement_return words.Return place (value_by e (word words.Semicolon behind))

-- programs
abbrev pub import_by : Name → Grows
import_by n behind = form parts.top top_import ∷ word words.Import (name n (word words.Semicolon behind))

abbrev pub include_by : List ℕ → Grows
include_by t behind = form parts.top top_include ∷ word words.Include (plain (kinds.Str t) ∷ word words.Semicolon behind)

abbrev pub function_by : Place → ResultKind → Name → List Parameter → Grows → Grows
function_by place r n p body behind = form parts.top top_function ∷ mark words.Function place (result_text r (name n (word words.LeftParenthesis (parameters_text p (word words.RightParenthesis (body behind))))))

abbrev pub top_statement_by : Grows → Grows
top_statement_by s behind = form parts.top top_statement ∷ s behind

abbrev pub sense : Bare → Sense
sense Bare.no_more = blank
sense (Bare.more a l) = record blank {
  texts = (sense a).text ∷ (sense l).texts;
  items = (sense a).item ∷ (sense l).items;
  links = (sense a).link ∷ (sense l).links;
  parts = (sense a).part ∷ (sense l).parts;
}
sense Bare.left_out = blank
sense (Bare.given b) = record blank { only = Some (sense b).writing; perhaps = Some (sense b).text }
sense (Bare.conditional a b c) = in_writing (texts.conditional (sense a).writing (sense b).writing (sense c).writing)
sense (Bare.chain a l) = in_writing (texts.chain (sense a).writing (sense l).links)
sense (Bare.comparison a c p b) = in_writing (texts.comparison (sense a).writing c p (sense b).writing)
sense (Bare.range a p b) = in_writing (texts.range_of (sense a).writing p (sense b).writing)
sense (Bare.unary o p a) = in_writing (texts.unary o p (sense a).writing)
sense (Bare.aggregate o p g a) = in_writing (texts.aggregate o p (sense g).all (sense a).writing)
sense (Bare.postfix a l) = in_writing (texts.postfix_by (sense a).writing.primary_rest (sense a).writing.head (sense l).texts)
sense (Bare.number n p) = in_writing (texts.number n p)
sense (Bare.truth b p) = in_writing (texts.truth b p)
sense (Bare.name n) = in_writing (texts.name_alone n)
sense (Bare.call n l) = in_writing (texts.call_of n (sense l).texts)
sense (Bare.extreme e p a b) = in_writing (texts.extreme_of e p (sense a).writing (sense b).writing)
sense (Bare.parentheses p a) = in_writing (texts.parentheses p (sense a).writing)
sense (Bare.list p l) = in_writing (texts.list_of p (sense l).texts)
sense (Bare.set p l) = in_writing (texts.set_of p (sense l).texts)
sense (Bare.link o p a) = record blank { link = link_of o (texts.link o p (sense a).writing) }
sense (Bare.index p a) = in_text (index_by p (sense a).writing)
sense (Bare.cell p a b) = in_text (cell_by p (sense a).writing (sense b).writing)
sense (Bare.method n l) = in_text (method_by n (sense l).texts)
sense (Bare.value a) = record blank { text = argument_by (sense a).writing; item = item_by (sense a).writing }
sense (Bare.text t) = record blank { text = string_by t; item = item_string_by t }
sense Bare.end_line = record blank { item = end_line_by }
sense (Bare.generator n a) = record blank { part = part_of n (sense a).writing }
sense (Bare.generators l o) = record blank { all = all_of (sense l).parts (sense o).only }
sense (Bare.dimension n a) = in_text (dimension_by n (sense a).writing)
sense (Bare.dimensions a b) = in_text (dimensions_by (sense a).text (sense b).perhaps)
sense (Bare.assigned a) = in_text (assigned_by (sense a).writing)
sense (Bare.defined a) = in_text (defined_by (sense a).writing)
sense (Bare.direct l) = in_text (direct_by (sense l).texts)
sense (Bare.made c l) = in_text (new_by c (sense l).texts)
sense (Bare.int_variable p n d e) = in_text (int_by p n (sense d).perhaps (sense e).only)
sense (Bare.int_array p n e) = in_text (int_array_by p n (sense e).writing)
sense (Bare.bool_variable p n e) = in_text (bool_by p n (sense e).only)
sense (Bare.range_variable p n e) = in_text (range_by p n (sense e).writing)
sense (Bare.set_variable p n e) = in_text (set_by p n (sense e).only)
sense (Bare.incremental_int p w n d s e v) = in_text (variable_by p w n (sense d).perhaps s (sense e).only (sense v).perhaps)
sense (Bare.incremental_set p w n d s e) = in_text (set_variable_by p w n (sense d).perhaps s (sense e).writing)
sense (Bare.object c n m) = in_text (object_by c n (sense m).text)
sense (Bare.write a o b) = in_text (write_text o (sense a).writing (whole (sense b).writing))
sense (Bare.swap a b) = in_text (swap_by (sense a).writing (sense b).writing)
sense (Bare.step a s) = in_text (step_text s (sense a).writing)
sense (Bare.alone a) = in_text (alone_by (sense a).writing)
sense (Bare.new n c l) = in_text (new_simple_by n c (sense l).texts)
sense (Bare.print p l) = in_text (print_by p (sense l).items)
sense (Bare.call_chosen p a) = in_text (call_by p (sense a).writing)
sense (Bare.for_start n a) = in_text (for_start_by n (sense a).writing)
sense (Bare.block p l) = in_text (block_text p (sense l).texts)
sense (Bare.block_statement b) = in_text (block_statement_by (sense b).text)
sense (Bare.empty p) = in_text (statement_by statement_semicolon words.Semicolon p)
sense (Bare.declaration d) = in_text (declaration_by (sense d).text)
sense (Bare.simple s) = in_text (simple_by (sense s).text)
sense (Bare.return_value p e) = in_text (return_by p (sense e).only)
sense (Bare.when p t a b) = in_text (if_text p (whole (sense t).writing) (sense a).text (sense b).perhaps)
sense (Bare.while_true p t b) = in_text (while_text p (whole (sense t).writing) (sense b).text)
sense (Bare.for_each_step p i t s b) = in_text (for_text p (optional_by parts.for_start (sense i).perhaps) (value_by (sense t).only) (for_step_by (sense s).perhaps) (sense b).text)
sense (Bare.for_all p g b) = in_text (over_text statement_for_all words.ForAll p (generators_text (sense g).all) (sense b).text)
sense (Bare.select p g b) = in_text (over_text statement_select words.Select p (generators_text (sense g).all) (sense b).text)
sense (Bare.select_by p e g k b) = in_text (select_by_text e p (generators_text (sense g).all) (whole (sense k).writing) (sense b).text)
sense (Bare.neighbor p k n b) = in_text (neighbor_text p (whole (sense k).writing) n (sense b).text)
sense (Bare.whenever p v n o b) = in_text (whenever_text p (at_postfix (sense v).writing) n (events_text o) (sense b).text)
sense (Bare.with_mode p m n b) = in_text (with_text p m n (sense b).text)
sense (Bare.parall p n e b) = in_text (parall_text p n (whole (sense e).writing) (sense b).text)
sense (Bare.import n) = in_text (import_by n)
sense (Bare.include t) = in_text (include_by t)
sense (Bare.function p r n ps b) = in_text (function_by p r n ps (sense b).text)
sense (Bare.top_statement s) = in_text (top_statement_by (sense s).text)
