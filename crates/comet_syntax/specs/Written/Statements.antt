-- Statements, written as the derivations that they stand for.
-- A rule of this project.
use Rattle.std.specs.Prelude.{Bool, true, false, List, [], ◌∷◌, Option, None, Some}
use Rattle.std.specs.declared.alloc.Global.{Global}
use Rattle.std.specs.declared.boxed.Box.{Box}
use Rattle.cbl_base.specs.declared.place.Place.{Place}
use Rattle.comet_syntax.specs.declared.token.TokenKind.TheVariants as kinds
use Rattle.comet_syntax.specs.declared.token.Word.{Word}
use Rattle.comet_syntax.specs.declared.token.Word.TheVariants as words
use Rattle.comet_syntax.specs.declared.tree.expressions.Name.{Name}
use Rattle.comet_syntax.specs.declared.tree.expressions.Expression.{Expression}
use Rattle.comet_syntax.specs.declared.tree.expressions.Extreme.{Extreme}
use Rattle.comet_syntax.specs.declared.tree.expressions.Extreme.TheVariants as extremes
use Rattle.comet_syntax.specs.declared.tree.statements.Events.{Events}
use Rattle.comet_syntax.specs.declared.tree.statements.ForHead.{ForHead}
use Rattle.comet_syntax.specs.declared.tree.statements.ForStart.{ForStart}
use Rattle.comet_syntax.specs.declared.tree.statements.Item.{Item}
use Rattle.comet_syntax.specs.declared.tree.statements.Item.TheVariants as items
use Rattle.comet_syntax.specs.declared.tree.statements.NewObject.{NewObject}
use Rattle.comet_syntax.specs.declared.tree.statements.Simple.{Simple}
use Rattle.comet_syntax.specs.declared.tree.statements.Simple.TheVariants as simples
use Rattle.comet_syntax.specs.declared.tree.statements.Statement.{Statement}
use Rattle.comet_syntax.specs.declared.tree.statements.Statement.TheOpen as layers
use Rattle.comet_syntax.specs.declared.tree.statements.Statement.TheFolds.{fold-Statement}
use Rattle.comet_syntax.specs.declared.tree.statements.Block.{Block, fold-Block}
use Rattle.comet_syntax.specs.declared.tree.statements.Step.{Step}
use Rattle.comet_syntax.specs.declared.tree.statements.Step.TheVariants as steps
use Rattle.comet_syntax.specs.declared.tree.statements.Watched.{Watched}
use Rattle.comet_syntax.specs.declared.tree.statements.WithMode.{WithMode}
use Rattle.comet_syntax.specs.declared.tree.statements.WithMode.TheVariants as modes
use Rattle.comet_syntax.specs.declared.tree.statements.WriteOperator.{WriteOperator}
use Rattle.comet_syntax.specs.declared.tree.statements.WriteOperator.TheVariants as writes
use Rattle.comet_syntax.specs.Written.Shown.{form, plain, Grows, each, word, mark, name}
use Rattle.comet_syntax.specs.Written.Expressions.{Head, by_name, by_opening, by_literal, by_brace, by_extreme, by_other, misplaced, Writing, at_postfix, extreme_form, word_of_extreme, written, written_generators, generators_text}
use Rattle.comet_syntax.specs.Written.Declarations.{whole_text, written_declaration, made_text}
use Rattle.comet_syntax.specs.Grammar.Statements.{block_left_brace, statements_statement, statement_block, statement_semicolon, statement_declaration, statement_simple, statement_return, statement_if, statement_while, statement_for, statement_for_all, statement_select, statement_select_min, statement_select_max, statement_neighbor, statement_whenever, statement_with, statement_parall, otherwise_else, optional_value_expression, for_start_int, for_step_simple, events_int, with_mode_atomic, with_mode_delay, simple_first_name, simple_literal, simple_extreme, simple_cout, simple_call, named_simple_equal, named_simple_called, new_value_new, new_value_expression, write_equal, write_plus_equal, write_minus_equal, write_assign, write_arrow, write_swap, write_plus_plus, write_minus_minus, first_name_name, item_expression, item_string, item_endl, items_tail_less_less}
use Rattle.comet_syntax.specs.Grammar.Symbols.{Symbol, block, statements, statement, otherwise, optional_value, for_start, for_step, events, with_mode, simple, named_simple, new_value, write, first_name, item, items_tail, extreme}

-- the head of a simple statement, where no more than a name and `=` may stand before what is new
abbrev pub simple_head : Head → Grows
simple_head (by_name n) behind = form simple simple_first_name ∷ form first_name first_name_name ∷ name n (form named_simple named_simple_called ∷ behind)
simple_head (by_opening (by_literal text)) behind = form simple simple_literal ∷ text behind
simple_head (by_opening (by_brace place text)) behind = misplaced behind
simple_head (by_opening (by_extreme e place in_pair apart)) behind = form simple simple_extreme ∷ form extreme (extreme_form e) ∷ mark (word_of_extreme e) place (word words.LeftParenthesis (apart behind))
simple_head (by_opening (by_other text)) behind = misplaced behind

abbrev pub target_text : Writing → Grows
target_text e behind = simple_head e.head (e.operand_rest behind)

-- `name =`
abbrev pub equal_head : Head → Grows
equal_head (by_name n) behind = form simple simple_first_name ∷ form first_name first_name_name ∷ name n (form named_simple named_simple_equal ∷ word words.Equal behind)
equal_head (by_opening o) behind = misplaced behind

abbrev pub set_text : Bool → Writing → Grows → Grows
set_text true target value behind = equal_head target.head (form new_value new_value_expression ∷ value behind)
set_text false target value behind = target_text target (form write write_equal ∷ word words.Equal (value behind))

abbrev pub write_text : WriteOperator → Writing → Grows → Grows
write_text writes.Set target value = set_text target.is_name target value
write_text writes.Add target value = λ behind. target_text target (form write write_plus_equal ∷ word words.PlusEqual (value behind))
write_text writes.Subtract target value = λ behind. target_text target (form write write_minus_equal ∷ word words.MinusEqual (value behind))
write_text writes.Assign target value = λ behind. target_text target (form write write_assign ∷ word words.Assign (value behind))
write_text writes.Define target value = λ behind. target_text target (form write write_arrow ∷ word words.Arrow (value behind))

abbrev pub step_text : Step → Writing → Grows
step_text steps.Increment target behind = target_text target (form write write_plus_plus ∷ word words.PlusPlus behind)
step_text steps.Decrement target behind = target_text target (form write write_minus_minus ∷ word words.MinusMinus behind)

abbrev pub written_item : Item → Grows
written_item (items.Expression e) behind = form item item_expression ∷ whole_text e behind
written_item (items.Str text) behind = form item item_string ∷ plain (kinds.Str text) ∷ behind
written_item items.EndLine behind = form item item_endl ∷ word words.Endl behind

abbrev pub more_item : Item → Grows
more_item i behind = form items_tail items_tail_less_less ∷ word words.LessLess (written_item i behind)

abbrev pub items_text : List Item → Grows
items_text [] behind = misplaced behind
items_text (i ∷ more) behind = word words.LessLess (written_item i (each more_item more (form items_tail [] ∷ behind)))

-- `name = new class(arguments)`
abbrev pub new_text : NewObject → Grows
new_text n behind = equal_head (by_name n.name) (form new_value new_value_new ∷ word words.New (made_text n.class n.arguments.items behind))

abbrev pub written_simple : Simple → Grows
written_simple (simples.Write target operator value) = write_text operator (written target.value) (whole_text value.value)
written_simple (simples.Swap left right) = λ behind. target_text (written left.value) (form write write_swap ∷ word words.Swap (at_postfix (written right.value) behind))
written_simple (simples.Step target s) = step_text s (written target.value)
written_simple (simples.Postfix e) = λ behind. target_text (written e) (form write [] ∷ behind)
written_simple (simples.New n) = new_text n.value
written_simple (simples.Print place i) = λ behind. form simple simple_cout ∷ mark words.Cout place (items_text i.items behind)
written_simple (simples.Call place e) = λ behind. form simple simple_call ∷ mark words.Call place (word words.LeftParenthesis (whole_text e.value (word words.RightParenthesis behind)))

abbrev pub in_parentheses : Grows → Grows
in_parentheses text behind = word words.LeftParenthesis (text (word words.RightParenthesis behind))

abbrev pub value_text : Option Expression → Grows
value_text None behind = form optional_value [] ∷ behind
value_text (Some e) behind = form optional_value optional_value_expression ∷ whole_text e behind

abbrev pub for_start_text : Option ForStart → Grows
for_start_text None behind = form for_start [] ∷ behind
for_start_text (Some s) behind = form for_start for_start_int ∷ word words.Int (name s.name (word words.Equal (whole_text s.value behind)))

abbrev pub for_step_text : Option Simple → Grows
for_step_text None behind = form for_step [] ∷ behind
for_step_text (Some s) behind = form for_step for_step_simple ∷ written_simple s behind

abbrev pub events_text : Option Events → Grows
events_text None behind = form events [] ∷ behind
events_text (Some e) behind = form events events_int ∷ word words.Int (name e.old (word words.Comma (word words.Int (name e.new behind))))

abbrev pub mode_text : WithMode → Grows
mode_text modes.Atomic behind = form with_mode with_mode_atomic ∷ word words.Atomic behind
mode_text modes.Delay behind = form with_mode with_mode_delay ∷ word words.Delay behind

abbrev pub otherwise_text : Option Grows → Grows
otherwise_text None behind = form otherwise [] ∷ behind
otherwise_text (Some text) behind = form otherwise otherwise_else ∷ word words.Else (text behind)

abbrev pub more_statement : Grows → Grows
more_statement text behind = form statements statements_statement ∷ text behind

abbrev pub block_text : Place → List Grows → Grows
block_text place all behind = form block block_left_brace ∷ mark words.LeftBrace place (each more_statement all (form statements [] ∷ word words.RightBrace behind))

abbrev pub statement_by : List Symbol → Word → Place → Grows
statement_by f w place behind = form statement f ∷ mark w place behind

abbrev pub select_by_form : Extreme → List Symbol
select_by_form extremes.Min = statement_select_min
select_by_form extremes.Max = statement_select_max

abbrev pub select_by_word : Extreme → Word
select_by_word extremes.Min = words.SelectMin
select_by_word extremes.Max = words.SelectMax

abbrev pub option_text : {B : Type 0} → (B → Grows) → Option B → Option Grows
option_text f None = None
option_text f (Some b) = Some (f b)

abbrev pub if_text : Place → Grows → Grows → Option Grows → Grows
if_text place test yes_part no_part behind = statement_by statement_if words.If place (in_parentheses test (yes_part (otherwise_text no_part behind)))

abbrev pub while_text : Place → Grows → Grows → Grows
while_text place test body behind = statement_by statement_while words.While place (in_parentheses test (body behind))

abbrev pub for_text : Place → Grows → Grows → Grows → Grows → Grows
for_text place begin test step body behind = statement_by statement_for words.For place (word words.LeftParenthesis (begin (word words.Semicolon (test (word words.Semicolon (step
    (word words.RightParenthesis (body behind))))))))

abbrev pub over_text : List Symbol → Word → Place → Grows → Grows → Grows
over_text f w place all body behind = statement_by f w place (in_parentheses all (body behind))

abbrev pub select_by_text : Extreme → Place → Grows → Grows → Grows → Grows
select_by_text e place all key body behind = statement_by (select_by_form e) (select_by_word e) place (in_parentheses all (in_parentheses key (body behind)))

abbrev pub neighbor_text : Place → Grows → Name → Grows → Grows
neighbor_text place key n body behind = statement_by statement_neighbor words.Neighbor place (word words.LeftParenthesis (key (word words.Comma (name n (word words.RightParenthesis (body behind))))))

abbrev pub whenever_text : Place → Grows → Name → Grows → Grows → Grows
whenever_text place variable n names body behind = statement_by statement_whenever words.Whenever place (variable (word words.At (name n (in_parentheses names (body behind)))))

abbrev pub with_text : Place → WithMode → Name → Grows → Grows
with_text place mode n body behind = statement_by statement_with words.With place (mode_text mode (in_parentheses (name n) (body behind)))

abbrev pub parall_text : Place → Name → Grows → Grows → Grows
parall_text place n all body behind = statement_by statement_parall words.Parall place (word words.LeftParenthesis (name n (word words.In (all (word words.RightParenthesis (body behind))))))

abbrev pub unboxed : {A : Type 0} → Option (Box A Global) → Option A
unboxed None = None
unboxed (Some b) = Some b.value

abbrev pub for_head_text : Place → ForHead → Grows → Grows
for_head_text place head = for_text place (for_start_text head.start) (value_text head.test) (for_step_text head.step)

abbrev pub watched_text : Place → Watched → Grows → Grows
watched_text place w = whenever_text place (at_postfix (written w.variable)) w.event (events_text w.names)

-- one layer of a statement
abbrev pub statement_text : layers.Statement-F Grows Grows → Grows
statement_text (layers.Block b) = λ behind. form statement statement_block ∷ b behind
statement_text (layers.Empty place) = statement_by statement_semicolon words.Semicolon place
statement_text (layers.Declaration d) = λ behind. form statement statement_declaration ∷ written_declaration d.value (word words.Semicolon behind)
statement_text (layers.Simple s) = λ behind. form statement statement_simple ∷ written_simple s (word words.Semicolon behind)
statement_text (layers.Return place e) = λ behind. statement_by statement_return words.Return place (value_text (unboxed e) (word words.Semicolon behind))
statement_text (layers.If place test yes_part no_part) = if_text place (whole_text test.value) yes_part.value (option_text (λ b. b.value) no_part)
statement_text (layers.While place test body) = while_text place (whole_text test.value) body.value
statement_text (layers.For place head body) = for_head_text place head.value body.value
statement_text (layers.ForAll place all body) = over_text statement_for_all words.ForAll place (generators_text (written_generators all.value)) body.value
statement_text (layers.Select place all body) = over_text statement_select words.Select place (generators_text (written_generators all.value)) body.value
statement_text (layers.SelectBy place e all key body) = select_by_text e place (generators_text (written_generators all.value)) (whole_text key.value) body.value
statement_text (layers.Neighbor place key n body) = neighbor_text place (whole_text key.value) n body.value
statement_text (layers.Whenever place watched body) = watched_text place watched.value body.value
statement_text (layers.With place mode n body) = with_text place mode n body.value
statement_text (layers.Parall place n all body) = parall_text place n (whole_text all.value) body.value

abbrev pub block_layer : layers.Block-F Grows Grows → Grows
block_layer b = block_text b.place b.statements.items

unfoldable pub written_statement : Statement → Grows
written_statement = fold-Statement Grows Grows statement_text block_layer

unfoldable pub written_block : Block → Grows
written_block = fold-Block Grows Grows statement_text block_layer
