-- Programs that are the same are written alike.
use Rattle.std.specs.Prelude.{ℕ, List, [], ◌∷◌, Option, None, Some, ◌≡◌, map, refl}
use Rattle.std.proofs.Common.{sym, ◌∙◌, ap, subst}
use Rattle.comet_syntax.specs.declared.token.Token.{Token}
use Rattle.comet_syntax.specs.declared.token.Word.TheVariants as words
use Rattle.comet_syntax.specs.declared.tree.expressions.Argument.{Argument}
use Rattle.comet_syntax.specs.declared.tree.expressions.Expression.{Expression}
use Rattle.comet_syntax.specs.declared.tree.declarations.Dimension.{Dimension}
use Rattle.comet_syntax.specs.declared.tree.declarations.Dimensions.{Dimensions}
use Rattle.comet_syntax.specs.declared.tree.declarations.Maker.{Maker}
use Rattle.comet_syntax.specs.declared.tree.declarations.Maker.TheVariants as makers
use Rattle.comet_syntax.specs.declared.tree.declarations.VariableStart.{VariableStart}
use Rattle.comet_syntax.specs.declared.tree.declarations.VariableStart.TheVariants as starts
use Rattle.comet_syntax.specs.declared.tree.declarations.Declaration.{Declaration}
use Rattle.comet_syntax.specs.declared.tree.declarations.Declaration.TheVariants as declarations
use Rattle.comet_syntax.specs.declared.tree.statements.ForStart.{ForStart}
use Rattle.comet_syntax.specs.declared.tree.statements.Item.{Item}
use Rattle.comet_syntax.specs.declared.tree.statements.Item.TheVariants as items
use Rattle.comet_syntax.specs.declared.tree.statements.Simple.{Simple}
use Rattle.comet_syntax.specs.declared.tree.statements.Simple.TheVariants as simples
use Rattle.comet_syntax.specs.declared.tree.statements.Statement.{Statement, roll-Statement}
use Rattle.comet_syntax.specs.declared.tree.statements.Statement.TheOpen as layers
use Rattle.comet_syntax.specs.declared.tree.statements.Statement.TheFolds.{fold-roll-Statement, map-Statement, map-Block, ind-Statement, ind-Block}
use Rattle.comet_syntax.specs.declared.tree.statements.Block.{Block, roll-Block, fold-roll-Block}
use Rattle.comet_syntax.specs.declared.tree.program.Program.{Program}
use Rattle.comet_syntax.specs.declared.tree.program.TopPart.{TopPart}
use Rattle.comet_syntax.specs.declared.tree.program.TopPart.TheVariants as tops
use Rattle.comet_syntax.specs.Grammar.Symbols as parts
use Rattle.comet_syntax.specs.Grammar.Statements.{statement_for_all, statement_select, simple_cout, statement_return}
use Rattle.comet_syntax.specs.Grammar.Declarations.{declaration_int, declaration_bool, declaration_set, int_rest_name, dimensions_left_bracket, variable_rest_int, variable_rest_set}
use Rattle.comet_syntax.specs.Grammar.Programs.{program_top}
use Rattle.comet_syntax.specs.Spells.{Spells}
use Rattle.comet_syntax.specs.Written.Shown.{Shown, form, Grows, each, word, mark, name}
use Rattle.comet_syntax.specs.Written.Expressions.{Writing, whole, at_postfix, written_argument, generators_text}
use Rattle.comet_syntax.specs.Written.Declarations.{start_text, dimension_by, written_dimension, second_dimension, dimensions_text, domain_text, variable_start_text, maker_text, incremental_text, int_in_braces, written_declaration}
use Rattle.comet_syntax.specs.Written.Statements.{write_text, step_text, written_item, more_item, items_text, written_simple, value_text, unboxed, for_head_text, for_start_text, for_step_text, events_text, block_text, statement_by, statement_text, block_layer, written_statement, written_block, if_text, while_text, for_text, over_text, select_by_text, neighbor_text, whenever_text, with_text, parall_text}
use Rattle.comet_syntax.specs.Written.Programs.{written_top, more_top, written_program}
use Rattle.parse_unique.specs.Bare as bares
use Rattle.parse_unique.specs.Bare.{Bare, optional, bare_expression, bare_argument, bare_arguments, bare_dimension, bare_dimensions, bare_start, bare_maker, bare_declaration, bare_item, bare_simple, bare_for_start, bare_statement, bare_block, bare_top, bare_program, SameProgram}
use Rattle.parse_unique.proofs.Levels.{cong2}
use Rattle.parse_unique.proofs.Declarations.{cong3}
use Rattle.parse_unique.proofs.Senses.{sense, item_by, more_item_by, start_by, domain_by, optional_by, second_by, assigned_by, defined_by, direct_by, new_by, int_array_by, range_by, object_by, swap_by, alone_by, new_simple_by, call_by, value_by, for_start_by, for_step_by, block_statement_by, declaration_by, simple_by, function_by, top_statement_by, items_by}
use Rattle.parse_unique.proofs.Writings.{expression_is, argument_is, generators_is}

arguments_are : (a : List Argument) → (sense (bare_arguments a)).texts ≡ map written_argument a
arguments_are [] = refl
arguments_are (x ∷ a) = cong2 (λ x y. x ∷ y) (argument_is x) (arguments_are a)

-- declarations
start_is : (o : Option Expression) → start_by (sense (optional bare_expression o)).only ≡ start_text o
start_is None = refl
start_is (Some e) = ap (λ w. start_by (Some w)) (expression_is e)

domain_is : (o : Option Expression) → domain_by (sense (optional bare_expression o)).only ≡ domain_text o
domain_is None = refl
domain_is (Some e) = ap (λ w. domain_by (Some w)) (expression_is e)

dimension_is : (d : Dimension) → (sense (bare_dimension d)).text ≡ written_dimension d
dimension_is d = ap (dimension_by d.name) (expression_is d.range)

second_is : (o : Option Dimension) → second_by (sense (optional bare_dimension o)).perhaps ≡ second_dimension o
second_is None = refl
second_is (Some d) = ap (λ t. second_by (Some t)) (dimension_is d)

dimensions_is : (o : Option Dimensions) → optional_by parts.dimensions (sense (optional bare_dimensions o)).perhaps ≡ dimensions_text o
dimensions_is None = refl
dimensions_is (Some d) = cong2 {C = Grows} (λ (x : Grows) (y : Grows) (behind : List Shown). form parts.dimensions dimensions_left_bracket ∷ word words.LeftBracket (x (y (word words.RightBracket behind)))) (dimension_is d.first) (second_is d.second)

variable_start_is : (o : Option VariableStart) → optional_by parts.variable_start (sense (optional bare_start o)).perhaps ≡ variable_start_text o
variable_start_is None = refl
variable_start_is (Some (starts.Assign e)) = ap assigned_by (expression_is e)
variable_start_is (Some (starts.Define e)) = ap defined_by (expression_is e)

maker_is : (m : Maker) → (sense (bare_maker m)).text ≡ maker_text m
maker_is (makers.Direct a) = ap direct_by (arguments_are a.items)
maker_is (makers.New c a) = ap (new_by c) (arguments_are a.items)

declaration_is : (d : Declaration) → (sense (bare_declaration d)).text ≡ written_declaration d
declaration_is (declarations.Int p n d e) =
    cong2 {C = Grows} (λ (x : Grows) (y : Grows) (behind : List Shown). form parts.declaration declaration_int ∷ mark words.Int p (form parts.int_rest int_rest_name ∷ name n (x (y behind)))) (dimensions_is d) (start_is e)
declaration_is (declarations.IntArray p n e) = ap (int_array_by p n) (expression_is e)
declaration_is (declarations.Bool p n e) = ap {B = Grows} (λ (x : Grows) (behind : List Shown). form parts.declaration declaration_bool ∷ mark words.Bool p (name n (x behind))) (start_is e)
declaration_is (declarations.Range p n e) = ap (range_by p n) (expression_is e)
declaration_is (declarations.Set p n e) = ap {B = Grows} (λ (x : Grows) (behind : List Shown). form parts.declaration declaration_set ∷ mark words.Set p (int_in_braces (name n (x behind)))) (start_is e)
declaration_is (declarations.Variable p w n d s e v) =
    cong3 {D = Grows} (λ (x : Grows) (y : Grows) (z : Grows) (behind : List Shown). incremental_text w p (form parts.variable_rest variable_rest_int ∷ word words.Int (word words.RightBrace (name n (x (word words.LeftParenthesis (name s (y (word words.RightParenthesis (z behind))))))))))
    (dimensions_is d) (domain_is e) (variable_start_is v)
declaration_is (declarations.SetVariable p w n d s e) =
    cong2 {C = Grows} (λ (x : Grows) (y : Writing) (behind : List Shown). incremental_text w p (form parts.variable_rest variable_rest_set ∷ word words.Set (int_in_braces (word words.RightBrace (name n (x (word words.LeftParenthesis (name s (word words.RightParenthesis (word words.Arrow (whole y behind)))))))))))
    (dimensions_is d) (expression_is e)
declaration_is (declarations.Object c n m) = ap (object_by c n) (maker_is m)

-- simple statements
item_is : (i : Item) → (sense (bare_item i)).item ≡ written_item i
item_is (items.Expression e) = ap item_by (expression_is e)
item_is (items.Str t) = refl
item_is items.EndLine = refl

more_items : (i : List Item) → each more_item_by (sense (bares.listed (map bare_item i))).items ≡ each more_item i
more_items [] = refl
more_items (x ∷ i) = cong2 {C = Grows} (λ (t : Grows) (u : Grows) (behind : List Shown). more_item_by t (u behind)) (item_is x) (more_items i)

items_are : (i : List Item) → items_by (sense (bares.listed (map bare_item i))).items ≡ items_text i
items_are [] = refl
items_are (x ∷ i) = cong2 {C = Grows} (λ (t : Grows) (u : Grows) (behind : List Shown). word words.LessLess (t (u (form parts.items_tail [] ∷ behind)))) (item_is x) (more_items i)

simple_is : (s : Simple) → (sense (bare_simple s)).text ≡ written_simple s
simple_is (simples.Write t o e) = cong2 (λ x y. write_text o x (whole y)) (expression_is t.value) (expression_is e.value)
simple_is (simples.Swap l r) = cong2 swap_by (expression_is l.value) (expression_is r.value)
simple_is (simples.Step t s) = ap (step_text s) (expression_is t.value)
simple_is (simples.Postfix e) = ap alone_by (expression_is e)
simple_is (simples.New n) = ap (new_simple_by n.value.name n.value.class) (arguments_are n.value.arguments.items)
simple_is (simples.Print p i) = ap {B = Grows} (λ (x : Grows) (behind : List Shown). form parts.simple simple_cout ∷ mark words.Cout p (x behind)) (items_are i.items)
simple_is (simples.Call p e) = ap (call_by p) (expression_is e.value)

-- statements
value_is : (o : Option Expression) → value_by (sense (optional bare_expression o)).only ≡ value_text o
value_is None = refl
value_is (Some e) = ap (λ w. value_by (Some w)) (expression_is e)

for_start_is : (o : Option ForStart) → optional_by parts.for_start (sense (optional bare_for_start o)).perhaps ≡ for_start_text o
for_start_is None = refl
for_start_is (Some s) = ap (for_start_by s.name) (expression_is s.value)

for_step_is : (o : Option Simple) → for_step_by (sense (optional bare_simple o)).perhaps ≡ for_step_text o
for_step_is None = refl
for_step_is (Some s) = ap (λ t. for_step_by (Some t)) (simple_is s)

abbrev OfStatement : Statement → Type 0
OfStatement s = (sense (bare_statement s)).text ≡ written_statement s

abbrev OfBlock : Block → Type 0
OfBlock b = (sense (bare_block b)).text ≡ written_block b

-- a statement, and that it is so of it
abbrev S : Type 0
S = (s : Statement) × OfStatement s

abbrev B : Type 0
B = (b : Block) × OfBlock b

each_statement : (all : List S) → (sense (bares.listed (map bare_statement (map (λ s. s.0) all)))).texts ≡ map written_statement (map (λ s. s.0) all)
each_statement [] = refl
each_statement (s ∷ all) = cong2 (λ x y. x ∷ y) s.1 (each_statement all)

rolled : (z : layers.Statement-F Statement Block)
    → (sense (bares.statement_layer (map-Statement Statement Block Bare Bare bare_statement bare_block z))).text ≡ statement_text (map-Statement Statement Block Grows Grows written_statement written_block z)
    → OfStatement (roll-Statement z)
unfolding written_statement written_block bare_statement bare_block
rolled z q = ap (λ b. (sense b).text) (fold-roll-Statement Bare Bare bares.statement_layer bares.block_layer z) ∙ (q ∙ sym (fold-roll-Statement Grows Grows statement_text block_layer z))

block_rolled : (z : layers.Block-F Statement Block)
    → (sense (bares.block_layer (map-Block Statement Block Bare Bare bare_statement bare_block z))).text ≡ block_layer (map-Block Statement Block Grows Grows written_statement written_block z)
    → OfBlock (roll-Block z)
unfolding written_statement written_block bare_statement bare_block
block_rolled z q = ap (λ b. (sense b).text) (fold-roll-Block Bare Bare bares.statement_layer bares.block_layer z) ∙ (q ∙ sym (fold-roll-Block Grows Grows statement_text block_layer z))

abbrev alone : layers.Statement-F S B → layers.Statement-F Statement Block
alone = map-Statement S B Statement Block (λ s. s.0) (λ b. b.0)

in_statement : (y : layers.Statement-F S B) → OfStatement (roll-Statement (alone y))
in_statement (layers.Block b) = rolled (alone (layers.Block b)) (ap block_statement_by b.1)
in_statement (layers.Empty p) = rolled (alone (layers.Empty p)) refl
in_statement (layers.Declaration d) = rolled (alone (layers.Declaration d)) (ap declaration_by (declaration_is d.value))
in_statement (layers.Simple s) = rolled (alone (layers.Simple s)) (ap simple_by (simple_is s))
in_statement (layers.Return p e) = rolled (alone (layers.Return p e)) (ap {B = Grows} (λ (x : Grows) (behind : List Shown). statement_by statement_return words.Return p (x (word words.Semicolon behind))) (value_is (unboxed e)))
in_statement (layers.If p t y None) = rolled (alone (layers.If p t y None)) (cong2 (λ x u. if_text p (whole x) u None) (expression_is t.value) y.value.1)
in_statement (layers.If p t y (Some n)) = rolled (alone (layers.If p t y (Some n))) (cong3 (λ x u v. if_text p (whole x) u (Some v)) (expression_is t.value) y.value.1 n.value.1)
in_statement (layers.While p t b) = rolled (alone (layers.While p t b)) (cong2 (λ x u. while_text p (whole x) u) (expression_is t.value) b.value.1)
in_statement (layers.For p h b) = rolled (alone (layers.For p h b))
    (cong3 (λ x y u. for_text p x y u (sense (bare_statement b.value.0)).text) (for_start_is h.value.start) (value_is h.value.test) (for_step_is h.value.step) ∙ ap (for_head_text p h.value) b.value.1)
in_statement (layers.ForAll p g b) = rolled (alone (layers.ForAll p g b)) (cong2 (λ x u. over_text statement_for_all words.ForAll p (generators_text x) u) (generators_is g.value) b.value.1)
in_statement (layers.Select p g b) = rolled (alone (layers.Select p g b)) (cong2 (λ x u. over_text statement_select words.Select p (generators_text x) u) (generators_is g.value) b.value.1)
in_statement (layers.SelectBy p e g k b) = rolled (alone (layers.SelectBy p e g k b)) (cong3 (λ x y u. select_by_text e p (generators_text x) (whole y) u) (generators_is g.value) (expression_is k.value) b.value.1)
in_statement (layers.Neighbor p k n b) = rolled (alone (layers.Neighbor p k n b)) (cong2 (λ x u. neighbor_text p (whole x) n u) (expression_is k.value) b.value.1)
in_statement (layers.Whenever p w b) = rolled (alone (layers.Whenever p w b))
    (cong2 (λ x u. whenever_text p (at_postfix x) w.value.event (events_text w.value.names) u) (expression_is w.value.variable) b.value.1)
in_statement (layers.With p m n b) = rolled (alone (layers.With p m n b)) (ap (with_text p m n) b.value.1)
in_statement (layers.Parall p n e b) = rolled (alone (layers.Parall p n e b)) (cong2 (λ x u. parall_text p n (whole x) u) (expression_is e.value) b.value.1)

abbrev alone_block : layers.Block-F S B → layers.Block-F Statement Block
alone_block = map-Block S B Statement Block (λ s. s.0) (λ b. b.0)

in_block : (y : layers.Block-F S B) → OfBlock (roll-Block (alone_block y))
in_block y = block_rolled (alone_block y) (ap (block_text y.place) (each_statement y.statements.items))

statement_is : (s : Statement) → (sense (bare_statement s)).text ≡ written_statement s
statement_is = ind-Statement OfStatement OfBlock (λ x y is. subst (λ z. OfStatement (roll-Statement z)) is (in_statement y)) (λ x y is. subst (λ z. OfBlock (roll-Block z)) is (in_block y))

block_is : (b : Block) → (sense (bare_block b)).text ≡ written_block b
block_is = ind-Block OfStatement OfBlock (λ x y is. subst (λ z. OfStatement (roll-Statement z)) is (in_statement y)) (λ x y is. subst (λ z. OfBlock (roll-Block z)) is (in_block y))

-- programs
top_is : (t : TopPart) → (sense (bare_top t)).text ≡ written_top t
top_is (tops.Import n) = refl
top_is (tops.Include t) = refl
top_is (tops.Function f) = ap (function_by f.value.place f.value.result f.value.name f.value.parameters.items) (block_is f.value.body)
top_is (tops.Statement s) = ap top_statement_by (statement_is s)

abbrev more_top_by : Grows → Grows
more_top_by t behind = form parts.program program_top ∷ t behind

tops_are : (all : List TopPart) → each more_top_by (sense (bares.listed (map bare_top all))).texts ≡ each more_top all
tops_are [] = refl
tops_are (t ∷ all) = cong2 {C = Grows} (λ (x : Grows) (y : Grows) (behind : List Shown). more_top_by x (y behind)) (top_is t) (tops_are all)

abbrev written_by : Bare → List Shown
written_by b = each more_top_by (sense b).texts (form parts.program [] ∷ [])

written_is : (p : Program) → written_by (bare_program p) ≡ written_program p
written_is p = ap (λ (w : Grows). w (form parts.program [] ∷ [])) (tops_are p.parts.items)

pub same_written : (p q : Program) → SameProgram p q → written_program p ≡ written_program q
same_written p q e = sym (written_is p) ∙ (ap written_by e ∙ written_is q)

pub spell_alike : (limit : ℕ) (tokens : List Token) (p q : Program) → SameProgram p q → Spells limit p tokens → Spells limit q tokens
spell_alike limit tokens p q e s = (s.0, s.1, s.2 ∙ same_written p q e)
