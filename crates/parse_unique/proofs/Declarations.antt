-- Each declaration is read back.
use Rattle.std.specs.Prelude.{ℕ, List, [], ◌∷◌, Option, None, Some, ◌≡◌, map, refl}
use Rattle.std.proofs.Common.{◌∙◌, ap}
use Rattle.cbl_base.specs.declared.place.Place.{Place}
use Rattle.comet_syntax.specs.declared.token.TokenKind.TheVariants as kinds
use Rattle.comet_syntax.specs.declared.token.Word.TheVariants as words
use Rattle.comet_syntax.specs.declared.tree.expressions.Name.{Name}
use Rattle.comet_syntax.specs.declared.tree.expressions.Expression.{Expression}
use Rattle.comet_syntax.specs.declared.tree.expressions.Argument.{Argument}
use Rattle.comet_syntax.specs.declared.tree.declarations.Class.{Class}
use Rattle.comet_syntax.specs.declared.tree.declarations.ClassKind.{ClassKind}
use Rattle.comet_syntax.specs.declared.tree.declarations.ClassKind.TheVariants as classes
use Rattle.comet_syntax.specs.declared.tree.declarations.Dimension.{Dimension}
use Rattle.comet_syntax.specs.declared.tree.declarations.Dimensions.{Dimensions}
use Rattle.comet_syntax.specs.declared.tree.declarations.Incremental.{Incremental}
use Rattle.comet_syntax.specs.declared.tree.declarations.Incremental.TheVariants as incrementals
use Rattle.comet_syntax.specs.declared.tree.declarations.Maker.{Maker}
use Rattle.comet_syntax.specs.declared.tree.declarations.Maker.TheVariants as makers
use Rattle.comet_syntax.specs.declared.tree.declarations.VariableStart.{VariableStart}
use Rattle.comet_syntax.specs.declared.tree.declarations.VariableStart.TheVariants as starts
use Rattle.comet_syntax.specs.declared.tree.declarations.Declaration.{Declaration}
use Rattle.comet_syntax.specs.declared.tree.declarations.Declaration.TheVariants as declarations
use Rattle.comet_syntax.specs.Grammar.Symbols.{template, class_name, declaration, int_rest, start_value, variable_rest, domain, variable_start, maker, dimensions, dimensions_tail, dimension, dimension_rest}
use Rattle.comet_syntax.specs.Grammar.Programs.{template_less, class_name_solver, class_name_local_solver, class_name_constraint_system, class_name_function_expr, class_name_function_sum, class_name_uniform_distribution, class_name_input_file, class_name_min_neighbor_selector, class_name_best_monitor, class_name_solution}
use Rattle.comet_syntax.specs.Grammar.Declarations.{declaration_int, declaration_bool, declaration_range, declaration_set, declaration_var, declaration_inc, declaration_class_name, int_rest_left_bracket, int_rest_name, start_value_equal, variable_rest_int, variable_rest_set, domain_comma, variable_start_assign, variable_start_arrow, maker_left_parenthesis, maker_equal, dimensions_left_bracket, dimensions_tail_comma, dimension_name, dimension_rest_in}
use Rattle.comet_syntax.specs.Written.Shown.{Shown, Grows}
use Rattle.comet_syntax.specs.Written.Expressions.{Head, by_name, by_opening, operand_head, Writing, written_argument}
use Rattle.comet_syntax.specs.Written.Declarations.{whole_text, arguments_in, template_text, class_text, written_class, made_text, start_text, dimension_head, dimension_by, written_dimension, second_dimension, dimensions_text, domain_text, variable_start_text, maker_text, incremental_text, int_in_braces, written_declaration}
use Rattle.parse_unique.specs.Bare.{Bare, optional, bare_expression, bare_argument, bare_arguments, bare_dimension, bare_dimensions, bare_start, bare_maker, bare_declaration}
use Rattle.parse_unique.proofs.Values.{Value, sign, marked, nothing, tree, of_name, of_word, template_is, class_is, Stack, option_in, dimension_rest_step, incremental_by, part_step, valued, ends}
use Rattle.parse_unique.proofs.Listings.{Fine, fine_map, Pushes, ◌⊳◌, signs, marks, names, formed, left_out, EachOf, none, and_one}
use Rattle.parse_unique.proofs.Levels.{cong2, At, head_at, on_is, on_name_is}
use Rattle.parse_unique.proofs.Good.{Good, put_whole}
use Rattle.parse_unique.proofs.Expressions.{IsTree, parenthesized_puts, name_at}
use Rattle.parse_unique.proofs.Trees.{good_expression, good_argument}

-- what may be left out
abbrev pub optionally : {A : Type 0} → (A → Bare) → Option A → Value
optionally f None = nothing
optionally f (Some x) = tree (f x)

pub option_is : {A : Type 0} (f : A → Bare) (o : Option A) → option_in (optionally f o) ≡ optional f o
option_is f None = refl
option_is f (Some x) = refl

pub cong3 : {A B C D : Type 0} (f : A → B → C → D) {a a' : A} {b b' : B} {c c' : C} → a ≡ a' → b ≡ b' → c ≡ c' → f a b c ≡ f a' b' c'
cong3 f {a} {a'} {b} {b'} {c} {c'} p q r = ap (λ x. f x b c) p ∙ cong2 (f a') q r

pub expression_puts : (e : Expression) → Pushes (whole_text e) (tree (bare_expression e) ∷ [])
expression_puts e = put_whole (good_expression e)

arguments_of : (a : List Argument) → EachOf IsTree (map written_argument a) (map bare_argument a)
arguments_of [] = none
arguments_of (a ∷ more) = and_one (good_argument a) (arguments_of more)

pub arguments_in_puts : (a : List Argument) → Pushes (arguments_in a) (sign (kinds.Word words.LeftParenthesis) ∷ tree (bare_arguments a) ∷ sign (kinds.Word words.RightParenthesis) ∷ [])
arguments_in_puts a = parenthesized_puts (arguments_of a)

-- classes
pub template_puts : (n : Option Name) → Pushes (template_text n) (template_is n ∷ [])
template_puts None = left_out template (template_is None) (λ k. refl) (λ s. refl)
template_puts (Some n) = formed template template_less (template_is (Some n)) (λ k. refl) (signs words.Less ⊳ (names n ⊳ signs words.Greater)) (λ s. refl)

class_kind_puts : (k : ClassKind) (p : Place) → Pushes (class_text k p) (class_is (record { place = p; kind = k }) ∷ [])
class_kind_puts (classes.Solver n) p = formed class_name class_name_solver (class_is (record { place = p; kind = classes.Solver n })) (λ k. refl) (marks words.Solver p ⊳ (signs words.Less ⊳ (names n ⊳ signs words.Greater))) (λ s. refl)
class_kind_puts classes.LocalSolver p = formed class_name class_name_local_solver (class_is (record { place = p; kind = classes.LocalSolver })) (λ k. refl) (marks words.LocalSolver p) (λ s. refl)
class_kind_puts (classes.ConstraintSystem n) p = formed class_name class_name_constraint_system (class_is (record { place = p; kind = classes.ConstraintSystem n })) (λ k. refl) (marks words.ConstraintSystem p ⊳ template_puts n) (λ s. refl)
class_kind_puts (classes.FunctionExpr n) p = formed class_name class_name_function_expr (class_is (record { place = p; kind = classes.FunctionExpr n })) (λ k. refl) (marks words.FunctionExpr p ⊳ template_puts n) (λ s. refl)
class_kind_puts (classes.FunctionSum n) p = formed class_name class_name_function_sum (class_is (record { place = p; kind = classes.FunctionSum n })) (λ k. refl) (marks words.FunctionSum p ⊳ template_puts n) (λ s. refl)
class_kind_puts classes.UniformDistribution p = formed class_name class_name_uniform_distribution (class_is (record { place = p; kind = classes.UniformDistribution })) (λ k. refl) (marks words.UniformDistribution p) (λ s. refl)
class_kind_puts classes.InputFile p = formed class_name class_name_input_file (class_is (record { place = p; kind = classes.InputFile })) (λ k. refl) (marks words.InputFile p) (λ s. refl)
class_kind_puts classes.MinNeighborSelector p = formed class_name class_name_min_neighbor_selector (class_is (record { place = p; kind = classes.MinNeighborSelector })) (λ k. refl) (marks words.MinNeighborSelector p) (λ s. refl)
class_kind_puts classes.BestMonitor p = formed class_name class_name_best_monitor (class_is (record { place = p; kind = classes.BestMonitor })) (λ k. refl) (marks words.BestMonitor p) (λ s. refl)
class_kind_puts classes.Solution p = formed class_name class_name_solution (class_is (record { place = p; kind = classes.Solution })) (λ k. refl) (marks words.Solution p) (λ s. refl)

pub class_puts : (c : Class) → Pushes (written_class c) (class_is c ∷ [])
class_puts c = class_kind_puts c.kind c.place

pub made_puts : (c : Class) (a : List Argument)
    → Pushes (made_text c a) (class_is c ∷ sign (kinds.Word words.LeftParenthesis) ∷ tree (bare_arguments a) ∷ sign (kinds.Word words.RightParenthesis) ∷ [])
made_puts c a = class_puts c ⊳ arguments_in_puts a

-- the parts of declarations
start_puts : (o : Option Expression) → Pushes (start_text o) (optionally bare_expression o ∷ [])
start_puts None = left_out start_value nothing (λ k. refl) (λ s. refl)
start_puts (Some e) = formed start_value start_value_equal (tree (bare_expression e)) (λ k. refl) (signs words.Equal ⊳ expression_puts e) (λ s. refl)

domain_puts : (o : Option Expression) → Pushes (domain_text o) (optionally bare_expression o ∷ [])
domain_puts None = left_out domain nothing (λ k. refl) (λ s. refl)
domain_puts (Some e) = formed domain domain_comma (tree (bare_expression e)) (λ k. refl) (signs words.Comma ⊳ expression_puts e) (λ s. refl)

variable_start_puts : (o : Option VariableStart) → Pushes (variable_start_text o) (optionally bare_start o ∷ [])
variable_start_puts None = left_out variable_start nothing (λ k. refl) (λ s. refl)
variable_start_puts (Some (starts.Assign e)) = formed variable_start variable_start_assign (tree (Bare.assigned (bare_expression e))) (λ k. refl) (signs words.Assign ⊳ expression_puts e) (λ s. refl)
variable_start_puts (Some (starts.Define e)) = formed variable_start variable_start_arrow (tree (Bare.defined (bare_expression e))) (λ k. refl) (signs words.Arrow ⊳ expression_puts e) (λ s. refl)

maker_puts : (m : Maker) → Pushes (maker_text m) (tree (bare_maker m) ∷ [])
maker_puts (makers.Direct a) = formed maker maker_left_parenthesis (tree (Bare.direct (bare_arguments a.items))) (λ k. refl) (arguments_in_puts a.items) (λ s. refl)
maker_puts (makers.New c a) = formed maker maker_equal (tree (Bare.made c (bare_arguments a.items))) (λ k. refl) (signs words.Equal ⊳ (signs words.New ⊳ made_puts c a.items)) (λ s. refl)

dimension_starts : (k : ℕ) (h : Head) (Y : List Shown) (b : Bare) (z : Stack) → At 7 h k Y b z → Fine k (ends (dimension_head h Y)) (valued (dimension_head h Y) ≡ tree (Bare.dimension None b) ∷ z)
dimension_starts k (by_name n) Y b z a = fine_map (λ o. let i = on_name_is 7 n (valued Y) b z o in
    ap (λ x. part_step dimension dimension_name (marked (kinds.Name n.text) n.place ∷ dimension_rest_step x (valued Y))) i.2 ∙ cong2 (λ x u. tree (Bare.dimension None x) ∷ u) i.0 i.1) (name_at 7 k n Y b z a)
dimension_starts k (by_opening o) Y b z a = fine_map (λ on. let i = on_is 7 (valued (operand_head (by_opening o) Y)) b z on in
    cong2 (λ x u. tree (Bare.dimension None x) ∷ u) i.0 i.1) (head_at 7 k (by_opening o) Y b z a)

dimension_by_puts : (n : Option Name) {w : Writing} {b : Bare} → Good w b → Pushes (dimension_by n w) (tree (Bare.dimension n b) ∷ [])
dimension_by_puts None {w} {b} g = record { push = λ X. dimension_starts (ends X) w.head (w.whole_rest X) b (valued X) (g.whole X) }
dimension_by_puts (Some n) {w} {b} g = formed dimension dimension_name (tree (Bare.dimension (Some n) b)) (λ k. refl)
    (names n ⊳ formed dimension_rest dimension_rest_in (of_name (λ m. Bare.dimension (Some m) b)) (λ k. refl) (signs words.In ⊳ put_whole g) (λ s. refl)) (λ s. refl)

dimension_puts : (d : Dimension) → Pushes (written_dimension d) (tree (bare_dimension d) ∷ [])
dimension_puts d = dimension_by_puts d.name (good_expression d.range)

second_puts : (o : Option Dimension) → Pushes (second_dimension o) (optionally bare_dimension o ∷ [])
second_puts None = left_out dimensions_tail nothing (λ k. refl) (λ s. refl)
second_puts (Some d) = formed dimensions_tail dimensions_tail_comma (tree (bare_dimension d)) (λ k. refl) (signs words.Comma ⊳ dimension_puts d) (λ s. refl)

dimensions_puts : (o : Option Dimensions) → Pushes (dimensions_text o) (optionally bare_dimensions o ∷ [])
dimensions_puts None = left_out dimensions nothing (λ k. refl) (λ s. refl)
dimensions_puts (Some d) = formed dimensions dimensions_left_bracket (tree (bare_dimensions d)) (λ k. refl)
    (signs words.LeftBracket ⊳ (dimension_puts d.first ⊳ (second_puts d.second ⊳ signs words.RightBracket))) (λ s. ap (λ x. tree (Bare.dimensions (bare_dimension d.first) x) ∷ s) (option_is bare_dimension d.second))

pub int_in_braces_puts : Pushes int_in_braces (sign (kinds.Word words.LeftBrace) ∷ sign (kinds.Word words.Int) ∷ sign (kinds.Word words.RightBrace) ∷ [])
int_in_braces_puts = signs words.LeftBrace ⊳ (signs words.Int ⊳ signs words.RightBrace)

-- what stands behind `var{` or `inc{`
incremental_puts : {u : Grows} (w : Incremental) (p : Place) (f : Place → Incremental → Bare) → Pushes u (of_word (λ p w. f p (incremental_by w)) ∷ []) → Pushes (λ X. incremental_text w p (u X)) (tree (f p w) ∷ [])
incremental_puts incrementals.Var p f q = formed declaration declaration_var (tree (f p incrementals.Var)) (λ k. refl) (marks words.Var p ⊳ (signs words.LeftBrace ⊳ q)) (λ s. refl)
incremental_puts incrementals.Inc p f q = formed declaration declaration_inc (tree (f p incrementals.Inc)) (λ k. refl) (marks words.Inc p ⊳ (signs words.LeftBrace ⊳ q)) (λ s. refl)

pub declaration_puts : (d : Declaration) → Pushes (written_declaration d) (tree (bare_declaration d) ∷ [])
declaration_puts (declarations.Int p n d e) = formed declaration declaration_int (tree (Bare.int_variable p n (optional bare_dimensions d) (optional bare_expression e))) (λ k. refl)
    (marks words.Int p ⊳ formed int_rest int_rest_name (of_word (λ p w. Bare.int_variable p n (option_in (optionally bare_dimensions d)) (option_in (optionally bare_expression e)))) (λ k. refl)
    (names n ⊳ (dimensions_puts d ⊳ start_puts e)) (λ s. refl))
    (λ s. cong2 (λ x y. tree (Bare.int_variable p n x y) ∷ s) (option_is bare_dimensions d) (option_is bare_expression e))
declaration_puts (declarations.IntArray p n e) = formed declaration declaration_int (tree (Bare.int_array p n (bare_expression e))) (λ k. refl)
    (marks words.Int p ⊳ formed int_rest int_rest_left_bracket (of_word (λ p w. Bare.int_array p n (bare_expression e))) (λ k. refl)
    (signs words.LeftBracket ⊳ (signs words.RightBracket ⊳ (names n ⊳ (signs words.Equal ⊳ expression_puts e)))) (λ s. refl)) (λ s. refl)
declaration_puts (declarations.Bool p n e) = formed declaration declaration_bool (tree (Bare.bool_variable p n (optional bare_expression e))) (λ k. refl)
    (marks words.Bool p ⊳ (names n ⊳ start_puts e)) (λ s. ap (λ x. tree (Bare.bool_variable p n x) ∷ s) (option_is bare_expression e))
declaration_puts (declarations.Range p n e) = formed declaration declaration_range (tree (Bare.range_variable p n (bare_expression e))) (λ k. refl)
    (marks words.Range p ⊳ (names n ⊳ (signs words.Equal ⊳ expression_puts e))) (λ s. refl)
declaration_puts (declarations.Set p n e) = formed declaration declaration_set (tree (Bare.set_variable p n (optional bare_expression e))) (λ k. refl)
    (marks words.Set p ⊳ (int_in_braces_puts ⊳ (names n ⊳ start_puts e))) (λ s. ap (λ x. tree (Bare.set_variable p n x) ∷ s) (option_is bare_expression e))
declaration_puts (declarations.Variable p w n d t e v) =
    incremental_puts w p (λ p w. Bare.incremental_int p w n (optional bare_dimensions d) t (optional bare_expression e) (optional bare_start v))
    (formed variable_rest variable_rest_int (of_word (λ p w. Bare.incremental_int p (incremental_by w) n (optional bare_dimensions d) t (optional bare_expression e) (optional bare_start v))) (λ k. refl)
    (signs words.Int ⊳ (signs words.RightBrace ⊳ (names n ⊳ (dimensions_puts d ⊳ (signs words.LeftParenthesis ⊳ (names t ⊳ (domain_puts e ⊳ (signs words.RightParenthesis ⊳ variable_start_puts v))))))))
    (λ s. cong3 (λ x y z. of_word (λ p w. Bare.incremental_int p (incremental_by w) n x t y z) ∷ s) (option_is bare_dimensions d) (option_is bare_expression e) (option_is bare_start v)))
declaration_puts (declarations.SetVariable p w n d t e) =
    incremental_puts w p (λ p w. Bare.incremental_set p w n (optional bare_dimensions d) t (bare_expression e))
    (formed variable_rest variable_rest_set (of_word (λ p w. Bare.incremental_set p (incremental_by w) n (optional bare_dimensions d) t (bare_expression e))) (λ k. refl)
    (signs words.Set ⊳ (int_in_braces_puts ⊳ (signs words.RightBrace ⊳ (names n ⊳ (dimensions_puts d ⊳ (signs words.LeftParenthesis ⊳ (names t ⊳ (signs words.RightParenthesis ⊳ (signs words.Arrow ⊳ expression_puts e)))))))))
    (λ s. ap (λ x. of_word (λ p w. Bare.incremental_set p (incremental_by w) n x t (bare_expression e)) ∷ s) (option_is bare_dimensions d)))
declaration_puts (declarations.Object c n m) = formed declaration declaration_class_name (tree (Bare.object c n (bare_maker m))) (λ k. refl) (class_puts c ⊳ (names n ⊳ maker_puts m)) (λ s. refl)
