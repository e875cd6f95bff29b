-- A tree is judged as it is without its pointers: declarations and simple statements.
use Rattle.std.specs.Prelude.{ℕ, List, [], ◌∷◌, Option, None, Some, ◌≡◌, map, refl, option_map}
use Rattle.std.proofs.Common.{sym, ◌∙◌, ap}
use Rattle.std.proofs.Math.Path.{fun_ext}
use Rattle.cbl_base.specs.declared.place.Place.{Place}
use Rattle.comet_syntax.specs.declared.tree.expressions.Argument.{Argument}
use Rattle.comet_syntax.specs.declared.tree.expressions.Expression.{Expression}
use Rattle.comet_syntax.specs.declared.tree.expressions.Name.{Name}
use Rattle.comet_syntax.specs.declared.tree.declarations.Class.{Class}
use Rattle.comet_syntax.specs.declared.tree.declarations.Dimension.{Dimension}
use Rattle.comet_syntax.specs.declared.tree.declarations.Dimensions.{Dimensions}
use Rattle.comet_syntax.specs.declared.tree.declarations.Maker.{Maker}
use Rattle.comet_syntax.specs.declared.tree.declarations.Maker.TheVariants as makers
use Rattle.comet_syntax.specs.declared.tree.declarations.VariableStart.{VariableStart}
use Rattle.comet_syntax.specs.declared.tree.declarations.VariableStart.TheVariants as starts
use Rattle.comet_syntax.specs.declared.tree.declarations.Declaration.{Declaration}
use Rattle.comet_syntax.specs.declared.tree.declarations.Declaration.TheVariants as declarations
use Rattle.comet_syntax.specs.declared.tree.statements.Item.{Item}
use Rattle.comet_syntax.specs.declared.tree.statements.Item.TheVariants as items
use Rattle.comet_syntax.specs.declared.tree.statements.Simple.{Simple}
use Rattle.comet_syntax.specs.declared.tree.statements.Simple.TheVariants as simples
use Rattle.checked_tree.specs.declared.kind.Kind.{Kind}
use Rattle.checked_tree.specs.declared.kind.Kind.TheVariants as kind
use Rattle.checked_tree.specs.Shape.{Seen}
use Rattle.checked_tree.specs.Actions.{Sized, Deed, Shown}
use Rattle.type_scopes.specs.declared.scope.Scope.{Scope}
use Rattle.type_scopes.specs.State.{Check, give, ◌>>=◌, then_do}
use Rattle.type_expressions.specs.Expressions.{Judge, judge, judge_argument}
use Rattle.type_declarations.specs.Parts.{Ranged, Starting, nothing, each_cell, defined, dimension_form, second_form, ranges_form, second_name, sized_form, sized_second, sizes_form, cells_within, cells_form, sized_kind}
use Rattle.type_declarations.specs.Objects.{handed_form, object_form}
use Rattle.type_declarations.specs.Declarations.{scalar_form, array_form, variables_form, variable_form, variable_start, starting_with, declaration_form, declaration_place}
use Rattle.type_simples.specs.Simples.{write_form, swap_form, step_form, alone_form, new_form, item_form, print_form, choice_form, simple_form}
use Rattle.parse_unique.specs.Bare as bares
use Rattle.parse_unique.specs.Bare.{Bare, optional, bare_expression, bare_argument, bare_arguments, bare_dimension, bare_dimensions, bare_start, bare_maker, bare_declaration, bare_item, bare_simple}
use Rattle.parse_unique.proofs.Levels.{cong2}
use Rattle.parse_unique.proofs.Declarations.{cong3}
use Rattle.type_trees.proofs.Parts.{Dim, Dims, dimension_by, second_by, ranges_by, second_name_by, sized_second_by, sizes_by, sized_by, dims_by, cells_by, array_by, variables_by, int_by, variable_by, Making, handed_by, object_by, new_by, item_by, print_by}
use Rattle.type_trees.proofs.Senses.{Sense, sense}
use Rattle.type_trees.proofs.Expressions.{expression_is, argument_is}

pub arguments_are : (a : List Argument) → (sense (bare_arguments a)).judges ≡ map judge_argument a
arguments_are [] = refl
arguments_are (x ∷ a) = cong2 (λ x y. x ∷ y) (argument_is x) (arguments_are a)

-- what may be left out
pub only_is : (o : Option Expression) → (sense (optional bare_expression o)).only ≡ option_map judge o
only_is None = refl
only_is (Some e) = ap (λ j. Some j) (expression_is e)

-- dimensions
abbrev dim_of : Dimension → Dim
dim_of d = record { name = d.name; range = judge d.range }

dim_is : (d : Dimension) → (sense (bare_dimension d)).dim ≡ dim_of d
dim_is d = ap (λ j. dim d.name j) (expression_is d.range)
  where
    dim : Option Name → Judge → Dim
    dim n j = record { name = n; range = j }

dim_perhaps_is : (o : Option Dimension) → (sense (optional bare_dimension o)).dim_perhaps ≡ option_map dim_of o
dim_perhaps_is None = refl
dim_perhaps_is (Some d) = ap (λ x. Some x) (dim_is d)

abbrev dims_made : (Scope → Check Ranged) → (Ranged → Scope → Check (List Sized)) → (Kind → Kind) → Dims
dims_made r s k = record { ranges = r; sizes = s; sized = k }

abbrev dims_of : Dimensions → Dims
dims_of ds = dims_made (ranges_form ds) (sizes_form ds) (λ k. sized_kind k ds)

sized_second_same : (second : Option Dimension) (e : Option Seen) → sized_second_by (second_name_by (option_map dim_of second)) e ≡ sized_second second e
unfolding sized_second
sized_second_same None None = refl
sized_second_same None (Some e) = refl
sized_second_same (Some d) None = refl
sized_second_same (Some d) (Some e) = refl

sizes_same : (first : Dimension) (second : Option Dimension) → sizes_by first.name (second_name_by (option_map dim_of second)) ≡ sizes_form (record { first = first; second = second })
unfolding sizes_form
sizes_same first second = fun_ext (λ (r : Ranged). fun_ext (λ (scope : Scope).
    ap (λ (f : Scope → Check (List Sized)). sized_form first.name r.first scope >>= λ a. f scope >>= λ b. give (a ∷ b)) (sized_second_same second r.second)))

ranges_same : (first : Dimension) (second : Option Dimension) → ranges_by (dim_of first) (option_map dim_of second) ≡ ranges_form (record { first = first; second = second })
unfolding ranges_form second_form dimension_form
ranges_same first None = refl
ranges_same first (Some d) = refl

sized_same : (first : Dimension) (second : Option Dimension) → sized_by (option_map dim_of second) ≡ (λ k. sized_kind k (record { first = first; second = second }))
sized_same first None = refl
sized_same first (Some d) = refl

dims_same : (first : Dimension) (second : Option Dimension) → dims_by (dim_of first) (option_map dim_of second) ≡ dims_of (record { first = first; second = second })
dims_same first second = cong3 dims_made (ranges_same first second) (sizes_same first second) (sized_same first second)

dims_is : (ds : Dimensions) → (sense (bare_dimensions ds)).dims ≡ dims_of ds
dims_is ds = cong2 dims_by (dim_is ds.first) (dim_perhaps_is ds.second) ∙ dims_same ds.first ds.second

dims_perhaps_is : (o : Option Dimensions) → (sense (optional bare_dimensions o)).dims_perhaps ≡ option_map dims_of o
dims_perhaps_is None = refl
dims_perhaps_is (Some ds) = ap (λ x. Some x) (dims_is ds)

array_is : (place : Place) (n : Name) (ds : Dimensions) (start : Starting) → array_by place n (dims_of ds) start ≡ array_form place n ds start
unfolding array_form cells_form cells_within
array_is place n ds start = refl

variables_is : (place : Place) (n : Name) (k : Kind) (ds : Dimensions) (s : Name) (d : Option Judge) (start : Starting) → variables_by place n k (dims_of ds) s d start ≡ variables_form place n k ds s d start
unfolding variables_form cells_form cells_within
variables_is place n k ds s d start = refl

start_is : (o : Option VariableStart) → (sense (optional bare_start o)).start ≡ variable_start o
start_is None = refl
start_is (Some (starts.Assign e)) = ap each_cell (expression_is e)
start_is (Some (starts.Define e)) = ap defined (expression_is e)

-- objects
abbrev making_of : Option Class → List Judge → Making
making_of c js = record { class = c; arguments = js }

object_is : (c : Class) (n : Name) (m : Maker) → object_by c n (sense (bare_maker m)).making ≡ object_form c n m
unfolding object_form handed_form
object_is c n (makers.Direct a) = ap (λ js. object_by c n (making_of None js)) (arguments_are a.items)
object_is c n (makers.New d a) = ap (λ js. object_by c n (making_of (Some d) js)) (arguments_are a.items)

pub declaration_is : (d : Declaration) → (sense (bare_declaration d)).deed ≡ declaration_form d
unfolding declaration_form
declaration_is (declarations.Int p n None e) = ap (λ o. int_by p n None o) (only_is e)
declaration_is (declarations.Int p n (Some ds) e) = cong2 (λ x o. int_by p n (Some x) o) (dims_is ds) (only_is e) ∙ array_is p n ds (starting_with (option_map judge e))
declaration_is (declarations.IntArray p n e) = ap (λ j. scalar_form p n kind.Array (Some j)) (expression_is e)
declaration_is (declarations.Bool p n e) = ap (λ o. scalar_form p n kind.Bool o) (only_is e)
declaration_is (declarations.Range p n e) = ap (λ j. scalar_form p n kind.Range (Some j)) (expression_is e)
declaration_is (declarations.Set p n e) = ap (λ o. scalar_form p n kind.Set o) (only_is e)
declaration_is (declarations.Variable p w n None s d x) = cong2 (λ o y. variable_by p n kind.Variable None s o y) (only_is d) (start_is x)
declaration_is (declarations.Variable p w n (Some ds) s d x) =
    cong3 (λ z o y. variable_by p n kind.Variable (Some z) s o y) (dims_is ds) (only_is d) (start_is x) ∙ variables_is p n kind.Variable ds s (option_map judge d) (variable_start x)
declaration_is (declarations.SetVariable p w n None s e) = ap (λ j. variable_by p n kind.SetVariable None s None (defined j)) (expression_is e)
declaration_is (declarations.SetVariable p w n (Some ds) s e) =
    cong2 (λ z j. variable_by p n kind.SetVariable (Some z) s None (defined j)) (dims_is ds) (expression_is e) ∙ variables_is p n kind.SetVariable ds s None (defined (judge e))
declaration_is (declarations.Object c n m) = object_is c n m

pub place_is : (d : Declaration) → (sense (bare_declaration d)).place ≡ declaration_place d
place_is (declarations.Int p n ds e) = refl
place_is (declarations.IntArray p n e) = refl
place_is (declarations.Bool p n e) = refl
place_is (declarations.Range p n e) = refl
place_is (declarations.Set p n e) = refl
place_is (declarations.Variable p w n ds s d x) = refl
place_is (declarations.SetVariable p w n ds s e) = refl
place_is (declarations.Object c n m) = refl

-- simple statements
item_is : (i : Item) → (sense (bare_item i)).item ≡ item_form i
unfolding item_form
item_is (items.Expression e) = ap item_by (expression_is e)
item_is (items.Str t) = refl
item_is items.EndLine = refl

items_are : (i : List Item) → (sense (bares.listed (map bare_item i))).items ≡ map item_form i
items_are [] = refl
items_are (x ∷ i) = cong2 (λ x y. x ∷ y) (item_is x) (items_are i)

print_is : (p : Place) (i : List Item) → print_by p (sense (bares.listed (map bare_item i))).items ≡ print_form p i
unfolding print_form
print_is p i = ap (print_by p) (items_are i)

new_is : (s : Simple) → (sense (bare_simple s)).acts ≡ simple_form s
unfolding simple_form new_form handed_form
new_is (simples.Write t o e) = cong2 (λ x y. write_form x o y) (expression_is t.value) (expression_is e.value)
new_is (simples.Swap l r) = cong2 swap_form (expression_is l.value) (expression_is r.value)
new_is (simples.Step t s) = ap (λ j. step_form j s) (expression_is t.value)
new_is (simples.Postfix e) = ap alone_form (expression_is e)
new_is (simples.New n) = ap (λ js. new_by n.value.name n.value.class js) (arguments_are n.value.arguments.items)
new_is (simples.Print p i) = print_is p i.items
new_is (simples.Call p e) = ap (choice_form p) (expression_is e.value)

pub simple_is : (s : Simple) → (sense (bare_simple s)).acts ≡ simple_form s
simple_is s = new_is s

pub simple_perhaps_is : (o : Option Simple) → (sense (optional bare_simple o)).acts_perhaps ≡ option_map simple_form o
simple_perhaps_is None = refl
simple_perhaps_is (Some s) = ap (λ a. Some a) (simple_is s)
