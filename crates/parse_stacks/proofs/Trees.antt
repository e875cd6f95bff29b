-- The equations of what trees are written as.
use Rattle.std.specs.Prelude.{ℕ, ℤ, Bool, List, None, Some, ◌≡◌, map}
use Rattle.std.proofs.Common.{sym, ◌∙◌, ap}
use Rattle.std.specs.declared.boxed.Box.{Box}
use Rattle.std.specs.declared.alloc.Global.{Global}
use Rattle.std.specs.declared.vec.Vec.{Vec}
use Rattle.cbl_base.specs.declared.place.Place.{Place}
use Rattle.comet_syntax.specs.declared.tree.expressions.Name.{Name}
use Rattle.comet_syntax.specs.declared.tree.expressions.Comparison.{Comparison}
use Rattle.comet_syntax.specs.declared.tree.expressions.UnaryOperator.{UnaryOperator}
use Rattle.comet_syntax.specs.declared.tree.expressions.Extreme.{Extreme}
use Rattle.comet_syntax.specs.declared.tree.expressions.Aggregate.{Aggregate}
use Rattle.comet_syntax.specs.declared.tree.expressions.Argument.{Argument}
use Rattle.comet_syntax.specs.declared.tree.expressions.Expression.{Expression}
use Rattle.comet_syntax.specs.declared.tree.expressions.Suffix.{Suffix}
use Rattle.comet_syntax.specs.declared.tree.expressions.Generator.{Generator, roll-Generator, fold-roll-Generator}
use Rattle.comet_syntax.specs.declared.tree.expressions.Generators.{Generators, roll-Generators, fold-roll-Generators}
use Rattle.comet_syntax.specs.declared.tree.expressions.Link.{Link}
use Rattle.comet_syntax.specs.declared.tree.expressions.Argument.TheOpen as layers
use Rattle.comet_syntax.specs.declared.tree.expressions.Argument.TheFolds.{fold-roll-Expression, fold-roll-Argument, fold-roll-Suffix}
use Rattle.comet_syntax.specs.declared.tree.expressions.Expression.TheVariants as trees
use Rattle.comet_syntax.specs.declared.tree.expressions.Argument.TheVariants as arguments_as
use Rattle.comet_syntax.specs.declared.tree.expressions.Suffix.TheVariants as suffixes_as
use Rattle.comet_syntax.specs.Written.Shown.{Grows}
use Rattle.comet_syntax.specs.Written.Expressions.{Writing, GeneratorText, GeneratorsText, LinkText, argument_text, expression_text, suffix_text, generator_layer, generators_layer, link_layer, written, written_argument, written_suffix, written_generator, written_generators, written_link, conditional, chain, comparison, range_of, unary, aggregate, postfix_by, number, truth, name_alone, call_of, extreme_of, parentheses, list_of, set_of}
use Rattle.parse_stacks.specs.Levels.{method_text}

pub written_conditional : (a : Box Expression Global) (b : Box Expression Global) (c : Box Expression Global) → written (trees.Conditional a b c) ≡ conditional (written a.value) (written b.value) (written c.value)
unfolding written written_argument written_suffix written_generator written_generators written_link
written_conditional a b c = ap written (sym (trees.rolls-Conditional a b c)) ∙ fold-roll-Expression Grows Writing Grows GeneratorText GeneratorsText LinkText argument_text expression_text suffix_text generator_layer generators_layer link_layer (layers.Conditional a b c)

pub written_chain : (a : Box Expression Global) (l : Vec Link Global) → written (trees.Chain a l) ≡ chain (written a.value) (map written_link l.items)
unfolding written written_argument written_suffix written_generator written_generators written_link
written_chain a l = ap written (sym (trees.rolls-Chain a l)) ∙ fold-roll-Expression Grows Writing Grows GeneratorText GeneratorsText LinkText argument_text expression_text suffix_text generator_layer generators_layer link_layer (layers.Chain a l)

pub written_comparison : (a : Box Expression Global) (o : Comparison) (p : Place) (b : Box Expression Global) → written (trees.Comparison a o p b) ≡ comparison (written a.value) o p (written b.value)
unfolding written written_argument written_suffix written_generator written_generators written_link
written_comparison a o p b = ap written (sym (trees.rolls-Comparison a o p b)) ∙ fold-roll-Expression Grows Writing Grows GeneratorText GeneratorsText LinkText argument_text expression_text suffix_text generator_layer generators_layer link_layer (layers.Comparison a o p b)

pub written_range : (a : Box Expression Global) (p : Place) (b : Box Expression Global) → written (trees.Range a p b) ≡ range_of (written a.value) p (written b.value)
unfolding written written_argument written_suffix written_generator written_generators written_link
written_range a p b = ap written (sym (trees.rolls-Range a p b)) ∙ fold-roll-Expression Grows Writing Grows GeneratorText GeneratorsText LinkText argument_text expression_text suffix_text generator_layer generators_layer link_layer (layers.Range a p b)

pub written_unary : (o : UnaryOperator) (p : Place) (a : Box Expression Global) → written (trees.Unary o p a) ≡ unary o p (written a.value)
unfolding written written_argument written_suffix written_generator written_generators written_link
written_unary o p a = ap written (sym (trees.rolls-Unary o p a)) ∙ fold-roll-Expression Grows Writing Grows GeneratorText GeneratorsText LinkText argument_text expression_text suffix_text generator_layer generators_layer link_layer (layers.Unary o p a)

pub written_aggregate : (o : Aggregate) (p : Place) (g : Box Generators Global) (a : Box Expression Global) → written (trees.Aggregate o p g a) ≡ aggregate o p (written_generators g.value) (written a.value)
unfolding written written_argument written_suffix written_generator written_generators written_link
written_aggregate o p g a = ap written (sym (trees.rolls-Aggregate o p g a)) ∙ fold-roll-Expression Grows Writing Grows GeneratorText GeneratorsText LinkText argument_text expression_text suffix_text generator_layer generators_layer link_layer (layers.Aggregate o p g a)

pub written_postfix : (a : Box Expression Global) (l : Vec Suffix Global) → written (trees.Postfix a l) ≡ postfix_by (written a.value).primary_rest (written a.value).head (map written_suffix l.items)
unfolding written written_argument written_suffix written_generator written_generators written_link
written_postfix a l = ap written (sym (trees.rolls-Postfix a l)) ∙ fold-roll-Expression Grows Writing Grows GeneratorText GeneratorsText LinkText argument_text expression_text suffix_text generator_layer generators_layer link_layer (layers.Postfix a l)

pub written_number : (v : ℤ) (p : Place) → written (trees.Number v p) ≡ number v p
unfolding written written_argument written_suffix written_generator written_generators written_link
written_number v p = ap written (sym (trees.rolls-Number v p)) ∙ fold-roll-Expression Grows Writing Grows GeneratorText GeneratorsText LinkText argument_text expression_text suffix_text generator_layer generators_layer link_layer (layers.Number v p)

pub written_truth : (v : Bool) (p : Place) → written (trees.Truth v p) ≡ truth v p
unfolding written written_argument written_suffix written_generator written_generators written_link
written_truth v p = ap written (sym (trees.rolls-Truth v p)) ∙ fold-roll-Expression Grows Writing Grows GeneratorText GeneratorsText LinkText argument_text expression_text suffix_text generator_layer generators_layer link_layer (layers.Truth v p)

pub written_name : (n : Name) → written (trees.Name n) ≡ name_alone n
unfolding written written_argument written_suffix written_generator written_generators written_link
written_name n = ap written (sym (trees.rolls-Name n)) ∙ fold-roll-Expression Grows Writing Grows GeneratorText GeneratorsText LinkText argument_text expression_text suffix_text generator_layer generators_layer link_layer (layers.Name n)

pub written_call : (n : Box Name Global) (l : Vec Argument Global) → written (trees.Call n l) ≡ call_of n.value (map written_argument l.items)
unfolding written written_argument written_suffix written_generator written_generators written_link
written_call n l = ap written (sym (trees.rolls-Call n l)) ∙ fold-roll-Expression Grows Writing Grows GeneratorText GeneratorsText LinkText argument_text expression_text suffix_text generator_layer generators_layer link_layer (layers.Call n l)

pub written_extreme : (o : Extreme) (p : Place) (a : Box Expression Global) (b : Box Expression Global) → written (trees.Extreme o p a b) ≡ extreme_of o p (written a.value) (written b.value)
unfolding written written_argument written_suffix written_generator written_generators written_link
written_extreme o p a b = ap written (sym (trees.rolls-Extreme o p a b)) ∙ fold-roll-Expression Grows Writing Grows GeneratorText GeneratorsText LinkText argument_text expression_text suffix_text generator_layer generators_layer link_layer (layers.Extreme o p a b)

pub written_parentheses : (p : Place) (a : Box Expression Global) → written (trees.Parentheses p a) ≡ parentheses p (written a.value)
unfolding written written_argument written_suffix written_generator written_generators written_link
written_parentheses p a = ap written (sym (trees.rolls-Parentheses p a)) ∙ fold-roll-Expression Grows Writing Grows GeneratorText GeneratorsText LinkText argument_text expression_text suffix_text generator_layer generators_layer link_layer (layers.Parentheses p a)

pub written_list : (p : Place) (l : Vec Argument Global) → written (trees.List p l) ≡ list_of p (map written_argument l.items)
unfolding written written_argument written_suffix written_generator written_generators written_link
written_list p l = ap written (sym (trees.rolls-List p l)) ∙ fold-roll-Expression Grows Writing Grows GeneratorText GeneratorsText LinkText argument_text expression_text suffix_text generator_layer generators_layer link_layer (layers.List p l)

pub written_set : (p : Place) (l : Vec Argument Global) → written (trees.Set p l) ≡ set_of p (map written_argument l.items)
unfolding written written_argument written_suffix written_generator written_generators written_link
written_set p l = ap written (sym (trees.rolls-Set p l)) ∙ fold-roll-Expression Grows Writing Grows GeneratorText GeneratorsText LinkText argument_text expression_text suffix_text generator_layer generators_layer link_layer (layers.Set p l)

pub written_argument_expression : (a : Expression) → written_argument (arguments_as.Expression a) ≡ argument_text (layers.Expression (written a))
unfolding written written_argument written_suffix written_generator written_generators written_link
written_argument_expression a = ap written_argument (sym (arguments_as.rolls-Expression a)) ∙ fold-roll-Argument Grows Writing Grows GeneratorText GeneratorsText LinkText argument_text expression_text suffix_text generator_layer generators_layer link_layer (layers.Expression a)

pub written_argument_str : (t : List ℕ) → written_argument (arguments_as.Str t) ≡ argument_text (layers.Str t)
unfolding written written_argument written_suffix written_generator written_generators written_link
written_argument_str t = ap written_argument (sym (arguments_as.rolls-Str t)) ∙ fold-roll-Argument Grows Writing Grows GeneratorText GeneratorsText LinkText argument_text expression_text suffix_text generator_layer generators_layer link_layer (layers.Str t)

pub written_suffix_index : (p : Place) (a : Expression) → written_suffix (suffixes_as.Index p a) ≡ suffix_text (layers.Index p (written a))
unfolding written written_argument written_suffix written_generator written_generators written_link
written_suffix_index p a = ap written_suffix (sym (suffixes_as.rolls-Index p a)) ∙ fold-roll-Suffix Grows Writing Grows GeneratorText GeneratorsText LinkText argument_text expression_text suffix_text generator_layer generators_layer link_layer (layers.Index p a)

pub written_suffix_cell : (p : Place) (a : Expression) (b : Expression) → written_suffix (suffixes_as.Cell p a b) ≡ suffix_text (layers.Cell p (written a) (written b))
unfolding written written_argument written_suffix written_generator written_generators written_link
written_suffix_cell p a b = ap written_suffix (sym (suffixes_as.rolls-Cell p a b)) ∙ fold-roll-Suffix Grows Writing Grows GeneratorText GeneratorsText LinkText argument_text expression_text suffix_text generator_layer generators_layer link_layer (layers.Cell p a b)

pub generators_none : (f : Vec Generator Global) → written_generators (roll-Generators (record { generators = f; condition = None })) ≡ record { all = map written_generator f.items; only = None }
unfolding written written_argument written_suffix written_generator written_generators written_link
generators_none f = fold-roll-Generators Grows Writing Grows GeneratorText GeneratorsText LinkText argument_text expression_text suffix_text generator_layer generators_layer link_layer (record { generators = f; condition = None })

pub generators_some : (f : Vec Generator Global) (e : Box Expression Global)
    → written_generators (roll-Generators (record { generators = f; condition = Some e })) ≡ record { all = map written_generator f.items; only = Some (written e.value) }
unfolding written written_argument written_suffix written_generator written_generators written_link
generators_some f e = fold-roll-Generators Grows Writing Grows GeneratorText GeneratorsText LinkText argument_text expression_text suffix_text generator_layer generators_layer link_layer (record { generators = f; condition = Some e })

pub generator_of : (n : Name) (e : Expression) → written_generator (roll-Generator (record { name = n; domain = e })) ≡ record { bound = n; domain = written e }
unfolding written written_argument written_suffix written_generator written_generators written_link
generator_of n e = fold-roll-Generator Grows Writing Grows GeneratorText GeneratorsText LinkText argument_text expression_text suffix_text generator_layer generators_layer link_layer (record { name = n; domain = e })

pub method_of : (n : Name) (a : Vec Argument Global) → written_suffix (suffixes_as.Method n a) ≡ method_text n (map written_argument a.items)
unfolding written written_argument written_suffix written_generator written_generators written_link
method_of n a = ap written_suffix (sym (suffixes_as.rolls-Method n a)) ∙ fold-roll-Suffix Grows Writing Grows GeneratorText GeneratorsText LinkText argument_text expression_text suffix_text generator_layer generators_layer link_layer (layers.Method n a)
