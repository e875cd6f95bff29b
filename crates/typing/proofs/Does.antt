-- What a statement's judgement is, by its form.
use Rattle.std.specs.Prelude.{◌≡◌, map, Option, None, Some, option_map}
use Rattle.std.proofs.Common.{sym, ap, ◌∙◌}
use Rattle.std.specs.declared.boxed.Box.{Box}
use Rattle.std.specs.declared.alloc.Global.{Global}
use Rattle.cbl_base.specs.declared.place.Place.{Place}
use Rattle.comet_syntax.specs.declared.tree.expressions.Name.{Name}
use Rattle.comet_syntax.specs.declared.tree.expressions.Extreme.{Extreme}
use Rattle.comet_syntax.specs.declared.tree.expressions.Expression.{Expression}
use Rattle.comet_syntax.specs.declared.tree.expressions.Generators.{Generators}
use Rattle.comet_syntax.specs.declared.tree.declarations.Declaration.{Declaration}
use Rattle.comet_syntax.specs.declared.tree.statements.Simple.{Simple}
use Rattle.comet_syntax.specs.declared.tree.statements.ForHead.{ForHead}
use Rattle.comet_syntax.specs.declared.tree.statements.Watched.{Watched}
use Rattle.comet_syntax.specs.declared.tree.statements.WithMode.{WithMode}
use Rattle.comet_syntax.specs.declared.tree.statements.Statement.{Statement}
use Rattle.comet_syntax.specs.declared.tree.statements.Statement.TheVariants as statements
use Rattle.comet_syntax.specs.declared.tree.statements.Statement.TheOpen as layers
use Rattle.comet_syntax.specs.declared.tree.statements.Statement.TheFolds.{fold-roll-Statement}
use Rattle.comet_syntax.specs.declared.tree.statements.Block.{Block, out-Block, fold_out-Block}
use Rattle.checked_tree.specs.Actions.{nothing}
use Rattle.type_scopes.specs.State.{give}
use Rattle.type_expressions.specs.Expressions.{judge, judge_generators}
use Rattle.type_declarations.specs.Declarations.{declaration_form, declaration_place}
use Rattle.type_simples.specs.Simples.{simple_form, return_form}
use Rattle.type_heads.specs.Heads.{Does, deed_form, acted_form}
use Rattle.type_statements.specs.Statements.{statement_layer, block_layer, statement_of, block_of, within_own, opened_tasks, if_form, if_else_form, while_form, for_form, for_all_form, select_form, select_by_form, neighbor_form, whenever_form, with_form, parall_form}

pub does_block : (b : Block) → statement_of (statements.Block b) ≡ within_own (block_of b)
unfolding statement_of block_of
does_block b = ap statement_of (sym (statements.rolls-Block b)) ∙ fold-roll-Statement Does Does statement_layer block_layer (layers.Block b)

pub does_empty : (place : Place) → statement_of (statements.Empty place) ≡ deed_form place (λ scope. give nothing)
unfolding statement_of block_of
does_empty place = ap statement_of (sym (statements.rolls-Empty place)) ∙ fold-roll-Statement Does Does statement_layer block_layer (layers.Empty place)

pub does_declaration : (d : Box Declaration Global) → statement_of (statements.Declaration d) ≡ deed_form (declaration_place d.value) (declaration_form d.value)
unfolding statement_of block_of
does_declaration d = ap statement_of (sym (statements.rolls-Declaration d)) ∙ fold-roll-Statement Does Does statement_layer block_layer (layers.Declaration d)

pub does_simple : (x : Simple) → statement_of (statements.Simple x) ≡ acted_form (simple_form x)
unfolding statement_of block_of
does_simple x = ap statement_of (sym (statements.rolls-Simple x)) ∙ fold-roll-Statement Does Does statement_layer block_layer (layers.Simple x)

pub does_return : (place : Place) (e : Option (Box Expression Global)) → statement_of (statements.Return place e) ≡ deed_form place (return_form place (option_map (λ x. judge x.value) e))
unfolding statement_of block_of
does_return place e = ap statement_of (sym (statements.rolls-Return place e)) ∙ fold-roll-Statement Does Does statement_layer block_layer (layers.Return place e)

pub does_if : (place : Place) (t : Box Expression Global) (a : Box Statement Global) → statement_of (statements.If place t a None) ≡ if_form place (judge t.value) (statement_of a.value)
unfolding statement_of block_of
does_if place t a = ap statement_of (sym (statements.rolls-If place t a None)) ∙ fold-roll-Statement Does Does statement_layer block_layer (layers.If place t a None)

pub does_if_else : (place : Place) (t : Box Expression Global) (a : Box Statement Global) (b : Box Statement Global) → statement_of (statements.If place t a (Some b)) ≡ if_else_form place (judge t.value) (statement_of a.value) (statement_of b.value)
unfolding statement_of block_of
does_if_else place t a b = ap statement_of (sym (statements.rolls-If place t a (Some b))) ∙ fold-roll-Statement Does Does statement_layer block_layer (layers.If place t a (Some b))

pub does_while : (place : Place) (t : Box Expression Global) (a : Box Statement Global) → statement_of (statements.While place t a) ≡ while_form place (judge t.value) (statement_of a.value)
unfolding statement_of block_of
does_while place t a = ap statement_of (sym (statements.rolls-While place t a)) ∙ fold-roll-Statement Does Does statement_layer block_layer (layers.While place t a)

pub does_for : (place : Place) (h : Box ForHead Global) (a : Box Statement Global) → statement_of (statements.For place h a) ≡ for_form place h.value (statement_of a.value)
unfolding statement_of block_of
does_for place h a = ap statement_of (sym (statements.rolls-For place h a)) ∙ fold-roll-Statement Does Does statement_layer block_layer (layers.For place h a)

pub does_for_all : (place : Place) (g : Box Generators Global) (a : Box Statement Global) → statement_of (statements.ForAll place g a) ≡ for_all_form place (judge_generators g.value) (statement_of a.value)
unfolding statement_of block_of
does_for_all place g a = ap statement_of (sym (statements.rolls-ForAll place g a)) ∙ fold-roll-Statement Does Does statement_layer block_layer (layers.ForAll place g a)

pub does_select : (place : Place) (g : Box Generators Global) (a : Box Statement Global) → statement_of (statements.Select place g a) ≡ select_form place (judge_generators g.value) (statement_of a.value)
unfolding statement_of block_of
does_select place g a = ap statement_of (sym (statements.rolls-Select place g a)) ∙ fold-roll-Statement Does Does statement_layer block_layer (layers.Select place g a)

pub does_select_by : (place : Place) (o : Extreme) (g : Box Generators Global) (k : Box Expression Global) (a : Box Statement Global) → statement_of (statements.SelectBy place o g k a) ≡ select_by_form place o (judge_generators g.value) (judge k.value) (statement_of a.value)
unfolding statement_of block_of
does_select_by place o g k a = ap statement_of (sym (statements.rolls-SelectBy place o g k a)) ∙ fold-roll-Statement Does Does statement_layer block_layer (layers.SelectBy place o g k a)

pub does_neighbor : (place : Place) (k : Box Expression Global) (n : Name) (a : Box Statement Global) → statement_of (statements.Neighbor place k n a) ≡ neighbor_form place (judge k.value) n (statement_of a.value)
unfolding statement_of block_of
does_neighbor place k n a = ap statement_of (sym (statements.rolls-Neighbor place k n a)) ∙ fold-roll-Statement Does Does statement_layer block_layer (layers.Neighbor place k n a)

pub does_whenever : (place : Place) (o : Box Watched Global) (a : Box Statement Global) → statement_of (statements.Whenever place o a) ≡ whenever_form place o.value (statement_of a.value)
unfolding statement_of block_of
does_whenever place o a = ap statement_of (sym (statements.rolls-Whenever place o a)) ∙ fold-roll-Statement Does Does statement_layer block_layer (layers.Whenever place o a)

pub does_with : (place : Place) (m : WithMode) (n : Name) (b : Box Block Global) → statement_of (statements.With place m n b) ≡ with_form place m n (block_of b.value)
unfolding statement_of block_of
does_with place m n b = ap statement_of (sym (statements.rolls-With place m n b)) ∙ fold-roll-Statement Does Does statement_layer block_layer (layers.With place m n b)

pub does_parall : (place : Place) (n : Name) (d : Box Expression Global) (a : Box Statement Global) → statement_of (statements.Parall place n d a) ≡ parall_form place n (judge d.value) (statement_of a.value)
unfolding statement_of block_of
does_parall place n d a = ap statement_of (sym (statements.rolls-Parall place n d a)) ∙ fold-roll-Statement Does Does statement_layer block_layer (layers.Parall place n d a)

pub does_tasks : (b : Block) → block_of b ≡ opened_tasks (out-Block b).place (map statement_of (out-Block b).statements.items)
unfolding statement_of block_of
does_tasks b = fold_out-Block Does Does statement_layer block_layer b
