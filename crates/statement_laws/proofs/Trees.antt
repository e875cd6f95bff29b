-- Every statement behaves, by induction over trees.
use Rattle.std.specs.Prelude.{List, [], ◌∷◌, map, Option, None, Some, option_map}
use Rattle.std.proofs.Common.{sym, subst}
use Rattle.std.specs.declared.alloc.Global.{Global}
use Rattle.std.specs.declared.boxed.Box.{Box}
use Rattle.comet_syntax.specs.declared.tree.expressions.Expression.{Expression}
use Rattle.comet_syntax.specs.declared.tree.statements.Statement.{Statement, roll-Statement}
use Rattle.comet_syntax.specs.declared.tree.statements.Statement.TheOpen as layers
use Rattle.comet_syntax.specs.declared.tree.statements.Statement.TheFolds.{fold-roll-Statement, map-Statement, map-Block, ind-Statement}
use Rattle.comet_syntax.specs.declared.tree.statements.Block.{Block, roll-Block, fold-roll-Block}
use Rattle.type_expressions.specs.Expressions.{judge}
use Rattle.type_heads.specs.Heads.{Does, alone}
use Rattle.type_statements.specs.Statements.{statement_layer, block_layer, statement_of, block_of}
use Rattle.type_laws.proofs.Allowed.{AllOf, behaves_give}
use Rattle.type_laws.proofs.Trees.{expression_good, generating_good}
use Rattle.statement_laws.proofs.Parts.{GoodStart}
use Rattle.statement_laws.proofs.Leaves.{declaration_good, simple_good, return_good}
use Rattle.statement_laws.proofs.Bodies.{GoodDoes, deed_good, acted_good, own_good, block_good, if_good, if_else_good, while_good, for_good, for_all_good, select_good, select_by_good, neighbor_good, with_good, whenever_good, parall_good}

abbrev OfStatement : Statement → Type 0
OfStatement s = GoodDoes (statement_of s)

abbrev OfBlock : Block → Type 0
OfBlock b = GoodDoes (block_of b)

-- a statement, and that it behaves
abbrev S : Type 0
S = (s : Statement) × OfStatement s

abbrev B : Type 0
B = (b : Block) × OfBlock b

each_statement : (all : List S) → AllOf GoodDoes (map statement_of (map (λ s. s.0) all))
each_statement [] = tt
each_statement (s ∷ all) = (s.1, each_statement all)

rolled : (z : layers.Statement-F Statement Block) → GoodDoes (statement_layer (map-Statement Statement Block Does Does statement_of block_of z)) → OfStatement (roll-Statement z)
unfolding statement_of block_of
rolled z g = subst GoodDoes (sym (fold-roll-Statement Does Does statement_layer block_layer z)) g

block_rolled : (z : layers.Block-F Statement Block) → GoodDoes (block_layer (map-Block Statement Block Does Does statement_of block_of z)) → OfBlock (roll-Block z)
unfolding statement_of block_of
block_rolled z g = subst GoodDoes (sym (fold-roll-Block Does Does statement_layer block_layer z)) g

returned : (e : Option (Box Expression Global)) → GoodStart (option_map (λ x. judge x.value) e)
returned None = tt
returned (Some e) = expression_good e.value

abbrev alone_statement : layers.Statement-F S B → layers.Statement-F Statement Block
alone_statement = map-Statement S B Statement Block (λ s. s.0) (λ b. b.0)

in_statement : (y : layers.Statement-F S B) → OfStatement (roll-Statement (alone_statement y))
in_statement (layers.Block b) = rolled (alone_statement (layers.Block b)) (own_good _ b.1)
in_statement (layers.Empty p) = rolled (alone_statement (layers.Empty p)) (deed_good p _ (λ scope. behaves_give scope _))
in_statement (layers.Declaration d) = rolled (alone_statement (layers.Declaration d)) (deed_good _ _ (declaration_good d.value))
in_statement (layers.Simple x) = rolled (alone_statement (layers.Simple x)) (acted_good _ (simple_good x alone))
in_statement (layers.Return p e) = rolled (alone_statement (layers.Return p e)) (deed_good p _ (return_good p _ (returned e)))
in_statement (layers.If p t y None) = rolled (alone_statement (layers.If p t y None)) (if_good p _ _ (expression_good t.value) y.value.1)
in_statement (layers.If p t y (Some n)) = rolled (alone_statement (layers.If p t y (Some n))) (if_else_good p _ _ _ (expression_good t.value) y.value.1 n.value.1)
in_statement (layers.While p t b) = rolled (alone_statement (layers.While p t b)) (while_good p _ _ (expression_good t.value) b.value.1)
in_statement (layers.For p h b) = rolled (alone_statement (layers.For p h b)) (for_good p h.value _ b.value.1)
in_statement (layers.ForAll p g b) = rolled (alone_statement (layers.ForAll p g b)) (for_all_good p _ _ (generating_good g.value) b.value.1)
in_statement (layers.Select p g b) = rolled (alone_statement (layers.Select p g b)) (select_good p _ _ (generating_good g.value) b.value.1)
in_statement (layers.SelectBy p x g e b) = rolled (alone_statement (layers.SelectBy p x g e b)) (select_by_good p x _ _ _ (generating_good g.value) (expression_good e.value) b.value.1)
in_statement (layers.Neighbor p e n b) = rolled (alone_statement (layers.Neighbor p e n b)) (neighbor_good p _ n _ (expression_good e.value) b.value.1)
in_statement (layers.Whenever p w b) = rolled (alone_statement (layers.Whenever p w b)) (whenever_good p w.value _ b.value.1)
in_statement (layers.With p m n b) = rolled (alone_statement (layers.With p m n b)) (with_good p m n _ b.value.1)
in_statement (layers.Parall p n e b) = rolled (alone_statement (layers.Parall p n e b)) (parall_good p n _ _ (expression_good e.value) b.value.1)

abbrev alone_block : layers.Block-F S B → layers.Block-F Statement Block
alone_block = map-Block S B Statement Block (λ s. s.0) (λ b. b.0)

in_block : (y : layers.Block-F S B) → OfBlock (roll-Block (alone_block y))
in_block y = block_rolled (alone_block y) (block_good y.place _ (each_statement y.statements.items))

pub statement_good : (s : Statement) → GoodDoes (statement_of s)
statement_good = ind-Statement OfStatement OfBlock (λ x y is. subst (λ z. OfStatement (roll-Statement z)) is (in_statement y)) (λ x y is. subst (λ z. OfBlock (roll-Block z)) is (in_block y))
