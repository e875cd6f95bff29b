-- The equations of what statements are written as.
use Rattle.std.specs.Prelude.{◌∷◌, Option, None, Some, ◌≡◌, map}
use Rattle.std.proofs.Common.{sym, ◌∙◌, ap}
use Rattle.std.specs.declared.boxed.Box.{Box}
use Rattle.std.specs.declared.alloc.Global.{Global}
use Rattle.std.specs.declared.vec.Vec.{Vec}
use Rattle.cbl_base.specs.declared.place.Place.{Place}
use Rattle.comet_syntax.specs.declared.token.Word.TheVariants as words
use Rattle.comet_syntax.specs.declared.tree.expressions.Name.{Name}
use Rattle.comet_syntax.specs.declared.tree.expressions.Extreme.{Extreme}
use Rattle.comet_syntax.specs.declared.tree.expressions.Expression.{Expression}
use Rattle.comet_syntax.specs.declared.tree.expressions.Generators.{Generators}
use Rattle.comet_syntax.specs.declared.tree.declarations.Declaration.{Declaration}
use Rattle.comet_syntax.specs.declared.tree.statements.ForHead.{ForHead}
use Rattle.comet_syntax.specs.declared.tree.statements.Simple.{Simple}
use Rattle.comet_syntax.specs.declared.tree.statements.Watched.{Watched}
use Rattle.comet_syntax.specs.declared.tree.statements.WithMode.{WithMode}
use Rattle.comet_syntax.specs.declared.tree.statements.Statement.{Statement}
use Rattle.comet_syntax.specs.declared.tree.statements.Statement.TheOpen as layers
use Rattle.comet_syntax.specs.declared.tree.statements.Statement.TheVariants as trees
use Rattle.comet_syntax.specs.declared.tree.statements.Statement.TheFolds.{fold-roll-Statement}
use Rattle.comet_syntax.specs.declared.tree.statements.Block.{Block, roll-Block, fold-roll-Block}
use Rattle.comet_syntax.specs.Grammar.Symbols.{statement}
use Rattle.comet_syntax.specs.Grammar.Statements.{statement_semicolon, statement_declaration, statement_simple, statement_return, statement_block, statement_for_all, statement_select}
use Rattle.comet_syntax.specs.Written.Shown.{form, word, Grows}
use Rattle.comet_syntax.specs.Written.Expressions.{written_generators, generators_text}
use Rattle.comet_syntax.specs.Written.Declarations.{whole_text, written_declaration}
use Rattle.comet_syntax.specs.Written.Statements.{statement_text, block_layer, written_statement, written_block, written_simple, statement_by, option_text, unboxed, if_text, while_text, for_head_text, value_text, over_text, select_by_text, neighbor_text, watched_text, with_text, parall_text, block_text}

pub written_empty : (p : Place) → written_statement (trees.Empty p) ≡ statement_by statement_semicolon words.Semicolon p
unfolding written_statement written_block
written_empty p = ap written_statement (sym (trees.rolls-Empty p)) ∙ fold-roll-Statement Grows Grows statement_text block_layer (layers.Empty p)

pub written_declared : (d : Box Declaration Global) → written_statement (trees.Declaration d) ≡ (λ behind. form statement statement_declaration ∷ written_declaration d.value (word words.Semicolon behind))
unfolding written_statement written_block
written_declared d = ap written_statement (sym (trees.rolls-Declaration d)) ∙ fold-roll-Statement Grows Grows statement_text block_layer (layers.Declaration d)

pub written_simple_alone : (s : Simple) → written_statement (trees.Simple s) ≡ (λ behind. form statement statement_simple ∷ written_simple s (word words.Semicolon behind))
unfolding written_statement written_block
written_simple_alone s = ap written_statement (sym (trees.rolls-Simple s)) ∙ fold-roll-Statement Grows Grows statement_text block_layer (layers.Simple s)

pub written_block_alone : (b : Block) → written_statement (trees.Block b) ≡ (λ behind. form statement statement_block ∷ written_block b behind)
unfolding written_statement written_block
written_block_alone b = ap written_statement (sym (trees.rolls-Block b)) ∙ fold-roll-Statement Grows Grows statement_text block_layer (layers.Block b)

pub written_while : (p : Place) (e : Box Expression Global) (b : Box Statement Global) → written_statement (trees.While p e b) ≡ while_text p (whole_text e.value) (written_statement b.value)
unfolding written_statement written_block
written_while p e b = ap written_statement (sym (trees.rolls-While p e b)) ∙ fold-roll-Statement Grows Grows statement_text block_layer (layers.While p e b)

pub written_for : (p : Place) (h : Box ForHead Global) (b : Box Statement Global) → written_statement (trees.For p h b) ≡ for_head_text p h.value (written_statement b.value)
unfolding written_statement written_block
written_for p h b = ap written_statement (sym (trees.rolls-For p h b)) ∙ fold-roll-Statement Grows Grows statement_text block_layer (layers.For p h b)

pub written_for_all : (p : Place) (g : Box Generators Global) (b : Box Statement Global) → written_statement (trees.ForAll p g b) ≡ over_text statement_for_all words.ForAll p (generators_text (written_generators g.value)) (written_statement b.value)
unfolding written_statement written_block
written_for_all p g b = ap written_statement (sym (trees.rolls-ForAll p g b)) ∙ fold-roll-Statement Grows Grows statement_text block_layer (layers.ForAll p g b)

pub written_select : (p : Place) (g : Box Generators Global) (b : Box Statement Global) → written_statement (trees.Select p g b) ≡ over_text statement_select words.Select p (generators_text (written_generators g.value)) (written_statement b.value)
unfolding written_statement written_block
written_select p g b = ap written_statement (sym (trees.rolls-Select p g b)) ∙ fold-roll-Statement Grows Grows statement_text block_layer (layers.Select p g b)

pub written_select_by : (p : Place) (x : Extreme) (g : Box Generators Global) (e : Box Expression Global) (b : Box Statement Global) → written_statement (trees.SelectBy p x g e b) ≡ select_by_text x p (generators_text (written_generators g.value)) (whole_text e.value) (written_statement b.value)
unfolding written_statement written_block
written_select_by p x g e b = ap written_statement (sym (trees.rolls-SelectBy p x g e b)) ∙ fold-roll-Statement Grows Grows statement_text block_layer (layers.SelectBy p x g e b)

pub written_neighbor : (p : Place) (e : Box Expression Global) (n : Name) (b : Box Statement Global) → written_statement (trees.Neighbor p e n b) ≡ neighbor_text p (whole_text e.value) n (written_statement b.value)
unfolding written_statement written_block
written_neighbor p e n b = ap written_statement (sym (trees.rolls-Neighbor p e n b)) ∙ fold-roll-Statement Grows Grows statement_text block_layer (layers.Neighbor p e n b)

pub written_whenever : (p : Place) (w : Box Watched Global) (b : Box Statement Global) → written_statement (trees.Whenever p w b) ≡ watched_text p w.value (written_statement b.value)
unfolding written_statement written_block
written_whenever p w b = ap written_statement (sym (trees.rolls-Whenever p w b)) ∙ fold-roll-Statement Grows Grows statement_text block_layer (layers.Whenever p w b)

pub written_with : (p : Place) (m : WithMode) (n : Name) (b : Box Block Global) → written_statement (trees.With p m n b) ≡ with_text p m n (written_block b.value)
unfolding written_statement written_block
written_with p m n b = ap written_statement (sym (trees.rolls-With p m n b)) ∙ fold-roll-Statement Grows Grows statement_text block_layer (layers.With p m n b)

pub written_parall : (p : Place) (n : Name) (e : Box Expression Global) (b : Box Statement Global) → written_statement (trees.Parall p n e b) ≡ parall_text p n (whole_text e.value) (written_statement b.value)
unfolding written_statement written_block
written_parall p n e b = ap written_statement (sym (trees.rolls-Parall p n e b)) ∙ fold-roll-Statement Grows Grows statement_text block_layer (layers.Parall p n e b)

pub written_return : (p : Place) (e : Option (Box Expression Global)) → written_statement (trees.Return p e) ≡ (λ behind. statement_by statement_return words.Return p (value_text (unboxed e) (word words.Semicolon behind)))
unfolding written_statement written_block
written_return p None = ap written_statement (sym (trees.rolls-Return p None)) ∙ fold-roll-Statement Grows Grows statement_text block_layer (layers.Return p None)
written_return p (Some e) = ap written_statement (sym (trees.rolls-Return p (Some e))) ∙ fold-roll-Statement Grows Grows statement_text block_layer (layers.Return p (Some e))

pub written_if : (p : Place) (e : Box Expression Global) (s : Box Statement Global) (o : Option (Box Statement Global)) → written_statement (trees.If p e s o)
    ≡ if_text p (whole_text e.value) (written_statement s.value) (option_text written_statement (unboxed o))
unfolding written_statement written_block
written_if p e s None = ap written_statement (sym (trees.rolls-If p e s None)) ∙ fold-roll-Statement Grows Grows statement_text block_layer (layers.If p e s None)
written_if p e s (Some o) = ap written_statement (sym (trees.rolls-If p e s (Some o))) ∙ fold-roll-Statement Grows Grows statement_text block_layer (layers.If p e s (Some o))

pub written_block_of : (p : Place) (v : Vec Statement Global) → written_block (roll-Block (record { place = p; statements = v })) ≡ block_text p (map written_statement v.items)
unfolding written_statement written_block
written_block_of p v = fold-roll-Block Grows Grows statement_text block_layer (record { place = p; statements = v })
