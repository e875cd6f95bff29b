-- Each statement is read back, by induction.
use Rattle.std.specs.Prelude.{List, [], ◌∷◌, None, Some, ◌≡◌, map, refl}
use Rattle.std.proofs.Common.{sym, ap, subst}
use Rattle.comet_syntax.specs.declared.token.Word.TheVariants as words
use Rattle.comet_syntax.specs.declared.tree.expressions.Extreme.TheVariants as extremes
use Rattle.comet_syntax.specs.declared.tree.statements.Statement.{Statement, roll-Statement}
use Rattle.comet_syntax.specs.declared.tree.statements.Statement.TheOpen as layers
use Rattle.comet_syntax.specs.declared.tree.statements.Statement.TheFolds.{fold-roll-Statement, map-Statement, map-Block, ind-Statement, ind-Block}
use Rattle.comet_syntax.specs.declared.tree.statements.Block.{Block, roll-Block, fold-roll-Block}
use Rattle.comet_syntax.specs.Grammar.Symbols.{statement, otherwise}
use Rattle.comet_syntax.specs.Grammar.Statements.{statement_block, statement_semicolon, statement_declaration, statement_simple, statement_return, statement_if, statement_while, statement_for, statement_for_all, statement_select, statement_select_min, statement_select_max, statement_neighbor, statement_whenever, statement_with, statement_parall, otherwise_else}
use Rattle.comet_syntax.specs.Written.Shown.{Grows}
use Rattle.comet_syntax.specs.Written.Statements.{unboxed, statement_text, block_layer, written_statement, written_block}
use Rattle.parse_unique.specs.Bare as bares
use Rattle.parse_unique.specs.Bare.{Bare, optional, bare_expression, bare_generators, bare_simple, bare_for_start, bare_declaration, bare_for, bare_watched, bare_statement, bare_block}
use Rattle.parse_unique.proofs.Values.{nothing, tree}
use Rattle.parse_unique.proofs.Listings.{Pushes, ◌⊳◌, signs, marks, names, formed, left_out, EachOf, none, and_one}
use Rattle.parse_unique.proofs.Good.{put_postfix}
use Rattle.parse_unique.proofs.Expressions.{IsTree}
use Rattle.parse_unique.proofs.Trees.{good_expression}
use Rattle.parse_unique.proofs.Declarations.{option_is, cong3, expression_puts, declaration_puts}
use Rattle.parse_unique.proofs.Statements.{simple_puts, parentheses_puts, value_puts, for_start_puts, for_step_puts, events_same, events_puts, mode_puts, over_puts, block_puts}

abbrev OfStatement : Statement → Type 0
OfStatement s = IsTree (written_statement s) (bare_statement s)

abbrev OfBlock : Block → Type 0
OfBlock b = IsTree (written_block b) (bare_block b)

-- a statement, and that it is so of it
abbrev S : Type 0
S = (s : Statement) × OfStatement s

abbrev B : Type 0
B = (b : Block) × OfBlock b

both : {w v : Grows} {b c : Bare} → w ≡ v → b ≡ c → IsTree v c → IsTree w b
both {w} {v} {b} {c} e d p = subst (λ x. IsTree x b) (sym e) (subst (λ x. IsTree v x) (sym d) p)

each_statement : (all : List S) → EachOf IsTree (map written_statement (map (λ s. s.0) all)) (map bare_statement (map (λ s. s.0) all))
each_statement [] = none
each_statement (s ∷ all) = and_one s.1 (each_statement all)

rolled : (z : layers.Statement-F Statement Block)
    → IsTree (statement_text (map-Statement Statement Block Grows Grows written_statement written_block z)) (bares.statement_layer (map-Statement Statement Block Bare Bare bare_statement bare_block z))
    → OfStatement (roll-Statement z)
unfolding written_statement written_block bare_statement bare_block
rolled z p = both (fold-roll-Statement Grows Grows statement_text block_layer z) (fold-roll-Statement Bare Bare bares.statement_layer bares.block_layer z) p

block_rolled : (z : layers.Block-F Statement Block)
    → IsTree (block_layer (map-Block Statement Block Grows Grows written_statement written_block z)) (bares.block_layer (map-Block Statement Block Bare Bare bare_statement bare_block z))
    → OfBlock (roll-Block z)
unfolding written_statement written_block bare_statement bare_block
block_rolled z p = both (fold-roll-Block Grows Grows statement_text block_layer z) (fold-roll-Block Bare Bare bares.statement_layer bares.block_layer z) p

abbrev alone : layers.Statement-F S B → layers.Statement-F Statement Block
alone = map-Statement S B Statement Block (λ s. s.0) (λ b. b.0)

in_statement : (y : layers.Statement-F S B) → OfStatement (roll-Statement (alone y))
in_statement (layers.Block b) = rolled (alone (layers.Block b)) (formed statement statement_block (tree (Bare.block_statement (bare_block b.0))) (λ k. refl) b.1 (λ s. refl))
in_statement (layers.Empty p) = rolled (alone (layers.Empty p)) (formed statement statement_semicolon (tree (Bare.empty p)) (λ k. refl) (marks words.Semicolon p) (λ s. refl))
in_statement (layers.Declaration d) = rolled (alone (layers.Declaration d)) (formed statement statement_declaration (tree (Bare.declaration (bare_declaration d.value))) (λ k. refl) (declaration_puts d.value ⊳ signs words.Semicolon) (λ s. refl))
in_statement (layers.Simple x) = rolled (alone (layers.Simple x)) (formed statement statement_simple (tree (Bare.simple (bare_simple x))) (λ k. refl) (simple_puts x ⊳ signs words.Semicolon) (λ s. refl))
in_statement (layers.Return p e) = rolled (alone (layers.Return p e)) (formed statement statement_return (tree (Bare.return_value p (optional bare_expression (unboxed e)))) (λ k. refl)
    (marks words.Return p ⊳ (value_puts (unboxed e) ⊳ signs words.Semicolon)) (λ s. ap (λ x. tree (Bare.return_value p x) ∷ s) (option_is bare_expression (unboxed e))))
in_statement (layers.If p t y None) = rolled (alone (layers.If p t y None)) (formed statement statement_if (tree (Bare.when p (bare_expression t.value) (bare_statement y.value.0) Bare.left_out)) (λ k. refl)
    (marks words.If p ⊳ (parentheses_puts (expression_puts t.value) ⊳ (y.value.1 ⊳ left_out otherwise nothing (λ k. refl) (λ s. refl)))) (λ s. refl))
in_statement (layers.If p t y (Some n)) = rolled (alone (layers.If p t y (Some n))) (formed statement statement_if (tree (Bare.when p (bare_expression t.value) (bare_statement y.value.0) (Bare.given (bare_statement n.value.0)))) (λ k. refl)
    (marks words.If p ⊳ (parentheses_puts (expression_puts t.value) ⊳ (y.value.1 ⊳ formed otherwise otherwise_else (tree (bare_statement n.value.0)) (λ k. refl) (signs words.Else ⊳ n.value.1) (λ s. refl)))) (λ s. refl))
in_statement (layers.While p t b) = rolled (alone (layers.While p t b)) (formed statement statement_while (tree (Bare.while_true p (bare_expression t.value) (bare_statement b.value.0))) (λ k. refl)
    (marks words.While p ⊳ (parentheses_puts (expression_puts t.value) ⊳ b.value.1)) (λ s. refl))
in_statement (layers.For p h b) = rolled (alone (layers.For p h b))
    (formed statement statement_for (tree (bare_for p h.value (bare_statement b.value.0))) (λ k. refl)
    (marks words.For p ⊳ (signs words.LeftParenthesis ⊳ (for_start_puts h.value.start ⊳ (signs words.Semicolon ⊳ (value_puts h.value.test ⊳ (signs words.Semicolon ⊳ (for_step_puts h.value.step ⊳ (signs words.RightParenthesis ⊳ b.value.1))))))))
    (λ s. cong3 (λ u v w. tree (Bare.for_each_step p u v w (bare_statement b.value.0)) ∷ s) (option_is bare_for_start h.value.start) (option_is bare_expression h.value.test) (option_is bare_simple h.value.step)))
in_statement (layers.ForAll p g b) = rolled (alone (layers.ForAll p g b)) (formed statement statement_for_all (tree (Bare.for_all p (bare_generators g.value) (bare_statement b.value.0))) (λ k. refl)
    (marks words.ForAll p ⊳ (over_puts g.value ⊳ b.value.1)) (λ s. refl))
in_statement (layers.Select p g b) = rolled (alone (layers.Select p g b)) (formed statement statement_select (tree (Bare.select p (bare_generators g.value) (bare_statement b.value.0))) (λ k. refl)
    (marks words.Select p ⊳ (over_puts g.value ⊳ b.value.1)) (λ s. refl))
in_statement (layers.SelectBy p extremes.Min g e b) = rolled (alone (layers.SelectBy p extremes.Min g e b))
    (formed statement statement_select_min (tree (Bare.select_by p extremes.Min (bare_generators g.value) (bare_expression e.value) (bare_statement b.value.0))) (λ k. refl)
    (marks words.SelectMin p ⊳ (over_puts g.value ⊳ (parentheses_puts (expression_puts e.value) ⊳ b.value.1))) (λ s. refl))
in_statement (layers.SelectBy p extremes.Max g e b) = rolled (alone (layers.SelectBy p extremes.Max g e b))
    (formed statement statement_select_max (tree (Bare.select_by p extremes.Max (bare_generators g.value) (bare_expression e.value) (bare_statement b.value.0))) (λ k. refl)
    (marks words.SelectMax p ⊳ (over_puts g.value ⊳ (parentheses_puts (expression_puts e.value) ⊳ b.value.1))) (λ s. refl))
in_statement (layers.Neighbor p e n b) = rolled (alone (layers.Neighbor p e n b)) (formed statement statement_neighbor (tree (Bare.neighbor p (bare_expression e.value) n (bare_statement b.value.0))) (λ k. refl)
    (marks words.Neighbor p ⊳ (signs words.LeftParenthesis ⊳ (expression_puts e.value ⊳ (signs words.Comma ⊳ (names n ⊳ (signs words.RightParenthesis ⊳ b.value.1)))))) (λ s. refl))
in_statement (layers.Whenever p w b) = rolled (alone (layers.Whenever p w b)) (formed statement statement_whenever (tree (bare_watched p w.value (bare_statement b.value.0))) (λ k. refl)
    (marks words.Whenever p ⊳ (put_postfix (good_expression w.value.variable) ⊳ (signs words.At ⊳ (names w.value.event ⊳ (parentheses_puts (events_puts w.value.names) ⊳ b.value.1)))))
    (λ s. ap (λ x. tree (Bare.whenever p (bare_expression w.value.variable) w.value.event x (bare_statement b.value.0)) ∷ s) (events_same w.value.names)))
in_statement (layers.With p m n b) = rolled (alone (layers.With p m n b)) (formed statement statement_with (tree (Bare.with_mode p m n (bare_block b.value.0))) (λ k. refl)
    (marks words.With p ⊳ (mode_puts m ⊳ (parentheses_puts (names n) ⊳ b.value.1))) (λ s. refl))
in_statement (layers.Parall p n e b) = rolled (alone (layers.Parall p n e b)) (formed statement statement_parall (tree (Bare.parall p n (bare_expression e.value) (bare_statement b.value.0))) (λ k. refl)
    (marks words.Parall p ⊳ (signs words.LeftParenthesis ⊳ (names n ⊳ (signs words.In ⊳ (expression_puts e.value ⊳ (signs words.RightParenthesis ⊳ b.value.1)))))) (λ s. refl))

abbrev alone_block : layers.Block-F S B → layers.Block-F Statement Block
alone_block = map-Block S B Statement Block (λ s. s.0) (λ b. b.0)

in_block : (y : layers.Block-F S B) → OfBlock (roll-Block (alone_block y))
in_block y = block_rolled (alone_block y) (block_puts y.place (each_statement y.statements.items))

pub statement_puts : (s : Statement) → Pushes (written_statement s) (tree (bare_statement s) ∷ [])
statement_puts = ind-Statement OfStatement OfBlock (λ x y is. subst (λ z. OfStatement (roll-Statement z)) is (in_statement y)) (λ x y is. subst (λ z. OfBlock (roll-Block z)) is (in_block y))

pub whole_block_puts : (b : Block) → Pushes (written_block b) (tree (bare_block b) ∷ [])
whole_block_puts = ind-Block OfStatement OfBlock (λ x y is. subst (λ z. OfStatement (roll-Statement z)) is (in_statement y)) (λ x y is. subst (λ z. OfBlock (roll-Block z)) is (in_block y))
