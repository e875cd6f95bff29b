-- A tree is judged as it is without its pointers: statements, functions and the parts of programs.
use Rattle.std.specs.Prelude.{ℕ, Bool, true, false, List, [], ◌∷◌, Option, None, Some, ◌≡◌, map, refl, option_map, is_some}
use Rattle.std.proofs.Common.{sym, ◌∙◌, ap, subst}
use Rattle.cbl_base.specs.declared.place.Place.{Place}
use Rattle.comet_syntax.specs.declared.tree.expressions.Expression.{Expression}
use Rattle.comet_syntax.specs.declared.tree.expressions.Name.{Name}
use Rattle.comet_syntax.specs.declared.tree.statements.ForStart.{ForStart}
use Rattle.comet_syntax.specs.declared.tree.statements.ForHead.{ForHead}
use Rattle.comet_syntax.specs.declared.tree.statements.Watched.{Watched}
use Rattle.comet_syntax.specs.declared.tree.statements.Simple.{Simple}
use Rattle.comet_syntax.specs.declared.tree.statements.Statement.{Statement, roll-Statement}
use Rattle.comet_syntax.specs.declared.tree.statements.Statement.TheOpen as layers
use Rattle.comet_syntax.specs.declared.tree.statements.Statement.TheFolds.{fold-roll-Statement, map-Statement, map-Block, ind-Statement, ind-Block}
use Rattle.comet_syntax.specs.declared.tree.statements.Block.{Block, roll-Block, fold-Block, fold-roll-Block, fold_out-Block}
use Rattle.comet_syntax.specs.declared.tree.program.Function.{Function}
use Rattle.comet_syntax.specs.declared.tree.program.Program.{Program}
use Rattle.comet_syntax.specs.declared.tree.program.TopPart.{TopPart}
use Rattle.comet_syntax.specs.declared.tree.program.TopPart.TheVariants as tops
use Rattle.comet_syntax.specs.Written.Statements.{unboxed}
use Rattle.checked_tree.specs.Tasks.{Whole}
use Rattle.type_scopes.specs.Functions.{nothing_known}
use Rattle.type_scopes.specs.State.{Check}
use Rattle.type_expressions.specs.Expressions.{Judge, judge, judge_generators, is_one}
use Rattle.type_simples.specs.Simples.{simple_form, return_form}
use Rattle.type_heads.specs.Heads.{Does, deed_form, acted_form, head_form, counter_form, step_part, watched_form}
use Rattle.type_statements.specs.Statements.{within_own, opened_tasks, if_form, if_else_form, while_form, for_form, for_within, for_all_form, select_form, select_by_form, neighbor_form, whenever_form, with_form, parall_form, statement_layer, block_layer, statement_of, block_of}
use Rattle.comet_types.specs.Functions.{gives_layer, none_gives, gives_value, first_gives, is_single, function_form, named_form, opened_form, function_within, signature_of}
use Rattle.comet_types.specs.Program.{part_form, next_part, no_part, program_form, verdict_of, judged}
use Rattle.parse_unique.specs.Bare as bares
use Rattle.parse_unique.specs.Bare.{Bare, optional, bare_expression, bare_for_start, bare_simple, bare_statement, bare_block, bare_top, bare_function, bare_program, SameProgram}
use Rattle.parse_unique.proofs.Levels.{cong2}
use Rattle.parse_unique.proofs.Declarations.{cong3}
use Rattle.type_trees.proofs.Works.{if_by, Count, counter_by, step_by, for_by, whenever_by, single_by, function_by, statement_part, function_part, no_effect}
use Rattle.type_trees.proofs.Senses.{Sense, sense}
use Rattle.type_trees.proofs.Expressions.{expression_is, generators_is}
use Rattle.type_trees.proofs.Declarations.{only_is, declaration_is, place_is, simple_is, simple_perhaps_is}

-- the head of a `for`
abbrev count_of : ForStart → Count
count_of x = record { name = x.name; start = judge x.value }

counter_is : (o : Option ForStart) → (sense (optional bare_for_start o)).counter ≡ option_map count_of o
counter_is None = refl
counter_is (Some x) = ap (λ j. Some (count x.name j)) (expression_is x.value)
  where
    count : Name → Judge → Count
    count n j = record { name = n; start = j }

counter_same : (o : Option ForStart) → counter_by (option_map count_of o) ≡ counter_form o
unfolding counter_form
counter_same None = refl
counter_same (Some x) = refl

step_same : (place : Place) (holds : Bool) (o : Option Simple) → step_by place holds (option_map simple_form o) ≡ step_part place holds o
unfolding step_part
step_same place holds None = refl
step_same place holds (Some x) = refl

for_same : (place : Place) (start : Option ForStart) (test : Option Expression) (step : Option Simple) (body : Does)
    → for_by place (option_map count_of start) (option_map judge test) (option_map simple_form step) body ≡ for_form place (record { start = start; test = test; step = step }) body
unfolding for_form for_within head_form counter_form step_part
for_same place None test None body = refl
for_same place None test (Some x) body = refl
for_same place (Some c) test None body = refl
for_same place (Some c) test (Some x) body = refl

for_is : (place : Place) (h : ForHead) (body : Does)
    → for_by place (sense (optional bare_for_start h.start)).counter (sense (optional bare_expression h.test)).only (sense (optional bare_simple h.step)).acts_perhaps body ≡ for_form place h body
for_is place h body = cong3 (λ c t x. for_by place c t x body) (counter_is h.start) (only_is h.test) (simple_perhaps_is h.step) ∙ for_same place h.start h.test h.step body

whenever_is : (place : Place) (w : Watched) (body : Does) → whenever_by place (sense (bare_expression w.variable)).judge w.event w.names body ≡ whenever_form place w body
unfolding whenever_form watched_form
whenever_is place w body = ap (λ j. whenever_by place j w.event w.names body) (expression_is w.variable)

-- whether a value is returned
given_is : (o : Option Expression) → is_some (sense (optional bare_expression o)).only ≡ is_some o
given_is None = refl
given_is (Some e) = refl

-- what a statement is, and whether it returns a value
record Same (s : Statement) : Type 0 where
  pub does : (sense (bare_statement s)).does ≡ statement_of s
  pub gives : (sense (bare_statement s)).gives ≡ gives_value s

record SameBlock (b : Block) : Type 0 where
  pub does : (sense (bare_block b)).does ≡ block_of b

abbrev S : Type 0
S = (s : Statement) × Same s

abbrev B : Type 0
B = (b : Block) × SameBlock b

each_does : (all : List S) → (sense (bares.listed (map bare_statement (map (λ s. s.0) all)))).all_do ≡ map statement_of (map (λ s. s.0) all)
each_does [] = refl
each_does (s ∷ all) = cong2 (λ x y. x ∷ y) s.1.does (each_does all)

rolled : (z : layers.Statement-F Statement Block)
    → (sense (bares.statement_layer (map-Statement Statement Block Bare Bare bare_statement bare_block z))).does ≡ statement_layer (map-Statement Statement Block Does Does statement_of block_of z)
    → (sense (bares.statement_layer (map-Statement Statement Block Bare Bare bare_statement bare_block z))).gives ≡ gives_layer (map-Statement Statement Block Bool Bool gives_value (fold-Block Bool Bool gives_layer none_gives) z)
    → Same (roll-Statement z)
unfolding statement_of block_of bare_statement bare_block gives_value
rolled z q r = record {
  does = ap (λ b. (sense b).does) (fold-roll-Statement Bare Bare bares.statement_layer bares.block_layer z) ∙ (q ∙ sym (fold-roll-Statement Does Does statement_layer block_layer z));
  gives = ap (λ b. (sense b).gives) (fold-roll-Statement Bare Bare bares.statement_layer bares.block_layer z) ∙ (r ∙ sym (fold-roll-Statement Bool Bool gives_layer none_gives z));
}

block_rolled : (z : layers.Block-F Statement Block)
    → (sense (bares.block_layer (map-Block Statement Block Bare Bare bare_statement bare_block z))).does ≡ block_layer (map-Block Statement Block Does Does statement_of block_of z)
    → SameBlock (roll-Block z)
unfolding statement_of block_of bare_statement bare_block
block_rolled z q = record {
  does = ap (λ b. (sense b).does) (fold-roll-Block Bare Bare bares.statement_layer bares.block_layer z) ∙ (q ∙ sym (fold-roll-Block Does Does statement_layer block_layer z));
}

abbrev alone : layers.Statement-F S B → layers.Statement-F Statement Block
alone = map-Statement S B Statement Block (λ s. s.0) (λ b. b.0)

in_statement : (y : layers.Statement-F S B) → Same (roll-Statement (alone y))
in_statement (layers.Block b) = rolled (alone (layers.Block b)) (ap within_own b.1.does) refl
in_statement (layers.Empty p) = rolled (alone (layers.Empty p)) refl refl
in_statement (layers.Declaration d) = rolled (alone (layers.Declaration d)) (cong2 deed_form (place_is d.value) (declaration_is d.value)) refl
in_statement (layers.Simple s) = rolled (alone (layers.Simple s)) (ap acted_form (simple_is s)) refl
in_statement (layers.Return p None) = rolled (alone (layers.Return p None)) refl refl
in_statement (layers.Return p (Some e)) = rolled (alone (layers.Return p (Some e))) (ap (λ j. deed_form p (return_form p (Some j))) (expression_is e.value)) refl
in_statement (layers.If p t y None) = rolled (alone (layers.If p t y None)) (cong2 (if_form p) (expression_is t.value) y.value.1.does) refl
in_statement (layers.If p t y (Some n)) = rolled (alone (layers.If p t y (Some n))) (cong3 (if_else_form p) (expression_is t.value) y.value.1.does n.value.1.does) refl
in_statement (layers.While p t b) = rolled (alone (layers.While p t b)) (cong2 (while_form p) (expression_is t.value) b.value.1.does) refl
in_statement (layers.For p h b) = rolled (alone (layers.For p h b)) (for_is p h.value (sense (bare_statement b.value.0)).does ∙ ap (for_form p h.value) b.value.1.does) refl
in_statement (layers.ForAll p g b) = rolled (alone (layers.ForAll p g b)) (cong2 (for_all_form p) (generators_is g.value) b.value.1.does) refl
in_statement (layers.Select p g b) = rolled (alone (layers.Select p g b)) (cong2 (select_form p) (generators_is g.value) b.value.1.does) refl
in_statement (layers.SelectBy p e g k b) = rolled (alone (layers.SelectBy p e g k b)) (cong3 (select_by_form p e) (generators_is g.value) (expression_is k.value) b.value.1.does) refl
in_statement (layers.Neighbor p k n b) = rolled (alone (layers.Neighbor p k n b)) (cong2 (λ j d. neighbor_form p j n d) (expression_is k.value) b.value.1.does) refl
in_statement (layers.Whenever p w b) = rolled (alone (layers.Whenever p w b)) (whenever_is p w.value (sense (bare_statement b.value.0)).does ∙ ap (whenever_form p w.value) b.value.1.does) refl
in_statement (layers.With p m n b) = rolled (alone (layers.With p m n b)) (ap (with_form p m n) b.value.1.does) refl
in_statement (layers.Parall p n e b) = rolled (alone (layers.Parall p n e b)) (cong2 (λ j d. parall_form p n j d) (expression_is e.value) b.value.1.does) refl

abbrev alone_block : layers.Block-F S B → layers.Block-F Statement Block
alone_block = map-Block S B Statement Block (λ s. s.0) (λ b. b.0)

in_block : (y : layers.Block-F S B) → SameBlock (roll-Block (alone_block y))
in_block y = block_rolled (alone_block y) (ap (opened_tasks y.place) (each_does y.statements.items))

statement_is : (s : Statement) → Same s
statement_is = ind-Statement Same SameBlock (λ x y is. subst (λ z. Same (roll-Statement z)) is (in_statement y)) (λ x y is. subst (λ z. SameBlock (roll-Block z)) is (in_block y))

block_is : (b : Block) → SameBlock b
block_is = ind-Block Same SameBlock (λ x y is. subst (λ z. Same (roll-Statement z)) is (in_statement y)) (λ x y is. subst (λ z. SameBlock (roll-Block z)) is (in_block y))

-- functions
all_give : (all : List Statement) → (sense (bares.listed (map bare_statement all))).all_give ≡ map gives_value all
all_give [] = refl
all_give (s ∷ all) = cong2 (λ x y. x ∷ y) (statement_is s).gives (all_give all)

single_same : (all : List Statement) → single_by (map gives_value all) ≡ is_single all
single_same [] = refl
single_same (s ∷ []) = refl
single_same (s ∷ t ∷ all) = refl

block_opens : (b : Block) → bare_block b ≡ bares.block b.place (bares.listed (map bare_statement b.statements.items))
unfolding bare_statement bare_block
block_opens b = fold_out-Block Bare Bare bares.statement_layer bares.block_layer b

single_is : (b : Block) → (sense (bare_block b)).gives ≡ is_single b.statements.items
single_is b = ap (λ x. (sense x).gives) (block_opens b) ∙ (ap single_by (all_give b.statements.items) ∙ single_same b.statements.items)

function_is : (f : Function) → function_by f.place f.result f.name f.parameters.items (sense (bare_block f.body)).does (sense (bare_block f.body)).gives ≡ function_form f
unfolding function_form named_form opened_form function_within
function_is f = cong2 (λ d b. function_by f.place f.result f.name f.parameters.items d b) (block_is f.body).does (single_is f.body)

-- programs
top_is : (t : TopPart) → (sense (bare_top t)).task ≡ part_form t
unfolding part_form
top_is (tops.Import n) = refl
top_is (tops.Include t) = refl
top_is (tops.Function f) = ap function_part (function_is f.value)
top_is (tops.Statement s) = ap statement_part (statement_is s).does

pub tops_are : (all : List TopPart) → (sense (bares.listed (map bare_top all))).tasks ≡ map part_form all
tops_are [] = refl
tops_are (t ∷ all) = cong2 (λ x y. x ∷ y) (top_is t) (tops_are all)
