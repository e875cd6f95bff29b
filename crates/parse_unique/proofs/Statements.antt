-- Each simple statement and each statement is read back.
use Rattle.std.specs.Prelude.{ℕ, Bool, true, false, List, [], ◌∷◌, Option, None, Some, ◌≡◌, ◌≤◌, map, refl}
use Rattle.std.proofs.Common.{sym, ◌∙◌, ap, subst, arith}
use Rattle.cbl_base.specs.declared.place.Place.{Place}
use Rattle.comet_syntax.specs.declared.token.TokenKind.TheVariants as kinds
use Rattle.comet_syntax.specs.declared.token.Word.TheVariants as words
use Rattle.comet_syntax.specs.declared.tree.expressions.Name.{Name}
use Rattle.comet_syntax.specs.declared.tree.expressions.Expression.{Expression}
use Rattle.comet_syntax.specs.declared.tree.expressions.Generators.{Generators}
use Rattle.comet_syntax.specs.declared.tree.expressions.Extreme.TheVariants as extremes
use Rattle.comet_syntax.specs.declared.tree.statements.Events.{Events}
use Rattle.comet_syntax.specs.declared.tree.statements.ForStart.{ForStart}
use Rattle.comet_syntax.specs.declared.tree.statements.Item.{Item}
use Rattle.comet_syntax.specs.declared.tree.statements.Item.TheVariants as items
use Rattle.comet_syntax.specs.declared.tree.statements.NewObject.{NewObject}
use Rattle.comet_syntax.specs.declared.tree.statements.Simple.{Simple}
use Rattle.comet_syntax.specs.declared.tree.statements.Simple.TheVariants as simples
use Rattle.comet_syntax.specs.declared.tree.statements.Step.{Step}
use Rattle.comet_syntax.specs.declared.tree.statements.Step.TheVariants as steps
use Rattle.comet_syntax.specs.declared.tree.statements.WithMode.{WithMode}
use Rattle.comet_syntax.specs.declared.tree.statements.WithMode.TheVariants as modes
use Rattle.comet_syntax.specs.declared.tree.statements.WriteOperator.{WriteOperator}
use Rattle.comet_syntax.specs.declared.tree.statements.WriteOperator.TheVariants as writes
use Rattle.comet_syntax.specs.Grammar.Statements.{block_left_brace, statements_statement, optional_value_expression, for_start_int, for_step_simple, events_int, with_mode_atomic, with_mode_delay, simple_first_name, simple_literal, simple_extreme, simple_cout, simple_call, named_simple_equal, named_simple_called, new_value_new, new_value_expression, write_equal, write_plus_equal, write_minus_equal, write_assign, write_arrow, write_swap, write_plus_plus, write_minus_minus, first_name_name, item_expression, item_string, item_endl, items_tail_less_less}
use Rattle.comet_syntax.specs.Grammar.Symbols.{block, statements, optional_value, for_start, for_step, events, with_mode, simple, named_simple, new_value, write, first_name, item, items_tail, extreme}
use Rattle.comet_syntax.specs.Written.Shown.{Shown, form, plain, Grows, mark}
use Rattle.comet_syntax.specs.Written.Expressions.{Head, by_name, by_opening, by_literal, by_brace, by_extreme, by_other, Writing, extreme_form, written_generators, generators_text}
use Rattle.comet_syntax.specs.Written.Statements.{simple_head, target_text, equal_head, set_text, write_text, step_text, written_item, more_item, items_text, new_text, written_simple, in_parentheses, value_text, for_start_text, for_step_text, events_text, mode_text, more_statement, block_text}
use Rattle.parse_unique.specs.Bare as bares
use Rattle.parse_unique.specs.Bare.{Bare, optional, bare_expression, bare_generators, bare_arguments, bare_item, bare_new, bare_simple, bare_for_start}
use Rattle.parse_unique.proofs.Values.{Value, sign, marked, nothing, tree, tail, of_name, mode_is, events_are, events_in, Stack, named_simple_step, part_step, valued, ends}
use Rattle.parse_unique.proofs.Listings.{Fine, more_ends, fine_map, Pushes, steady, ◌⊳◌, signs, marks, names, shows, formed, left_out, Conses, formed_cons, EachOf, none, and_one, list_rest, rests}
use Rattle.parse_unique.proofs.Levels.{Starts, at_behind}
use Rattle.parse_unique.proofs.Good.{NameAlone, Good, put_postfix}
use Rattle.parse_unique.proofs.Expressions.{IsTree, generators_puts, each_map}
use Rattle.parse_unique.proofs.Trees.{good_expression, good_generators}
use Rattle.parse_unique.proofs.Declarations.{optionally, expression_puts, made_puts}

-- simple statements
simple_starts : (k : ℕ) (h : Head) (Y : List Shown) (b : Bare) (f : Bare → Bare) (z : Stack) → k ≤ ends Y → Starts k h Y b (tail f ∷ z) → Fine k (ends (simple_head h Y)) (valued (simple_head h Y) ≡ tree (f b) ∷ z)
simple_starts k (by_name n) Y b f z le a = fine_map (λ o.
    ap (λ v. part_step simple simple_first_name (marked (kinds.Name n.text) n.place ∷ part_step named_simple named_simple_called v)) o.2
    ∙ (ap (λ x. part_step simple simple_first_name (marked (kinds.Name n.text) n.place ∷ named_simple_step x (o.0 ∷ o.1 ∷ tail f ∷ z))) o.4
    ∙ ap (λ x. tree (f x) ∷ z) o.3)) a
simple_starts k (by_opening (by_literal text)) Y b f z le a = fine_map (λ q. ap (λ v. part_step simple simple_literal v) q.2 ∙ ap (λ x. tree (f x) ∷ z) q.3) a
simple_starts k (by_opening (by_brace p text)) Y b f z le a = more_ends (omega arith)
simple_starts k (by_opening (by_extreme extremes.Min p in_pair apart)) Y b f z le a =
    fine_map (λ q. ap (λ v. part_step simple simple_extreme (part_step extreme (extreme_form extremes.Min) (marked (kinds.Word words.Min) p ∷ sign (kinds.Word words.LeftParenthesis) ∷ v))) q.5 ∙ ap (λ x. tree (f x) ∷ z) q.6) a.1
simple_starts k (by_opening (by_extreme extremes.Max p in_pair apart)) Y b f z le a =
    fine_map (λ q. ap (λ v. part_step simple simple_extreme (part_step extreme (extreme_form extremes.Max) (marked (kinds.Word words.Max) p ∷ sign (kinds.Word words.LeftParenthesis) ∷ v))) q.5 ∙ ap (λ x. tree (f x) ∷ z) q.6) a.1
simple_starts k (by_opening (by_other text)) Y b f z le a = more_ends (omega arith)

target_puts : {w : Writing} {b : Bare} {u : Grows} {f : Bare → Bare} → Good w b → Pushes u (tail f ∷ []) → Pushes (λ X. target_text w (u X)) (tree (f b) ∷ [])
target_puts {w} {b} {u} {f} g p = record {
  push = λ X.
      let i = steady p X in
      let j = g.rest_steady (u X) in
      simple_starts (ends X) w.head (w.operand_rest (u X)) b f (valued X) (omega arith)
      (at_behind 0 w.head (w.operand_rest (u X)) b (tail f ∷ valued X) (valued (u X)) (p.push X) (g.operand (u X)));
}

equal_puts : {u : Grows} (n : Name) (f : Name → Bare) → Pushes u (of_name f ∷ []) → Pushes (λ X. equal_head (by_name n) (u X)) (tree (f n) ∷ [])
equal_puts n f p = formed simple simple_first_name (tree (f n)) (λ k. refl)
    (formed first_name first_name_name (marked (kinds.Name n.text) n.place) (λ k. refl) (names n) (λ s. refl)
    ⊳ formed named_simple named_simple_equal (of_name f) (λ k. refl) (signs words.Equal ⊳ p) (λ s. refl))
    (λ s. refl)

set_puts : {w : Writing} {b c : Bare} {value : Grows} (i : Bool) → NameAlone i w.head b → Good w b → Pushes value (tree c ∷ []) → Pushes (set_text i w value) (tree (Bare.write b writes.Set c) ∷ [])
set_puts {w} {b} {c} {value} true a g p =
    subst (λ h. Pushes (λ X. equal_head h (form new_value new_value_expression ∷ value X)) (tree (Bare.write b writes.Set c) ∷ [])) (sym a.1)
    (subst (λ x. Pushes (λ X. equal_head (by_name a.0) (form new_value new_value_expression ∷ value X)) (tree (Bare.write x writes.Set c) ∷ [])) (sym a.2)
    (equal_puts a.0 (λ n. Bare.write (Bare.name n) writes.Set c) (formed new_value new_value_expression (of_name (λ n. Bare.write (Bare.name n) writes.Set c)) (λ k. refl) p (λ s. refl))))
set_puts {c = c} false a g p = target_puts g (formed write write_equal (tail (λ x. Bare.write x writes.Set c)) (λ k. refl) (signs words.Equal ⊳ p) (λ s. refl))

write_puts : {w : Writing} {b c : Bare} {value : Grows} (o : WriteOperator) → Good w b → Pushes value (tree c ∷ []) → Pushes (write_text o w value) (tree (Bare.write b o c) ∷ [])
write_puts {w = w} writes.Set g p = set_puts w.is_name g.alone g p
write_puts {c = c} writes.Add g p = target_puts g (formed write write_plus_equal (tail (λ x. Bare.write x writes.Add c)) (λ k. refl) (signs words.PlusEqual ⊳ p) (λ s. refl))
write_puts {c = c} writes.Subtract g p = target_puts g (formed write write_minus_equal (tail (λ x. Bare.write x writes.Subtract c)) (λ k. refl) (signs words.MinusEqual ⊳ p) (λ s. refl))
write_puts {c = c} writes.Assign g p = target_puts g (formed write write_assign (tail (λ x. Bare.write x writes.Assign c)) (λ k. refl) (signs words.Assign ⊳ p) (λ s. refl))
write_puts {c = c} writes.Define g p = target_puts g (formed write write_arrow (tail (λ x. Bare.write x writes.Define c)) (λ k. refl) (signs words.Arrow ⊳ p) (λ s. refl))

step_puts : {w : Writing} {b : Bare} (s : Step) → Good w b → Pushes (step_text s w) (tree (Bare.step b s) ∷ [])
step_puts steps.Increment g = target_puts g (formed write write_plus_plus (tail (λ x. Bare.step x steps.Increment)) (λ k. refl) (signs words.PlusPlus) (λ s. refl))
step_puts steps.Decrement g = target_puts g (formed write write_minus_minus (tail (λ x. Bare.step x steps.Decrement)) (λ k. refl) (signs words.MinusMinus) (λ s. refl))

item_puts : (i : Item) → Pushes (written_item i) (tree (bare_item i) ∷ [])
item_puts (items.Expression e) = formed item item_expression (tree (Bare.value (bare_expression e))) (λ k. refl) (expression_puts e) (λ s. refl)
item_puts (items.Str t) = formed item item_string (tree (Bare.text t)) (λ k. refl) (shows (plain (kinds.Str t)) (sign (kinds.Str t)) (λ X. refl) (λ X. refl)) (λ s. refl)
item_puts items.EndLine = formed item item_endl (tree Bare.end_line) (λ k. refl) (signs words.Endl) (λ s. refl)

more_items : (i : List Item) → EachOf (λ x b. Conses (more_item x) b) i (map bare_item i)
more_items [] = none
more_items (x ∷ i) = and_one (formed_cons items_tail items_tail_less_less (bare_item x) (λ k. refl) (signs words.LessLess ⊳ item_puts x) (λ l s. refl)) (more_items i)

print_puts : (p : Place) (i : List Item) → Pushes (λ X. form simple simple_cout ∷ mark words.Cout p (items_text i X)) (tree (Bare.print p (bares.listed (map bare_item i))) ∷ [])
print_puts p [] = record { push = λ X. more_ends (omega arith) }
print_puts p (x ∷ i) = formed simple simple_cout (tree (Bare.print p (Bare.more (bare_item x) (bares.listed (map bare_item i))))) (λ k. refl)
    (marks words.Cout p ⊳ (signs words.LessLess ⊳ (item_puts x ⊳ rests more_item (more_items i) (λ X. form items_tail [] ∷ X) (left_out items_tail nothing (λ k. refl) (λ s. refl)))))
    (λ s. ap (λ y. tree (Bare.print p (Bare.more (bare_item x) y)) ∷ s) (list_rest (map bare_item i)))

new_puts : (n : NewObject) → Pushes (new_text n) (tree (bare_new n) ∷ [])
new_puts n = equal_puts n.name (λ m. Bare.new m n.class (bare_arguments n.arguments.items))
    (formed new_value new_value_new (of_name (λ m. Bare.new m n.class (bare_arguments n.arguments.items))) (λ k. refl) (signs words.New ⊳ made_puts n.class n.arguments.items) (λ s. refl))

pub simple_puts : (x : Simple) → Pushes (written_simple x) (tree (bare_simple x) ∷ [])
simple_puts (simples.Write t o e) = write_puts o (good_expression t.value) (expression_puts e.value)
simple_puts (simples.Swap l r) = target_puts (good_expression l.value)
    (formed write write_swap (tail (λ x. Bare.swap x (bare_expression r.value))) (λ k. refl) (signs words.Swap ⊳ put_postfix (good_expression r.value)) (λ s. refl))
simple_puts (simples.Step t x) = step_puts x (good_expression t.value)
simple_puts (simples.Postfix e) = target_puts (good_expression e) (left_out write (tail Bare.alone) (λ k. refl) (λ s. refl))
simple_puts (simples.New n) = new_puts n.value
simple_puts (simples.Print p i) = print_puts p i.items
simple_puts (simples.Call p e) = formed simple simple_call (tree (Bare.call_chosen p (bare_expression e.value))) (λ k. refl)
    (marks words.Call p ⊳ (signs words.LeftParenthesis ⊳ (expression_puts e.value ⊳ signs words.RightParenthesis))) (λ s. refl)

-- the parts of statements
pub parentheses_puts : {w : Grows} {v : Value} → Pushes w (v ∷ []) → Pushes (in_parentheses w) (sign (kinds.Word words.LeftParenthesis) ∷ v ∷ sign (kinds.Word words.RightParenthesis) ∷ [])
parentheses_puts p = signs words.LeftParenthesis ⊳ (p ⊳ signs words.RightParenthesis)

pub value_puts : (o : Option Expression) → Pushes (value_text o) (optionally bare_expression o ∷ [])
value_puts None = left_out optional_value nothing (λ k. refl) (λ s. refl)
value_puts (Some e) = formed optional_value optional_value_expression (tree (bare_expression e)) (λ k. refl) (expression_puts e) (λ s. refl)

pub for_start_puts : (o : Option ForStart) → Pushes (for_start_text o) (optionally bare_for_start o ∷ [])
for_start_puts None = left_out for_start nothing (λ k. refl) (λ s. refl)
for_start_puts (Some x) = formed for_start for_start_int (tree (bare_for_start x)) (λ k. refl) (signs words.Int ⊳ (names x.name ⊳ (signs words.Equal ⊳ expression_puts x.value))) (λ s. refl)

pub for_step_puts : (o : Option Simple) → Pushes (for_step_text o) (optionally bare_simple o ∷ [])
for_step_puts None = left_out for_step nothing (λ k. refl) (λ s. refl)
for_step_puts (Some x) = formed for_step for_step_simple (tree (bare_simple x)) (λ k. refl) (simple_puts x) (λ s. refl)

abbrev pub events_value : Option Events → Value
events_value None = nothing
events_value (Some e) = events_are e

pub events_same : (o : Option Events) → events_in (events_value o) ≡ o
events_same None = refl
events_same (Some e) = refl

pub events_puts : (o : Option Events) → Pushes (events_text o) (events_value o ∷ [])
events_puts None = left_out events nothing (λ k. refl) (λ s. refl)
events_puts (Some e) = formed events events_int (events_are e) (λ k. refl) (signs words.Int ⊳ (names e.old ⊳ (signs words.Comma ⊳ (signs words.Int ⊳ names e.new)))) (λ s. refl)

pub mode_puts : (m : WithMode) → Pushes (mode_text m) (mode_is m ∷ [])
mode_puts modes.Atomic = formed with_mode with_mode_atomic (mode_is modes.Atomic) (λ k. refl) (signs words.Atomic) (λ s. refl)
mode_puts modes.Delay = formed with_mode with_mode_delay (mode_is modes.Delay) (λ k. refl) (signs words.Delay) (λ s. refl)

pub over_puts : (g : Generators) → Pushes (in_parentheses (generators_text (written_generators g))) (sign (kinds.Word words.LeftParenthesis) ∷ tree (bare_generators g) ∷ sign (kinds.Word words.RightParenthesis) ∷ [])
over_puts g = parentheses_puts (generators_puts (good_generators g))

pub block_puts : (p : Place) {all : List Grows} {bs : List Bare} → EachOf IsTree all bs → Pushes (block_text p all) (tree (Bare.block p (bares.listed bs)) ∷ [])
block_puts p {bs = bs} ps = formed block block_left_brace (tree (Bare.block p (bares.listed bs))) (λ k. refl)
    (marks words.LeftBrace p ⊳ (rests more_statement (each_map (λ x b q. formed_cons statements statements_statement b (λ k. refl) q (λ l s. refl)) ps) (λ X. form statements [] ∷ X) (left_out statements nothing (λ k. refl) (λ s. refl))
    ⊳ signs words.RightBrace))
    (λ s. ap (λ x. tree (Bare.block p x) ∷ s) (list_rest bs))
